-- The detections of a scan frozen one after the other. Assumes nothing.
use Prim.Native.Nat.{ℕ, zero, suc, ◌+◌, ◌≤◌, ◌<◌}
use mathlib.Core.Path.{◌≡◌, refl}
use mathlib.Core.List.{List, ◌∷◌}
use native.Mathlib.Numerals.{add-one}
use native.Mathlib.Omega.{arith}
use borrow.Author.Tests.{lt-ltb}
use lib.ListN.{length, drop, get_or, drop_of_length-le}
use lib.Seq.{drop-cons}
use Rattle.bounds.specs.Bounds.{ACCEPTED, FROZEN}
use Rattle.engine.specs.declared.config.FgoConfig.{FgoConfig}
use Rattle.engine.specs.declared.types.Association.{Association}
use Rattle.engine.specs.Frame.{Frame, no_association}
use Rattle.fgo_spec.specs.Lists.{keep, find}
use Rattle.fgo_spec.specs.Windows.{Scan, Prefix, detection_of, in_windows}
use Rattle.fgo_spec.specs.Freezing.{freeze, freeze_one, freeze_all, freeze_scan}
use Rattle.fgo_spec.proofs.Tables.{put-length}
use Rattle.fgo_freeze.specs.Frozen.{Ordered, frozen_by}
use Rattle.fgo_freeze.proofs.Order.{ordered_more, ordered_put, most_found, frozen_fits}

one_frozen : (c : FgoConfig) (n : ℕ) (f : Frame) (a : Association) (x : ℕ) (ps : List (ℕ × Prefix)) → 0 < x → freeze_one c n f ps a x ≡ frozen_by c x (detection_of n f a) ps
one_frozen c n f a zero ps h = absurd (omega arith)
one_frozen c n f a (suc i) ps h = refl

none_frozen : (c : FgoConfig) (n : ℕ) (f : Frame) (a : Association) (x : ℕ) (ps : List (ℕ × Prefix)) → x ≡ 0 → freeze_one c n f ps a x ≡ ps
none_frozen c n f a x ps e = rw e

count-clutter : (x : ℕ) (is : List ℕ) → x ≡ 0 → in_windows (x ∷ is) ≡ in_windows is
unfolding keep
count-clutter x is e = rw e

count-window : (x : ℕ) (is : List ℕ) → 0 < x → in_windows (x ∷ is) ≡ suc (in_windows is)
unfolding keep
count-window x is h = rw (lt-ltb 0 x h)

-- the first j associations of scan n are frozen: what is left of it gives the whole
pub record Going (c : FgoConfig) (n : ℕ) (s : Scan) (ps : List (ℕ × Prefix)) (j : ℕ) (qs : List (ℕ × Prefix)) : Type 0 where
  pub rest : freeze_all c n s.frame (drop j s.frame.associations) (drop j s.ids) qs ≡ freeze_scan c n s ps
  pub ordered : Ordered (ACCEPTED + j) 0 qs
  pub room : length qs + in_windows (drop j s.ids) ≤ FROZEN

module _ (c : FgoConfig) (n : ℕ) (s : Scan) (ps : List (ℕ × Prefix)) where
  pub going_none : Ordered ACCEPTED 0 ps → length ps + in_windows s.ids ≤ FROZEN → Going c n s ps 0 ps
  going_none o r = record { rest = refl; ordered = o; room = r }

  module _ {j : ℕ} {qs : List (ℕ × Prefix)} (g : Going c n s ps j qs) (la : j < length s.frame.associations) (li : j < length s.ids) where
    abbrev a : Association
    a = get_or s.frame.associations j no_association

    abbrev x : ℕ
    x = get_or s.ids j 0

    -- what is left, from association j on
    step : freeze_all c n s.frame (drop (suc j) s.frame.associations) (drop (suc j) s.ids) (freeze_one c n s.frame qs a x) ≡ freeze_scan c n s ps
    unfolding freeze_all
    step = rw (drop-cons s.frame.associations j no_association la, drop-cons s.ids j 0 li) at g.rest

    left : length qs + in_windows (x ∷ drop (suc j) s.ids) ≤ FROZEN
    left = rw (drop-cons s.ids j 0 li) at g.room

    pub going_skip : x ≡ 0 → Going c n s ps (j + 1) qs
    going_skip e =
        rw add-one
        (record {
          rest = rw (none_frozen c n s.frame a x qs e) at step;
          ordered = ordered_more (ACCEPTED + j) (ACCEPTED + suc j) 0 qs (omega arith) g.ordered;
          room = rw (count-clutter x (drop (suc j) s.ids) e) at left;
        })

    -- there is room for one more
    pub going_room : 0 < x → length qs < FROZEN
    going_room h = omega (arith, left, count-window x (drop (suc j) s.ids) h)

    pub going_one : 0 < x → Going c n s ps (j + 1) (frozen_by c x (detection_of n s.frame a) qs)
    going_one h =
        let d = detection_of n s.frame a in
        let b : ℕ = ACCEPTED + j in
        let w = frozen_fits c b (find x qs) d (most_found b 0 x qs g.ordered) in
        let z : ACCEPTED + suc j ≡ suc b = omega arith in
        rw add-one
        (record {
          rest = rw (one_frozen c n s.frame a x qs h) at step;
          ordered = rw z (ordered_put b x (freeze c (find x qs) d) w.0 w.1 0 qs g.ordered h);
          room = omega (arith, left, count-window x (drop (suc j) s.ids) h, put-length x (freeze c (find x qs) d) qs);
        })

  pub going_done : {j : ℕ} {qs : List (ℕ × Prefix)} → Going c n s ps j qs → length s.frame.associations ≤ j → qs ≡ freeze_scan c n s ps
  unfolding freeze_all
  going_done {j} g h = rw (drop_of_length-le s.frame.associations {i = j} h) at g.rest
