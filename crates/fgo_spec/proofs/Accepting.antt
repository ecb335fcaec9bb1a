-- A frame that no check refuses keeps the invariant, with one scan more. Assumes nothing.
use Prim.Native.Nat.{ℕ, suc, ◌+◌, ◌≤◌, ◌<◌}
use native.Mathlib.Nat.{le_trans}
use native.Mathlib.Omega.{arith}
use mathlib.Core.Path.{◌≡◌, refl, sym, ap, ◌∙◌}
use mathlib.Core.Logic.{inl, inr}
use mathlib.Core.Bool.{Bool, true, false, ◌||◌}
use mathlib.Core.List.{List, [], ◌∷◌, ◌++◌, map, append_assoc}
use mathlib.Core.Option.{none, some-ne-none}
use lib.ListN.{length, length-map, length-append}
use lib.Dec.{leb}
use borrow.Author.Tests.{ltb-false, leb-false}
use Rattle.bounds.specs.Bounds.{ACCEPTED, DETECTIONS, OWNED}
use Rattle.engine.specs.declared.config.FgoConfig.{FgoConfig}
use Rattle.engine.specs.Frame.{Frame}
use Rattle.fgo_spec.specs.Windows.{window_count}
use Rattle.fgo_spec.specs.Searching.{Search}
use Rattle.fgo_spec.specs.Emitting.{Emitted}
use Rattle.fgo_spec.specs.Refiner.{State, placed, searched, arrive, full8, full9, full10, id_count, first_of}
use Rattle.fgo_spec.specs.History.{scans_of}
use Rattle.fgo_spec.proofs.All.{All_weaken}
use Rattle.fgo_spec.proofs.Tables.{keys, up_found}
use Rattle.fgo_spec.proofs.Presence.{Names, live_is}
use Rattle.fgo_spec.proofs.Keeping.{Known}
use Rattle.fgo_spec.proofs.Placement.{joined_ids}
use Rattle.fgo_spec.proofs.Owners.{owned_reown}
use Rattle.fgo_spec.proofs.Arrival.{Column, column_weaken, Arrived, arrived}
use Rattle.fgo_spec.proofs.Invariant.{Good, Inv}

-- ---- what the refusals leave

module _ (t : State) (f : Frame) where
  pub record Room : Type 0 where
    pub scans : t.first + length t.scans < ACCEPTED
    pub sum : length t.prefixes + window_count t.scans + id_count f.associations ≤ DETECTIONS
    pub entries : length (joined_ids (keys t.owners) f.associations) ≤ OWNED

  pub has_room : first_of (full8 t) (full9 t f) (full10 t f) ≡ none → Room
  unfolding full8 full9 full10
  has_room q =
      let h = all-false (full8 t) (full9 t f) (full10 t f) q in
      record { scans = eight h.0; sum = nine h.1; entries = ten h.2 }
    where
      all-false : (a b d : Bool) → first_of a b d ≡ none → (a ≡ false) × (b ≡ false) × (d ≡ false)
      all-false true b d e = absurd (some-ne-none _ e)
      all-false false true d e = absurd (some-ne-none _ e)
      all-false false false true e = absurd (some-ne-none _ e)
      all-false false false false e = (refl, refl, refl)

      left_false : (a b : Bool) → (a || b) ≡ false → a ≡ false
      left_false true b e = e
      left_false false b e = refl

      eight : full8 t ≡ false → t.first + length t.scans < ACCEPTED
      eight e = leb-false ACCEPTED (t.first + length t.scans) (left_false (leb ACCEPTED (t.first + length t.scans)) _ e)

      nine : full9 t f ≡ false → length t.prefixes + window_count t.scans + id_count f.associations ≤ DETECTIONS
      nine e = ltb-false DETECTIONS (length t.prefixes + window_count t.scans + id_count f.associations) e

      ten : full10 t f ≡ false → length (joined_ids (keys t.owners) f.associations) ≤ OWNED
      ten e = ltb-false OWNED (length (joined_ids (keys t.owners) f.associations)) e

module _ (c : FgoConfig) (es : List Emitted) (acc : List Frame) (t : State) (f : Frame) (room : Room t f) (i : Inv c es acc t) where
  abbrev Old : ℕ → Type 0
  Old x = Good c (scans_of es) t.prefixes t.next_id x

  abbrev r : Search
  r = (searched c t f).search

  a : Arrived c t f Old r
  a =
      arrived c t f Old
      (record {
        begun = i.begun;
        below = λ x o. o.1;
        alive =
            λ x k. (live_is Old t.prefixes t.scans (λ x p e. (up_found 0 x t.prefixes i.rise e, i.frozen x p e))
            (All_weaken (Column Old) (Names Old) t.scans (λ s k. k.named) i.held) x k).1;
        columns = i.held;
        tied = i.owners.tied;
        distinct = i.owners.distinct;
      })

  pub arrive-length : length (arrive c t f).scans ≡ suc (length t.scans)
  unfolding arrive
  arrive-length =
      sym (length-map r.scans (λ s. s.frame))
      ∙ ap length a.frames
      ∙ length-append (map (λ s. s.frame) t.scans) (f ∷ [])
      ∙ ap (λ n. n + 1) (length-map t.scans (λ s. s.frame))
      ∙ omega arith

  pub inv_arrive : Inv c es (acc ++ (f ∷ [])) (arrive c t f)
  unfolding arrive
  inv_arrive =
      record {
        order =
            ap (λ l. map (λ e. e.scan.frame) es ++ l) a.frames
            ∙ sym (append_assoc (map (λ e. e.scan.frame) es) (map (λ s. s.frame) t.scans) (f ∷ []))
            ∙ ap (λ l. l ++ (f ∷ [])) i.order;
        first = i.first;
        room = let h = room.scans in omega (arith, arrive-length);
        begun = le_trans i.begun a.low;
        rise = i.rise;
        frozen = λ x p e. ((i.frozen x p e).0, le_trans (i.frozen x p e).1 a.low);
        held = All_weaken (Column (Known Old t.next_id r.next_id)) (Column New) r.scans (column_weaken (Known Old t.next_id r.next_id) New good) a.columns;
        fresh = λ x h. i.fresh x (le_trans a.low h);
        dead = i.dead;
        gone =
            All_weaken (Column (λ x. x < t.next_id)) (Column (λ x. x < r.next_id)) (scans_of es)
            (column_weaken (λ x. x < t.next_id) (λ x. x < r.next_id) (λ x h. le_trans h a.low)) i.gone;
        sum = let h = room.sum in let k = a.few in omega arith;
        owners = owned_reown t.prefixes r.scans (placed t f).owners a.tied a.distinct (le_trans a.entries room.entries);
      }
    where
      New : ℕ → Type 0
      New x = Good c (scans_of es) t.prefixes r.next_id x

      good : (x : ℕ) → Known Old t.next_id r.next_id x → New x
      good x (inl o) = (o.0, le_trans o.1 a.low)
      good x (inr k) = (i.fresh x k.0, k.1)
