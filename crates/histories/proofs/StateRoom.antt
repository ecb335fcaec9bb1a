-- What a state takes of the lent memory has its room: after a frame arrived, and while the oldest scan leaves. Assumes
-- nothing.
use Prim.Native.Nat.{ℕ, zero, suc, ◌+◌, ◌≤◌, ◌<◌}
use native.Mathlib.Nat.{le_refl, le_trans}
use native.Mathlib.Omega.{arith}
use mathlib.Core.Path.{◌≡◌, refl, sym, ap, subst}
use mathlib.Core.Bool.{Bool, true, false, ◌||◌}
use mathlib.Core.List.{List, [], ◌∷◌, map}
use lib.ListN.{length, length-map}
use lib.Dec.{T, eqb}
use Rattle.bounds.specs.Bounds.{DETECTIONS, FROZEN, HEIGHTS, OWNED}
use Rattle.engine.specs.declared.config.FgoConfig.{FgoConfig}
use Rattle.engine.specs.declared.types.Association.{Association}
use Rattle.engine.specs.Frame.{Frame}
use Rattle.fgo_spec.specs.Lists.{has, any, find, found_if, is_some}
use Rattle.fgo_spec.specs.Windows.{Scan, Prefix, live, window_count}
use Rattle.fgo_spec.specs.Placing.{Placing}
use Rattle.fgo_spec.specs.Owning.{latest, reown}
use Rattle.fgo_spec.specs.Freezing.{freeze_one, freeze_all, freeze_scan}
use Rattle.fgo_spec.specs.Refiner.{State, placed, searched, arrive}
use Rattle.fgo_spec.specs.Rule.{All, Rise, Rule}
use Rattle.fgo_spec.proofs.Accepting.{Room}
use Rattle.fgo_spec.proofs.Arrival.{Arrived, arrived, place_is}
use Rattle.fgo_spec.proofs.Counting.{count-le, no_longer}
use Rattle.fgo_spec.proofs.Growing.{freeze-length}
use Rattle.fgo_spec.proofs.Placement.{Placed, Has, joined_ids}
use Rattle.fgo_spec.proofs.Tables.{keys, Distinct}
use Rattle.fgo_spec.proofs.Windows.{detections_cons}
use Rattle.fgo_freeze.proofs.Order.{put-grows}
use Rattle.fgo_arrive.proofs.Placements.{before, owners_fit}

-- ---- of a state

-- no part has more heights than there is room for
abbrev pub Low : ℕ × Prefix → Type 0
Low e = length e.1.heights ≤ HEIGHTS

-- there is room for the owners, and for the parts with those that the held scans may add
pub record Fits (t : State) : Type 0 where
  pub owners : length t.owners ≤ OWNED
  pub parts : length t.prefixes + window_count t.scans ≤ DETECTIONS
  pub heights : All Low t.prefixes

rise_low : (first next x : ℕ) (ps : List (ℕ × Prefix)) → Rise first next x ps → All Low ps
rise_low first next x [] r = tt
rise_low first next x (e ∷ ps) r = (r.2.most_height, rise_low first next e.0 ps r.3)

pub rule_fits : (c : FgoConfig) (t : State) → Rule c t → Fits t
rule_fits c t r = record { owners = r.few; parts = r.sum; heights = rise_low t.first t.next_id 0 t.prefixes r.prefixes }

-- ---- a frame arrives

-- a key that a table has is found
key_found : {A : Type 0} (x : ℕ) (t : List (ℕ × A)) → has x (keys t) ≡ is_some (find x t)
unfolding any find
key_found x [] = refl
key_found {A} x (e ∷ t) = go (eqb x e.0) (key_found x t)
  where
    go : (b : Bool) → has x (keys t) ≡ is_some (find x t) → (b || has x (keys t)) ≡ is_some (found_if b e.1 (find x t))
    go true r = refl
    go false r = r

-- a table that has all the keys of another one has no fewer entries
no_fewer : (os us : List (ℕ × ℕ)) → Distinct os → ((e : ℕ) → Has os e → Has us e) → length os ≤ length us
no_fewer os us d h =
    let has-all : (x : ℕ) → T (has x (keys os)) → T (has x (keys us)) = λ x t. subst T (sym (key_found x us)) (h x (subst T (key_found x os) t)) in
    let l : length (keys os) ≤ length (keys us) = no_longer (keys os) (keys us) d has-all in
    omega (arith, length-map os (λ o. o.0), length-map us (λ o. o.0))

module _ (c : FgoConfig) (t : State) (f : Frame) (rule : Rule c t) (room : Room t f) where
  abbrev p : Placing
  p = placed t f

  pub arrives : Arrived c t f (λ x. x < t.next_id) (searched c t f).search
  arrives = arrived c t f (λ x. x < t.next_id) (before c t f rule)

  pub places : Placed (λ x. x < t.next_id) t.next_id t.owners (joined_ids (keys t.owners) f.associations) f.associations p
  places = place_is c t f (λ x. x < t.next_id) (before c t f rule)

  -- placing leaves no fewer owners, and there is room for them
  pub owners_grow : length t.owners ≤ length p.owners
  owners_grow = no_fewer t.owners p.owners rule.distinct places.grows

  pub owners_room : length p.owners ≤ OWNED
  owners_room = owners_fit c t f rule room

  pub arrived_fits : Fits (arrive c t f)
  unfolding arrive reown
  arrived_fits =
      let ss = (searched c t f).search.scans in
      let new : ℕ × ℕ → ℕ × ℕ = λ o. (o.0, latest o.0 o.1 ss) in
      record {
        owners = omega (arith, count-le (λ o. live t.prefixes ss o.1) (map new p.owners), length-map p.owners new, owners_room);
        parts = omega (arith, arrives.few, room.sum);
        heights = (rule_fits c t rule).heights;
      }

-- ---- the oldest scan leaves

-- no part goes
freeze_grows :
    (c : FgoConfig) (n : ℕ) (f : Frame) (l : List Association) (is : List ℕ) (ps : List (ℕ × Prefix)) →
    length ps ≤ length (freeze_all c n f l is ps)
unfolding freeze_all
freeze_grows c n f [] is ps = le_refl (length ps)
freeze_grows c n f (a ∷ l) [] ps = le_refl (length ps)
freeze_grows c n f (a ∷ l) (i ∷ is) ps = le_trans (one i) (freeze_grows c n f l is (freeze_one c n f ps a i))
  where
    one : (i : ℕ) → length ps ≤ length (freeze_one c n f ps a i)
    one zero = le_refl (length ps)
    one (suc i) = put-grows (suc i) _ ps

module _ (c : FgoConfig) (t : State) (s : Scan) (ss : List Scan) (q : t.scans ≡ s ∷ ss) (h : Fits t) where
  -- freezing leaves no fewer parts, and there is room for them
  pub frozen_grow : length t.prefixes ≤ length (freeze_scan c t.first s t.prefixes)
  frozen_grow = freeze_grows c t.first s.frame s.frame.associations s.ids t.prefixes

  pub frozen_room : length (freeze_scan c t.first s t.prefixes) ≤ FROZEN
  frozen_room = omega (arith, freeze-length c t.first s.frame s.frame.associations s.ids t.prefixes, h.parts, ap window_count q, detections_cons s ss)
