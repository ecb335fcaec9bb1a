-- A move leaves the rows of the tracks that it does not name. Assumes nothing.
use Prim.Native.Nat.{ℕ, zero, suc, ◌+◌, ◌≤◌, ◌<◌}
use native.Mathlib.Omega.{arith}
use mathlib.Core.Path.{◌≡◌, refl, sym, ap, ◌∙◌}
use mathlib.Core.Bool.{Bool, true, false, cond}
use mathlib.Core.List.{List, [], ◌∷◌, map}
use lib.ListN.{length, get_or}
use lib.Dec.{eqb, leb}
use borrow.Author.Tests.{eqb-true, ne_eqb}
use Rattle.bounds.specs.Bounds.{SCANS, DETECTIONS}
use Rattle.fgo_spec.specs.declared.moves.PairMove.{PairMove}
use Rattle.fgo_spec.specs.declared.moves.PairMove.TheVariants.{Swap, Merge}
use Rattle.fgo_spec.specs.declared.moves.TrackMove.{TrackMove}
use Rattle.fgo_spec.specs.declared.moves.TrackMove.TheVariants.{Split, Drop}
use Rattle.fgo_spec.specs.Lists.{up_from}
use Rattle.search_rows.specs.declared.moves.Targets.{Targets}
use Rattle.fgo_spec.specs.Gathered.{column_at}
use Rattle.search_rows.specs.Rows.{Starts, slot_in, row_entry, row_of}
use Rattle.search_rows.specs.Moves.{retarget, become, keeper_target, other_target, pair_targets, track_targets, renamed_from, has_slot, pair_ids, track_ids}
use Rattle.search.specs.Pass.{Scene, row_on}
use Rattle.search_rows.proofs.Renamed.{renamed_column}

-- neither of the two becomes x
abbrev Spares : ℕ → Targets → Type 0
Spares x t = (x ≡ t.a.0 → ⊥) × (x ≡ t.b.0 → ⊥)

spares_cond : (x : ℕ) (q : Bool) (t u : Targets) → Spares x t → Spares x u → Spares x (cond q t u)
spares_cond x true t u h g = h
spares_cond x false t u h g = g

module _ (x : ℕ) (positive : 0 < x) where
  no_zero : x ≡ 0 → ⊥
  no_zero e = omega arith

  spares-kept : (own h : Bool) (k : ℕ) → (x ≡ k → ⊥) → (x ≡ keeper_target own h k → ⊥) × (x ≡ other_target own h k → ⊥)
  spares-kept true true k n = (n, no_zero)
  spares-kept true false k n = (n, n)
  spares-kept false true k n = (no_zero, n)
  spares-kept false false k n = (n, n)

  module _ (a b : ℕ) (na : x ≡ a → ⊥) (nb : x ≡ b → ⊥) where
    pair-spares : (m : PairMove) (n : ℕ) (ha hb : Bool) → Spares x (pair_targets m a b n ha hb)
    pair-spares (Swap f g) n ha hb = spares_cond x (leb f.0 n) (become b a) (become a b) (nb, na) (na, nb)
    pair-spares (Merge k own g) n ha hb =
        spares_cond x (eqb a k.0) (become (keeper_target own hb a) (other_target own ha a)) (become (other_target own hb b) (keeper_target own ha b))
        ((spares-kept own hb a na).0, (spares-kept own ha a na).1) ((spares-kept own hb b nb).1, (spares-kept own ha b nb).0)

    track-spares : (m : TrackMove) (n : ℕ) → Spares x (track_targets m a b n)
    track-spares (Split f g) n = spares_cond x (leb f.0 n) (become b a) (become a b) (nb, na) (na, nb)
    track-spares (Drop f g) n = spares_cond x (eqb f.0 n) (become 0 b) (become a b) (no_zero, nb) (na, nb)

    -- x stands after the renaming just where it stood before
    retarget-other : (t : Targets) → Spares x t → (i : ℕ) → eqb x (retarget a b t i) ≡ eqb x i
    retarget-other t h i = go (eqb a i) (eqb b i) refl refl
      where
        go : (p q : Bool) → eqb a i ≡ p → eqb b i ≡ q → eqb x (cond p t.a.0 (cond q t.b.0 i)) ≡ eqb x i
        go true q e f = ne_eqb x t.a.0 h.0 ∙ sym (ne_eqb x i (λ z. na (z ∙ sym (eqb-true a i e))))
        go false true e f = ne_eqb x t.b.0 h.1 ∙ sym (ne_eqb x i (λ z. nb (z ∙ sym (eqb-true b i f))))
        go false false e f = refl

    slot_other : (t : Targets) → Spares x t → (n : ℕ) (gs : List ℕ) → slot_in x n (map (retarget a b t) gs) ≡ slot_in x n gs
    unfolding slot_in
    slot_other t h n [] = refl
    slot_other t h n (g ∷ gs) = λ i. cond (retarget-other t h g i) (suc n) (slot_other t h (suc n) gs i)

    module _ {starts : List ℕ} (s : Starts starts) (ids : List ℕ) (long : length ids ≡ DETECTIONS) (t : ℕ → Targets) (h : (k : ℕ) → Spares x (t k)) where
      slots-other : (n k : ℕ) → k + n ≤ SCANS → map (row_entry starts (renamed_from starts a b t 0 SCANS ids) x) (up_from k n) ≡ map (row_entry starts ids x) (up_from k n)
      unfolding up_from
      slots-other zero k b' = refl
      slots-other (suc n) k b' =
          let one : row_entry starts (renamed_from starts a b t 0 SCANS ids) x k ≡ row_entry starts ids x k =
          ap (slot_in x (get_or starts k 0)) (renamed_column s a b t ids long k (omega arith)) ∙ slot_other (t k) (h k) (get_or starts k 0) (column_at starts ids k) in
          λ i. one i ∷ slots-other n (suc k) (omega arith) i

      renamed-other : row_of starts (renamed_from starts a b t 0 SCANS ids) x ≡ row_of starts ids x
      unfolding row_of
      renamed-other = slots-other SCANS 0 (omega arith)

module _ (e : Scene) (begins : Starts e.starts) (ids : List ℕ) (long : length ids ≡ DETECTIONS) (x : ℕ) (positive : 0 < x) (a b : ℕ) (na : x ≡ a → ⊥) (nb : x ≡ b → ⊥) where
  pub pair_other : (m : PairMove) (ra rb : List ℕ) → row_on e (pair_ids e.hall.first.0 e.starts m a b ra rb ids) x ≡ row_on e ids x
  unfolding pair_ids
  pair_other m ra rb =
      renamed-other x positive a b na nb begins ids long (λ k. pair_targets m a b (e.hall.first.0 + k) (has_slot ra k) (has_slot rb k))
      (λ k. pair-spares x positive a b na nb m (e.hall.first.0 + k) (has_slot ra k) (has_slot rb k))

  -- here b is what a new track would be
  pub track_other : (m : TrackMove) → row_on e (track_ids e.hall.first.0 e.starts m a b ids) x ≡ row_on e ids x
  unfolding track_ids
  track_other m =
      renamed-other x positive a b na nb begins ids long (λ k. track_targets m a b (e.hall.first.0 + k))
      (λ k. track-spares x positive a b na nb m (e.hall.first.0 + k))
