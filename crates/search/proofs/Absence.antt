-- An id that stands in no scan: it has no window, it is not present, it has no move, and no move of others brings it
-- back. Assumes nothing.
use Rattle.std.specs.Prelude.{Option, Some, None}
use Prim.Native.Nat.{ℕ, suc, ◌+◌, ◌<◌}
use native.Mathlib.Nat.{eq-zero-or-pos}
use native.Mathlib.Omega.{arith}
use mathlib.Core.Path.{◌≡◌, refl, sym, ap, ◌∙◌, subst}
use mathlib.Core.Logic.{◌⊎◌, inl, inr}
use mathlib.Core.Bool.{Bool, true, false, cond}
use mathlib.Core.List.{List, [], ◌∷◌, ◌++◌, map, foldl}
use lib.ListN.{length}
use lib.Dec.{T, eqb, leb, ltb}
use Rattle.engine.specs.declared.config.FgoConfig.{FgoConfig}
use Rattle.fgo_spec.specs.declared.moves.PairMove.{PairMove}
use Rattle.fgo_spec.specs.declared.moves.PairMove.TheVariants.{Swap, Merge}
use Rattle.fgo_spec.specs.declared.moves.TrackMove.{TrackMove}
use Rattle.fgo_spec.specs.declared.moves.TrackMove.TheVariants.{Split, Drop}
use Rattle.fgo_spec.specs.Lists.{has, times, find, is_some}
use Rattle.fgo_spec.specs.Windows.{Scan, Detection, Prefix, window, present}
use Rattle.fgo_spec.specs.Searching.{exchange, clear, recolumn, absorb, swap_column, drop_column, other_of, rest, droppable, after_pair, after_track, try_split, try_drop, track_candidates, best_of_track, better_track, track_cost}
use Rattle.fgo_spec.specs.Rule.{All}
use Rattle.fgo_spec.proofs.All.{All_mem, mem_All}
use Rattle.fgo_spec.proofs.Renaming.{exchange_other, times-exchange, times-clear}
use Rattle.fgo_spec.proofs.Presence.{Names, present_is, stands_present}
use Rattle.fgo_spec.proofs.Windows.{under_absent}
use Rattle.search.proofs.Standing.{Fits}

-- x stands in no scan
abbrev pub Absent : ℕ → List Scan → Type 0
Absent x ss = All (λ s. times x s.ids ≡ 0) ss

absent_window : (x n : ℕ) (ss : List Scan) → Absent x ss → window x n ss ≡ []
unfolding window
absent_window x n [] h = refl
absent_window x n (s ∷ ss) h = λ i. under_absent n s.frame x s.frame.associations s.ids h.0 i ++ absent_window x (suc n) ss h.1 i

-- ---- who is not present stands nowhere, and who stands nowhere is not present

pub missing_absent : (x : ℕ) (ss : List Scan) → 0 < x → has x (present ss) ≡ false → Absent x ss
missing_absent x ss h e = mem_All (λ s. times x s.ids ≡ 0) ss λ s m. elim (eq-zero-or-pos (times x s.ids)) [ inl z ↦ z | inr p ↦ absurd (subst T e (stands_present x ss h m p)) ]

pub absent_missing : (x : ℕ) (ss : List Scan) → (0 < x → Absent x ss) → has x (present ss) ≡ false
absent_missing x ss h = go (has x (present ss)) refl
  where
    Q : ℕ → Type 0
    Q y = Absent y ss → ⊥

    named : All (Names Q) ss
    named = mem_All (Names Q) ss (λ s m y p t a. let z : times y s.ids ≡ 0 = All_mem (λ s. times y s.ids ≡ 0) ss a m in omega arith)

    go : (b : Bool) → has x (present ss) ≡ b → b ≡ false
    go true e = let p = present_is Q ss named x (subst T (sym e) tt) in absurd (p.1 (h p.0))
    go false e = refl

-- ---- moves of others

absent_recolumn : (x : ℕ) (g : ℕ → List ℕ → List ℕ) → ((n : ℕ) (is : List ℕ) → times x is ≡ 0 → times x (g n is) ≡ 0) → (n : ℕ) (ss : List Scan) → Absent x ss → Absent x (recolumn g n ss)
unfolding recolumn
absent_recolumn x g k n [] h = tt
absent_recolumn x g k n (s ∷ ss) h = (k n s.ids h.0, absent_recolumn x g k (suc n) ss h.1)

absent_cond : (x : ℕ) (b : Bool) (is js : List ℕ) → times x is ≡ 0 → times x js ≡ 0 → times x (cond b is js) ≡ 0
absent_cond x true is js h g = h
absent_cond x false is js h g = g

absent_exchange : (a b x : ℕ) → (a ≡ x → ⊥) → (b ≡ x → ⊥) → (is : List ℕ) → times x is ≡ 0 → times x (map (exchange a b) is) ≡ 0
absent_exchange a b x p q is h = times-exchange a b x is ∙ ap (λ y. times y is) (exchange_other a b x p q) ∙ h

absent_clear : (a x : ℕ) → 0 < x → (is : List ℕ) → times x is ≡ 0 → times x (map (clear a) is) ≡ 0
absent_clear a x h is e = let l = times-clear a x is h in omega arith

absent_absorb : (k o x : ℕ) → 0 < x → (k ≡ x → ⊥) → (o ≡ x → ⊥) → (own : Bool) (is : List ℕ) → times x is ≡ 0 → times x (absorb own k o is) ≡ 0
absent_absorb k o x h p q true is e = absent_cond x (has k is) (map (clear o) is) (map (exchange k o) is) (absent_clear o x h is e) (absent_exchange k o x p q is e)
absent_absorb k o x h p q false is e = absent_cond x (has o is) (map (exchange k o) (map (clear k) is)) is (absent_exchange k o x p q (map (clear k) is) (absent_clear k x h is e)) e

module _ (c : FgoConfig) (first : ℕ) (ps : List (ℕ × Prefix)) where
  absent-swapped : (a b f x : ℕ) → (a ≡ x → ⊥) → (b ≡ x → ⊥) → (ss : List Scan) → Absent x ss → Absent x (recolumn (swap_column a b f) first ss)
  absent-swapped a b f x p q = absent_recolumn x (swap_column a b f) (λ n is e. absent_cond x (leb f n) (map (exchange a b) is) is (absent_exchange a b x p q is e) e) first

  pub absent_pair : (a b x : ℕ) → 0 < x → (a ≡ x → ⊥) → (b ≡ x → ⊥) → (ss : List Scan) (m : Option PairMove) → Fits a b m → Absent x ss → Absent x (after_pair c first ps a b ss m)
  absent_pair a b x h p q ss None t k = k
  absent_pair a b x h p q ss (Some (Swap f g)) t k = absent-swapped a b f.0 x p q ss k
  absent_pair a b x h p q ss (Some (Merge i own g)) t k = absent_recolumn x (λ n. absorb own i.0 (other_of a b i.0)) (λ n. absent_absorb i.0 (other_of a b i.0) x h (keeper t) (other (eqb a i.0)) own) first ss k
    where
      keeper : (i.0 ≡ a) ⊎ (i.0 ≡ b) → i.0 ≡ x → ⊥
      keeper (inl d) r = p (sym d ∙ r)
      keeper (inr d) r = q (sym d ∙ r)

      other : (d : Bool) → cond d b a ≡ x → ⊥
      other true = q
      other false = p

  pub absent_track : (a y x : ℕ) → 0 < x → (a ≡ x → ⊥) → (y ≡ x → ⊥) → (ss : List Scan) (m : Option TrackMove) → Absent x ss → Absent x (after_track c first ps a y ss m)
  absent_track a y x h p q ss None k = k
  absent_track a y x h p q ss (Some (Split f g)) k = absent-swapped a y f.0 x p q ss k
  absent_track a y x h p q ss (Some (Drop f g)) k = absent_recolumn x (drop_column a f.0) (λ n is e. absent_cond x (eqb f.0 n) (map (clear a) is) is (absent_clear a x h is e) e) first ss k

  -- who has no window has no move
  pub absent_rests : (x y : ℕ) (ss : List Scan) → Absent x ss → best_of_track c first ps ss y x ≡ None
  unfolding best_of_track track_candidates
  absent_rests x y ss h = (λ i. foldl better_track None (map (try_split c first ps x y ss (track_cost c first ps x ss)) (rest (e i)) ++ map (try_drop c first ps x ss (track_cost c first ps x ss)) (droppable (is_some (find x ps)) (e i)))) ∙ go (ltb 1 (length {A = Detection} [] + cond (is_some (find x ps)) 1 0))
    where
      e : window x first ss ≡ []
      e = absent_window x first ss h

      go : (b : Bool) → foldl better_track None (map (try_split c first ps x y ss (track_cost c first ps x ss)) (rest []) ++ map (try_drop c first ps x ss (track_cost c first ps x ss)) (cond b [] [])) ≡ None
      go true = unfold rest in refl
      go false = unfold rest in refl
