use Rattle.std.proofs.Common.{◌≡◌, ℕ, zero, suc, ◌+◌, ◌<◌, List, [], ◌∷◌, length, get_or, refl, ap, ◌∙◌, arith, rules, tests}
use Rattle.std.proofs.lemmas.Iterator.{YieldsList-from_slice, IsFirst-from_position}
use Rattle.std.specs.Prelude.{Option, Some, None, MatchOption}
use Rattle.std.specs.List.{AllWithin, HoldsAt}
use native.Mathlib.Numerals.{add-one}
use borrow.Author.Tests.{eq-eqb, ne_eqb}
use Rattle.fgo_spec.specs.Lists.{segment}
use Rattle.search_rows.specs.Rows.{slot_in, row_entry}
use Rattle.search_rows.proofs.rows.slot_in.Goals as goal

-- the first place of x is i
stands : (x a i : ℕ) (l : List ℕ) → i < length l → x ≡ get_or l i 0 → ((k : ℕ) → k < i → x ≡ get_or l k 0 → ⊥) → a + i + 1 ≡ slot_in x a l
unfolding slot_in
stands x a i [] h e n = absurd (omega arith)
stands x a zero (y ∷ l) h e n = rw (eq-eqb x y e) (omega arith)
stands x a (suc i) (y ∷ l) h e n = rw (ne_eqb x y (n 0 (omega arith))) (let q : a + suc i + 1 ≡ suc a + i + 1 = omega arith in q ∙ stands x (suc a) i l (omega arith) e (λ k g. n (suc k) (omega arith)))

-- x has no place
lacks : (x a : ℕ) (l : List ℕ) → ((k : ℕ) → k < length l → x ≡ get_or l k 0 → ⊥) → 0 ≡ slot_in x a l
unfolding slot_in
lacks x a [] n = refl
lacks x a (y ∷ l) n = rw (ne_eqb x y (n 0 (omega arith))) (lacks x (suc a) l (λ k g. n (suc k) (omega arith)))

slot_is : (x a : ℕ) (l : List ℕ) (o : Option ℕ) (r : ℕ) → (o ≡ None → r ≡ 0) → ((i : ℕ) → o ≡ Some i → r ≡ a + i + 1) →
    MatchOption o (AllWithin (λ y. x ≡ y → ⊥) l 0 (length l)) (λ i. (i < length l) × HoldsAt (λ y. x ≡ y) l i × AllWithin (λ y. x ≡ y → ⊥) l 0 i) → r ≡ slot_in x a l
slot_is x a l None r n s h = n refl ∙ lacks x a l (λ k g. h k 0 (omega arith) g)
slot_is x a l (Some i) r n s h = s i refl ∙ stands x a i l h.0 (h.1 0) (λ k g. h.2 k 0 (omega arith) g)

-- what it found is the row's entry
entry_is : (starts ids : List ℕ) (x k : ℕ) {r : ℕ} → r ≡ slot_in x (get_or starts k 0) (segment (get_or starts k 0) (get_or starts (k + 1) 0) ids) → r ≡ row_entry starts ids x k
entry_is starts ids x k e = e ∙ ap (λ (m : ℕ). slot_in x (get_or starts k 0) (segment (get_or starts k 0) (get_or starts m 0) ids)) (add-one k)

pub returns : goal.returns
returns c =
    let s = c.args in
    let x = s.x.0 in
    let starts = s.starts.now.places.now in
    let a = get_or starts s.k 0 in
    let l = segment a (get_or starts (s.k + 1) 0) s.ids.now in
    entry_is starts s.ids.now x s.k (slot_is x a l c.position.result c.map_or.result (λ e. search (rules, e)) (λ i e. search (rules, e))
    (IsFirst-from_position _ _ _ (λ y. x ≡ y) (λ y. x ≡ y → ⊥) c.position.ensures.ran (YieldsList-from_slice l c.iter.ensures.rest) (λ y q k. search (rules, tests)) (λ y q k. search (rules, tests))))
