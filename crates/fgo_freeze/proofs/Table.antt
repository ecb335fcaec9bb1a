-- The table of frozen parts as rows: finding an id and putting a part at its place. Assumes nothing.
use Prim.Native.Nat.{ℕ, zero, suc, ◌+◌, ◌≤◌, ◌<◌}
use mathlib.Core.Path.{◌≡◌, refl, sym, ap, ◌∙◌}
use mathlib.Core.Bool.{Bool, true, false}
use mathlib.Core.Option.{some}
use native.Mathlib.Omega.{arith}
use borrow.Author.Tests.{ltb-true, ltb-false, lt-ltb, le-ltb}
use lib.Dec.{ltb}
use Rattle.engine.specs.Body.{rows}
use Rattle.fgo_spec.specs.Lists.{find, put, place_in}
use Rattle.fgo_spec.specs.Windows.{Prefix}
use Rattle.fgo_spec.proofs.Counting.{eq_compare, lt_compare, gt_compare}
use Rattle.fgo_spec.proofs.Tables.{found_here, found_past}
use Rattle.fgo_spec.proofs.Rows.{rows_same}

module _ (g : ℕ → ℕ × Prefix) (x : ℕ) where
  -- the place of x among the n ids from i on
  abbrev pub at : ℕ → ℕ → ℕ
  at i n = place_in x (rows (λ j. (g j).0) i n)

  at_none : (i : ℕ) → at i 0 ≡ 0
  unfolding place_in rows
  at_none i = refl

  pub at_later : (i n : ℕ) → (g i).0 < x → at i (suc n) ≡ suc (at (suc i) n)
  unfolding place_in rows
  at_later i n h = rw (lt-ltb (g i).0 x h)

  pub at_front : (i n : ℕ) → x ≤ (g i).0 → at i (suc n) ≡ 0
  unfolding place_in rows
  at_front i n h = rw (le-ltb (g i).0 x h)

  -- ---- the id is there

  abbrev Found : ℕ → ℕ → ℕ → Type 0
  Found i n k = k < n → (g (i + k)).0 ≡ x → find x (rows g i n) ≡ some (g (i + k)).1

  found-by : (i n k : ℕ) (b : Bool) → ltb (g i).0 x ≡ b → k ≡ at i (suc n) → Found (suc i) n (at (suc i) n) → Found i (suc n) k
  unfolding rows
  found-by i n k true l e ih h q =
      let p = ltb-true (g i).0 x l in
      let z : k ≡ suc (at (suc i) n) = e ∙ at_later i n p in
      let y : i + k ≡ suc i + at (suc i) n = omega arith in
      found_past x (g i) (rows g (suc i) n) (λ (u : x ≡ (g i).0). omega arith)
      ∙ ih (omega arith) (rw y at q)
      ∙ ap (λ (j : ℕ). some (g j).1) (sym y)
  found-by i n k false l e ih h q =
      let p = ltb-false (g i).0 x l in
      let z : k ≡ 0 = e ∙ at_front i n p in
      let y : i + k ≡ i = omega arith in
      found_here x (g i) (rows g (suc i) n) (sym (rw y at q)) ∙ ap (λ (j : ℕ). some (g j).1) (sym y)

  pub found : (i n k : ℕ) → k ≡ at i n → Found i n k
  found i zero k e h q = absurd (omega arith)
  found i (suc n) k e h q = found-by i n k (ltb (g i).0 x) refl e (found (suc i) n (at (suc i) n) refl) h q

  module _ (a : Prefix) (h : ℕ → ℕ × Prefix) where
    -- ---- the part at its place is replaced

    abbrev Replaced : ℕ → ℕ → ℕ → Type 0
    Replaced i n k = k < n → (g (i + k)).0 ≡ x → h (i + k) ≡ (x, a) → ((j : ℕ) → (j ≡ i + k → ⊥) → h j ≡ g j) → rows h i n ≡ put x a (rows g i n)

    replaced-by : (i n k : ℕ) (b : Bool) → ltb (g i).0 x ≡ b → k ≡ at i (suc n) → Replaced (suc i) n (at (suc i) n) → Replaced i (suc n) k
    unfolding rows put
    replaced-by i n k true t e ih l q s o =
        let p = ltb-true (g i).0 x t in
        let z : k ≡ suc (at (suc i) n) = e ∙ at_later i n p in
        let y : i + k ≡ suc i + at (suc i) n = omega arith in
        let r = ih (omega arith) (rw y at q) (rw y at s) (λ j ne. o j (λ (u : j ≡ i + k). ne (u ∙ y))) in
        let f : h i ≡ g i = o i (λ (u : i ≡ i + k). omega arith) in
        let c = gt_compare x (g i).0 p in
        rw (f, r, c)
    replaced-by i n k false t e ih l q s o =
        let p = ltb-false (g i).0 x t in
        let z : k ≡ 0 = e ∙ at_front i n p in
        let y : i + k ≡ i = omega arith in
        let f : h i ≡ (x, a) = rw y at s in
        let r : rows h (suc i) n ≡ rows g (suc i) n = rows_same h g (suc i) n (λ j b c. o j (λ (u : j ≡ i + k). omega arith)) in
        let d : x ≡ (g i).0 = sym (rw y at q) in
        let c = eq_compare x (g i).0 d in
        rw (f, r, c)

    pub replaced : (i n k : ℕ) → k ≡ at i n → Replaced i n k
    replaced i zero k e l q s o = absurd (omega arith)
    replaced i (suc n) k e l q s o = replaced-by i n k (ltb (g i).0 x) refl e (replaced (suc i) n (at (suc i) n) refl) l q s o

    -- ---- a part comes in between

    shifted : (i n : ℕ) → ((j : ℕ) → i ≤ j → j < i + n → h (suc j) ≡ g j) → rows h (suc i) n ≡ rows g i n
    unfolding rows
    shifted i zero v = refl
    shifted i (suc n) v =
        let e = v i (omega arith) (omega arith) in
        let r = shifted (suc i) n (λ j b c. v j (omega arith) (omega arith)) in
        rw (e, r)

    abbrev Inserted : ℕ → ℕ → ℕ → Type 0
    Inserted i n k = (k < n → (g (i + k)).0 ≡ x → ⊥) → h (i + k) ≡ (x, a) → ((j : ℕ) → j < i + k → h j ≡ g j) → ((j : ℕ) → i + k ≤ j → j < i + n → h (suc j) ≡ g j) → rows h i (suc n) ≡ put x a (rows g i n)

    inserted_by : (i n k : ℕ) (b : Bool) → ltb (g i).0 x ≡ b → k ≡ at i (suc n) → Inserted (suc i) n (at (suc i) n) → Inserted i (suc n) k
    unfolding rows put
    inserted_by i n k true t e ih q s o u =
        let p = ltb-true (g i).0 x t in
        let z : k ≡ suc (at (suc i) n) = e ∙ at_later i n p in
        let y : i + k ≡ suc i + at (suc i) n = omega arith in
        let r = ih (λ l v. q (omega arith) (rw y v)) (rw y at s) (λ j b. o j (omega arith)) (λ j b c. u j (omega arith) (omega arith)) in
        let f : h i ≡ g i = o i (omega arith) in
        let c = gt_compare x (g i).0 p in
        rw (f, r, c)
    inserted_by i n k false t e ih q s o u =
        let p = ltb-false (g i).0 x t in
        let z : k ≡ 0 = e ∙ at_front i n p in
        let y : i + k ≡ i = omega arith in
        let f : h i ≡ (x, a) = rw y at s in
        let r : rows h (suc i) (suc n) ≡ rows g i (suc n) = shifted i (suc n) (λ j b c. u j (omega arith) c) in
        let ne : (g i).0 ≡ x → ⊥ = λ (v : (g i).0 ≡ x). q (omega arith) (rw y v) in
        let d : x < (g i).0 = omega (arith, ne) in
        let c = lt_compare x (g i).0 d in
        rw (f, r, c)

    pub inserted : (i n k : ℕ) → k ≡ at i n → Inserted i n k
    unfolding rows put
    inserted i zero k e q s o u =
        let z : k ≡ 0 = e ∙ at_none i in
        let y : i + k ≡ i = omega arith in
        let f : h i ≡ (x, a) = rw y at s in
        rw f
    inserted i (suc n) k e q s o u = inserted_by i n k (ltb (g i).0 x) refl e (inserted (suc i) n (at (suc i) n) refl) q s o u
