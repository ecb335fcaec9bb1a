-- Rows: the next one, one more at the end, in two parts, rows that agree, a function of each, and what holds of them
-- all. Assumes nothing.
use Prim.Native.Nat.{ℕ, zero, suc, ◌+◌, ◌-◌, ◌≤◌, ◌<◌}
use mathlib.Core.Path.{◌≡◌, refl, sym, ap, ◌∙◌, subst}
use mathlib.Core.List.{[], ◌∷◌, ◌++◌, map}
use native.Mathlib.Nat.{zero-add, add-zero, add-suc, suc-add}
use native.Mathlib.Numerals.{add-one}
use native.Mathlib.Omega.{arith}
use Rattle.engine.specs.Body.{rows}
use Rattle.fgo_spec.specs.Rule.{All}

module _ {A : Type 0} where
  -- the first row, and the rest
  pub rows-first : (g : ℕ → A) (o m : ℕ) → 0 < m → rows g o m ≡ g o ∷ rows g (suc o) (m - 1)
  unfolding rows
  rows-first g o zero h = absurd (omega arith)
  rows-first g o (suc m) h = let e : m ≡ suc m - 1 = omega arith in ap (λ (k : ℕ). g o ∷ rows g (suc o) k) e

  -- one row more
  pub rows_more : (g : ℕ → A) (i n : ℕ) → rows g i (suc n) ≡ rows g i n ++ (g (i + n) ∷ [])
  unfolding rows
  rows_more g i zero = rw (add-zero i)
  rows_more g i (suc n) = let e : i + suc n ≡ suc i + n = omega arith in rw e (ap (λ r. g i ∷ r) (rows_more g (suc i) n))

  pub front_more : (g : ℕ → A) (k : ℕ) → rows g 0 (k + 1) ≡ rows g 0 k ++ (g k ∷ [])
  front_more g k = ap (rows g 0) (add-one k) ∙ rows_more g 0 k ∙ ap (λ (i : ℕ). rows g 0 k ++ (g i ∷ [])) (zero-add k)

  -- in two parts
  pub rows_parts : (g : ℕ → A) (o m n : ℕ) → rows g o (m + n) ≡ rows g o m ++ rows g (o + m) n
  unfolding rows
  rows_parts g o zero n = rw (zero-add n, add-zero o)
  rows_parts g o (suc m) n = rw (suc-add m n) (ap (λ l. g o ∷ l) (rows_parts g (suc o) m n ∙ ap (λ (i : ℕ). rows g (suc o) m ++ rows g i n) (suc-add o m ∙ sym (add-suc o m))))

  -- rows that agree
  pub rows_same : (f g : ℕ → A) (i n : ℕ) → ((k : ℕ) → i ≤ k → k < i + n → f k ≡ g k) → rows f i n ≡ rows g i n
  unfolding rows
  rows_same f g i zero h = refl
  rows_same f g i (suc n) h =
      let e = h i (omega arith) (omega arith) in
      let t = rows_same f g (suc i) n (λ k a b. h k (omega arith) (omega arith)) in
      rw (e, t)

  -- what holds of each row, and of one of them
  pub rows_all : (P : A → Type 0) (g : ℕ → A) (o n : ℕ) → ((k : ℕ) → k < n → P (g (o + k))) → All P (rows g o n)
  unfolding rows
  rows_all P g o zero h = tt
  rows_all P g o (suc n) h =
      let e : o + 0 ≡ o = omega arith in (
        subst (λ (i : ℕ). P (g i)) e (h 0 (omega arith)),
        rows_all P g (suc o) n (λ k l. let q : o + suc k ≡ suc o + k = omega arith in subst (λ (i : ℕ). P (g i)) q (h (suc k) (omega arith))),
      )

  pub row_of : (P : A → Type 0) (g : ℕ → A) (o n k : ℕ) → All P (rows g o n) → k < n → P (g (o + k))
  unfolding rows
  row_of P g o zero k h l = absurd (omega arith)
  row_of P g o (suc n) zero h l = let e : o ≡ o + 0 = omega arith in subst (λ (i : ℕ). P (g i)) e h.0
  row_of P g o (suc n) (suc k) h l = let e : suc o + k ≡ o + suc k = omega arith in subst (λ (i : ℕ). P (g i)) e (row_of P g (suc o) n k h.1 (omega arith))

  -- ---- a loop that stands at row k, the one of number i of n

  pub rows_step : (g : ℕ → A) (k n i : ℕ) {l : ℕ} → i < n → l ≡ k + 1 → rows g k (n - i) ≡ g k ∷ rows g l (n - (i + 1))
  unfolding rows
  rows_step g k n i h e =
      let a : n - i ≡ suc (n - (i + 1)) = omega arith in
      let b : k + 1 ≡ suc k = omega arith in
      rw (a, e, b)

  pub rows_end : (g : ℕ → A) (k n i : ℕ) → n ≤ i → rows g k (n - i) ≡ []
  unfolding rows
  rows_end g k n i h = let a : n - i ≡ 0 = omega arith in rw a

-- a function of each row
pub map_rows : {A B : Type 0} (f : A → B) (g : ℕ → A) (o n : ℕ) → map f (rows g o n) ≡ rows (λ i. f (g i)) o n
unfolding rows
map_rows f g o zero = refl
map_rows f g o (suc n) = ap (λ l. f (g o) ∷ l) (map_rows f g (suc o) n)
