-- Cholesky's factor of a matrix, and the inverse by it, over any arithmetic. Definitions only.
use Rattle.std.specs.Prelude.{ℕ, zero, suc, ◌+◌, ◌-◌, ◌≡◌, Bool, true, cond, ◌&&◌, List, [], get_or, ltb, eqb}
use Rattle.scalar.specs.Num.{Num}
use Rattle.linalg.specs.Grown.{grown, backed}
use Rattle.linalg.specs.Matrix.{at, entry, vector, matrix, unit}

module _ (N : Num) where
  open N use {F, sub as ◌⊖◌, mul as ◌⊗◌, div as ◌⊘◌, root, lt, zero as nought}

  infixl 60 ◌⊖◌
  infixl 70 ◌⊗◌ ◌⊘◌
  -- b less the products of u and v at the n indices from 0 on, one after the other
  unfoldable pub less : (ℕ → F) → (ℕ → F) → F → ℕ → F
  less u v b zero = b
  less u v b (suc n) = less u v b n ⊖ u n ⊗ v n

  -- L(i,k), of L's columns
  abbrev pub low : List (List F) → ℕ → ℕ → F
  low cs i k = at N (get_or cs k []) i

  -- "column j subtracts L(j,k)·column k, k rising": what is left of it at row i
  abbrev pub reduced : List F → List (List F) → ℕ → ℕ → F
  reduced a cs j i = less (λ k. low cs j k) (λ k. low cs i k) (entry N a i j) j

  -- column j with d on the diagonal, which divides the rest of it; above the diagonal stand zeros
  abbrev pub divided : List F → List (List F) → ℕ → F → List F
  divided a cs j d = vector N (λ i. cond (ltb i j) nought (cond (eqb i j) d (reduced a cs j i ⊘ d)))

  -- "its root divides the column": the pivot is what is left on the diagonal
  unfoldable pub factor_column : List F → List (List F) → ℕ → List F
  factor_column a cs j = divided a cs j (root (reduced a cs j j))

  -- "Cholesky by columns of the lower triangle"
  unfoldable pub columns : List F → List (List F)
  columns a = grown (λ j cs. factor_column a cs j) 6

  -- the factor L, by rows
  unfoldable pub cholesky : List F → List F
  cholesky a = matrix N (λ i j. low (columns a) i j)

  -- all six are above 0
  abbrev pub above6 : F → F → F → F → F → F → Bool
  above6 d0 d1 d2 d3 d4 d5 = lt nought d0 && (lt nought d1 && (lt nought d2 && (lt nought d3 && (lt nought d4 && lt nought d5))))

  -- the pivot of column j
  abbrev pub pivot : List F → ℕ → F
  pivot a j = reduced a (columns a) j j

  -- "a pivot not above 0 fails": the factor counts only where each pivot is above 0
  unfoldable pub positive : List F → Bool
  positive a = above6 (pivot a 0) (pivot a 1) (pivot a 2) (pivot a 3) (pivot a 4) (pivot a 5)

  -- "per unit column, forward": L y is the unit column c; "known terms subtracted in rising index, then divided by the
  -- diagonal"
  unfoldable pub forward : List F → ℕ → List F
  forward l c = grown (λ i y. less (λ k. entry N l i k) (λ k. at N y k) (unit N i c) i ⊘ entry N l i i) 6

  -- "then backward substitution": Lᵀ z is y, from the last index down; x has the n that are known, from index i + 1 on
  unfoldable pub backward : List F → List F → List F
  backward l y = backed (λ n x. let i = 5 - n in less (λ k. entry N l (i + 1 + k) i) (λ k. at N x k) (at N y i) n ⊘ entry N l i i) 6

  -- "forward", of all six: column c is what it makes of unit column c
  unfoldable pub half_way : List F → List F
  half_way l = matrix N (λ i c. at N (forward l c) i)

  -- "Inverse": column c is what substitution makes of unit column c
  unfoldable pub inverse : List F → List F
  inverse l = matrix N (λ i c. at N (backward l (forward l c)) i)

  -- m with zeros above the diagonal
  unfoldable pub lower_part : List F → List F
  lower_part m = matrix N (λ i j. cond (ltb i j) nought (entry N m i j))

  -- m is lower triangular, with a diagonal above 0
  pub record Triangular (m : List F) : Type 0 where
    pub lower : lower_part m ≡ m
    pub diagonal : above6 (entry N m 0 0) (entry N m 1 1) (entry N m 2 2) (entry N m 3 3) (entry N m 4 4) (entry N m 5 5) ≡ true
