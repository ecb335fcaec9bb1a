-- Rows and columns of a matrix, as the code reads and stores them: six numbers at a time. Definitions only.
use Rattle.std.specs.Prelude.{ℕ, ◌+◌, ◌*◌, List, set}
use Rattle.scalar.specs.Num.{Num}
use Rattle.linalg.specs.Matrix.{at, entry, vector, dot}
use Rattle.linalg.specs.Cholesky.{less}

module _ (N : Num) where
  open N use {F, sub as ◌⊖◌, mul as ◌⊗◌, div as ◌⊘◌}

  infixl 60 ◌⊖◌
  infixl 70 ◌⊗◌ ◌⊘◌
  -- v stored at p, p + s, .., p + 5 · s
  abbrev pub stored : List F → ℕ → ℕ → List F → List F
  stored m p s v =
      set
      (set (set (set (set (set m p (at N v 0)) (p + s) (at N v 1)) (p + 2 * s) (at N v 2)) (p + 3 * s) (at N v 3)) (p + 4 * s) (at N v 4))
      (p + 5 * s)
      (at N v 5)

  -- row i, from place i · 6 on
  abbrev pub put_row : List F → ℕ → List F → List F
  put_row m i v = stored m (i * 6) 1 v

  -- column j
  abbrev pub put_column : List F → ℕ → List F → List F
  put_column m j v = stored m j 6 v

  -- the sum of six products of two vectors
  abbrev pub dot_of : List F → List F → F
  dot_of u v = dot N (λ k. at N u k) (λ k. at N v k)

  -- column j of a
  abbrev pub column : List F → ℕ → List F
  column a j = vector N (λ k. entry N a k j)

  -- row i of w
  abbrev pub row : List F → ℕ → List F
  row w i = vector N (λ c. entry N w i c)

  -- row i of the product of a and b
  abbrev pub mul_row : List F → ℕ → List F → List F
  mul_row a i b = vector N (λ j. dot_of (row a i) (column b j))

  -- r less s times row i of w
  abbrev pub less_row : List F → F → List F → ℕ → List F
  less_row r s w i = vector N (λ c. at N r c ⊖ s ⊗ entry N w i c)

  -- r divided by d
  abbrev pub divided_by : List F → F → List F
  divided_by r d = vector N (λ c. at N r c ⊘ d)

  -- row i of w less l's number at p times row q, the one at p + s times row q + 1, .., n of them
  unfoldable pub less_rows : List F → List F → ℕ → ℕ → ℕ → ℕ → ℕ → List F
  less_rows l w i p s q n = vector N (λ c. less N (λ k. at N l (p + k * s)) (λ k. entry N w (q + k) c) (entry N w i c) n)

  -- the same, divided by l's number on the diagonal
  unfoldable pub solved_row : List F → List F → ℕ → ℕ → ℕ → ℕ → ℕ → List F
  solved_row l w i p s q n = divided_by (less_rows l w i p s q n) (entry N l i i)
