-- Vectors of six numbers, and matrices of six rows and columns as lists of 36 numbers by rows, over any arithmetic.
-- Each operation stands once, in the order of document 01. Definitions only.
use Rattle.std.specs.Prelude.{ℕ, ◌+◌, ◌*◌, ◌/◌, ◌%◌, List, [], ◌∷◌, get_or}
use Rattle.scalar.specs.Num.{Num}
use Rattle.linalg.specs.Grown.{tabulate}
use Rattle.linalg.specs.Sizes.{diagonal}

module _ (N : Num) where
  open N use {F, add as ◌⊕◌, sub as ◌⊖◌, mul as ◌⊗◌, half, one, past}

  infixl 60 ◌⊕◌ ◌⊖◌
  infixl 70 ◌⊗◌
  -- number k of a list
  abbrev pub at : List F → ℕ → F
  at v k = get_or v k past

  -- the entry in row i and column j
  abbrev pub entry : List F → ℕ → ℕ → F
  entry a i j = at a (i * 6 + j)

  -- f 0, .., f 5
  abbrev pub vector : (ℕ → F) → List F
  vector f = f 0 ∷ f 1 ∷ f 2 ∷ f 3 ∷ f 4 ∷ f 5 ∷ []

  -- the matrix with f i j in row i and column j
  abbrev pub matrix : (ℕ → ℕ → F) → List F
  matrix f = tabulate (λ n. f (n / 6) (n % 6)) 36

  -- the unit matrix, entry by entry
  abbrev pub unit : ℕ → ℕ → F
  unit = diagonal N one

  -- the unit matrix
  unfoldable pub identity : List F
  identity = matrix unit

  -- "an entry is the product at index 0, the rest added upwards"
  abbrev pub dot : (ℕ → F) → (ℕ → F) → F
  dot u v = u 0 ⊗ v 0 ⊕ u 1 ⊗ v 1 ⊕ u 2 ⊗ v 2 ⊕ u 3 ⊗ v 3 ⊕ u 4 ⊗ v 4 ⊕ u 5 ⊗ v 5

  -- a · b
  unfoldable pub mul : List F → List F → List F
  mul a b = matrix (λ i j. dot (λ k. entry a i k) (λ k. entry b k j))

  -- a · v
  unfoldable pub mul_vec : List F → List F → List F
  mul_vec a v = vector (λ i. dot (λ k. entry a i k) (λ k. at v k))

  -- aᵀ
  unfoldable pub transpose : List F → List F
  transpose a = matrix (λ i j. entry a j i)

  -- a + b, of n numbers each
  unfoldable pub add : ℕ → List F → List F → List F
  add n a b = tabulate (λ k. at a k ⊕ at b k) n

  -- a − b
  unfoldable pub sub : ℕ → List F → List F → List F
  sub n a b = tabulate (λ k. at a k ⊖ at b k) n

  -- c · a
  unfoldable pub scale : ℕ → F → List F → List F
  scale n c a = tabulate (λ k. c ⊗ at a k) n

  -- "0.5·(ps + psᵀ)"
  unfoldable pub half_sum : List F → List F
  half_sum a = scale 36 half (add 36 a (transpose a))
