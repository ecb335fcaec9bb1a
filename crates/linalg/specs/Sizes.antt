-- Vectors and matrices of any size over any arithmetic, as functions of row and column: what counts are the entries
-- below the sizes. Definitions only.
use Rattle.std.specs.Prelude.{ℕ, zero, suc, ◌-◌, cond, eqb, ltb}
use Rattle.scalar.specs.Num.{Num}

module _ (N : Num) where
  open N use {F, add as ◌⊕◌, sub as ◌⊖◌, mul as ◌⊗◌, zero as nought}

  infixl 60 ◌⊕◌ ◌⊖◌
  infixl 70 ◌⊗◌
  -- f 0 + .. + f (n - 1)
  unfoldable pub sum : (ℕ → F) → ℕ → F
  sum f zero = nought
  sum f (suc n) = sum f n ⊕ f n

  -- a · v, a with n columns
  abbrev pub image : ℕ → (ℕ → ℕ → F) → (ℕ → F) → ℕ → F
  image n a v i = sum (λ k. a i k ⊗ v k) n

  -- a · b, a with n columns and b with n rows
  abbrev pub prod : ℕ → (ℕ → ℕ → F) → (ℕ → ℕ → F) → ℕ → ℕ → F
  prod n a b i j = image n a (λ k. b k j) i

  -- n numbers of u, and those of v after them
  abbrev pub stacked : ℕ → (ℕ → F) → (ℕ → F) → ℕ → F
  stacked n u v i = cond (ltb i n) (u i) (v (i - n))

  -- aᵀ
  abbrev pub turned : (ℕ → ℕ → F) → ℕ → ℕ → F
  turned a i j = a j i

  -- a + b
  abbrev pub plus : (ℕ → ℕ → F) → (ℕ → ℕ → F) → ℕ → ℕ → F
  plus a b i j = a i j ⊕ b i j

  -- a − b
  abbrev pub minus : (ℕ → ℕ → F) → (ℕ → ℕ → F) → ℕ → ℕ → F
  minus a b i j = a i j ⊖ b i j

  -- x times the unit matrix
  abbrev pub diagonal : F → ℕ → ℕ → F
  diagonal x i j = cond (eqb i j) x nought

  -- four blocks of n rows and columns, each a multiple of the unit matrix: a and b above, c and d below
  abbrev pub blocks : ℕ → F → F → F → F → ℕ → ℕ → F
  blocks n a b c d i j =
      cond (ltb i n) (cond (ltb j n) (diagonal a i j) (diagonal b i (j - n))) (cond (ltb j n) (diagonal c (i - n) j) (diagonal d (i - n) (j - n)))
