-- Matrices at exact arithmetic: products associate, the transpose turns them round, and the half-sum keeps a symmetric
-- matrix. Assumes nothing.
use mathlib.Core.Path.{◌≡◌, refl, sym, ap, ap₂, ◌∙◌}
use mathlib.Core.List.{List}
use Prim.Native.Nat.{ℕ, ◌<◌}
use lib.ListN.{length}
use Rattle.scalar.specs.Num.{Num, Exact}
use Rattle.scalar.proofs.Algebra.{half-sum}
use Rattle.linalg.specs.Grown.{tabulate}
use Rattle.linalg.specs.Matrix.{at, entry, matrix, dot, mul, transpose, add, sub, scale, half_sum}
use Rattle.linalg.specs.Sizes.{prod}
use Rattle.linalg.proofs.Fill.{tabulated}
use Rattle.linalg.proofs.Sums.{dot-sum}
use Rattle.linalg.proofs.Products.{prod_assoc, prod_ext, prod_flip}
use Rattle.linalg.proofs.Entries.{tabulate_ext, matrix-at, matrix_ext, transpose-at}

-- at any arithmetic
module _ (N : Num) where
  pub transpose_twice : (f : ℕ → ℕ → N.F) → transpose N (transpose N (matrix N f)) ≡ matrix N f
  unfolding transpose tabulate
  transpose_twice f = refl

  pub transpose-add : (a b : List N.F) → transpose N (add N 36 a b) ≡ add N 36 (transpose N a) (transpose N b)
  unfolding transpose add tabulate
  transpose-add a b = refl

  pub transpose-sub : (a b : List N.F) → transpose N (sub N 36 a b) ≡ sub N 36 (transpose N a) (transpose N b)
  unfolding transpose sub tabulate
  transpose-sub a b = refl

module _ (N : Num) (X : Exact N) where
  open N use {F, add as ◌⊕◌, mul as ◌⊗◌, half, past}

  infixl 60 ◌⊕◌
  infixl 70 ◌⊗◌
  -- a product by its entries
  pub product : (a b : List F) (c : ℕ → ℕ → F)
      → ((i j : ℕ) → i < 6 → j < 6 → prod N 6 (λ i j. entry N a i j) (λ i j. entry N b i j) i j ≡ c i j)
      → mul N a b ≡ matrix N c
  unfolding mul
  product a b c e =
      matrix_ext N (λ i j. dot N (λ k. entry N a i k) (λ k. entry N b k j)) c
      (λ i j h g. dot-sum N X (λ k. entry N a i k) (λ k. entry N b k j) ∙ e i j h g)

  pub mul_at : (a b : List F) (i j : ℕ) → i < 6 → j < 6 → entry N (mul N a b) i j ≡ prod N 6 (λ i j. entry N a i j) (λ i j. entry N b i j) i j
  unfolding mul
  mul_at a b i j h g =
      matrix-at N (λ i j. dot N (λ k. entry N a i k) (λ k. entry N b k j)) i j h g
      ∙ dot-sum N X (λ k. entry N a i k) (λ k. entry N b k j)

  pub mul_assoc : (a b c : List F) → mul N (mul N a b) c ≡ mul N a (mul N b c)
  mul_assoc a b c =
      product (mul N a b) c w
      (λ i j h g.
      prod_ext N X 6 (λ i j. entry N (mul N a b) i j) (prod N 6 A B) C C i j (λ k o. mul_at a b i k h o) (λ k o. refl)
      ∙ prod_assoc N X 6 A B C i j)
      ∙ sym
      (product a (mul N b c) w
      (λ i j h g. prod_ext N X 6 A A (λ i j. entry N (mul N b c) i j) (prod N 6 B C) i j (λ k o. refl) (λ k o. mul_at b c k j o g)))
    where
      A : ℕ → ℕ → F
      A i j = entry N a i j

      B : ℕ → ℕ → F
      B i j = entry N b i j

      C : ℕ → ℕ → F
      C i j = entry N c i j

      w : ℕ → ℕ → F
      w = prod N 6 A (prod N 6 B C)

  -- (a b)ᵀ = bᵀ aᵀ
  pub transpose-mul : (a b : List F) → transpose N (mul N a b) ≡ mul N (transpose N b) (transpose N a)
  unfolding transpose
  transpose-mul a b =
      matrix_ext N (λ i j. entry N (mul N a b) j i) w (λ i j h g. mul_at a b j i g h ∙ prod_flip N X 6 (λ i j. entry N a i j) (λ i j. entry N b i j) i j)
      ∙ sym
      (product (transpose N b) (transpose N a) w
      (λ i j h g.
      prod_ext N X 6 (λ i j. entry N (transpose N b) i j) (λ i j. entry N b j i) (λ i j. entry N (transpose N a) i j) (λ i j. entry N a j i) i j
      (λ k o. transpose-at N b i k h o)
      (λ k o. transpose-at N a k j o g)))
    where
      w : ℕ → ℕ → F
      w = prod N 6 (λ i j. entry N b j i) (λ i j. entry N a j i)

  -- g d gᵀ is symmetric where d is
  pub sandwich : (g d : List F) → transpose N (transpose N g) ≡ g → transpose N d ≡ d → transpose N (mul N (mul N g d) (transpose N g)) ≡ mul N (mul N g d) (transpose N g)
  sandwich g d e s =
      transpose-mul (mul N g d) (transpose N g)
      ∙ ap₂ (mul N) e (transpose-mul g d ∙ ap (λ d. mul N d (transpose N g)) s)
      ∙ sym (mul_assoc g d (transpose N g))

  pub half_sum_law : (a : List F) → transpose N a ≡ a → half_sum N a ≡ a
  unfolding half_sum scale add transpose tabulate
  half_sum_law a s =
      ap (λ t. scale N 36 half (add N 36 a t)) s
      ∙ tabulate_ext (λ k. half ⊗ (at N a k ⊕ at N a k)) (at N a) 36 (λ k h. half-sum N X (at N a k))
      ∙ sym (tabulated a past 36 (ap length (sym s) ∙ long))
    where
      long : length (transpose N a) ≡ 36
      long = refl
