-- Matrices over an exact arithmetic, as functions of row and column below n: products, the unit matrix, inverses.
-- Assumes nothing.
use mathlib.Core.Path.{◌≡◌, refl, sym, ap₂, ◌∙◌}
use Prim.Native.Nat.{ℕ, ◌<◌}
use Rattle.scalar.specs.Num.{Num, Exact}
use Rattle.scalar.proofs.Algebra.{mul-one}
use Rattle.linalg.specs.Matrix.{unit}
use Rattle.linalg.specs.Sizes.{sum, prod}
use Rattle.linalg.proofs.Sums.{sum_ext, sum-mul, sum_swap}
use Rattle.linalg.proofs.Diagonal.{diagonal_flip, picked, picked-right}

module _ (N : Num) (X : Exact N) (n : ℕ) where
  open N use {F, mul as ◌⊗◌, one}

  infixl 70 ◌⊗◌
  -- (a · b) · c = a · (b · c)
  pub prod_assoc : (a b c : ℕ → ℕ → F) (i j : ℕ) → prod N n (prod N n a b) c i j ≡ prod N n a (prod N n b c) i j
  prod_assoc a b c i j =
      sum_ext N X (λ k. prod N n a b i k ⊗ c k j) (λ k. sum N (λ m. a i m ⊗ (b m k ⊗ c k j)) n) n
      (λ k h.
      X.field.mul_comm (prod N n a b i k) (c k j)
      ∙ sum-mul N X (c k j) (λ m. a i m ⊗ b m k) n
      ∙ sum_ext N X (λ m. c k j ⊗ (a i m ⊗ b m k)) (λ m. a i m ⊗ (b m k ⊗ c k j)) n
      (λ m g. X.field.mul_comm (c k j) (a i m ⊗ b m k) ∙ X.field.mul_assoc (a i m) (b m k) (c k j)))
      ∙ sum_swap N X (λ k m. a i m ⊗ (b m k ⊗ c k j)) n n
      ∙ sum_ext N X (λ m. sum N (λ k. a i m ⊗ (b m k ⊗ c k j)) n) (λ m. a i m ⊗ prod N n b c m j) n
      (λ m g. sym (sum-mul N X (a i m) (λ k. b m k ⊗ c k j) n))

  pub prod_ext : (a a' b b' : ℕ → ℕ → F) (i j : ℕ) → ((k : ℕ) → k < n → a i k ≡ a' i k) → ((k : ℕ) → k < n → b k j ≡ b' k j) → prod N n a b i j ≡ prod N n a' b' i j
  prod_ext a a' b b' i j g h = sum_ext N X (λ k. a i k ⊗ b k j) (λ k. a' i k ⊗ b' k j) n (λ k l. ap₂ ◌⊗◌ (g k l) (h k l))

  -- the transpose of a product
  pub prod_flip : (a b : ℕ → ℕ → F) (i j : ℕ) → prod N n a b j i ≡ prod N n (λ k m. b m k) (λ k m. a m k) i j
  prod_flip a b i j = sum_ext N X (λ k. a j k ⊗ b k i) (λ k. b k i ⊗ a j k) n (λ k h. X.field.mul_comm (a j k) (b k i))

  pub unit_left : (b : ℕ → ℕ → F) (i j : ℕ) → i < n → prod N n (unit N) b i j ≡ b i j
  unit_left b i j h = picked N X one (λ k. b k j) n i h ∙ X.field.one_mul (b i j)

  pub unit-right : (b : ℕ → ℕ → F) (i j : ℕ) → j < n → prod N n b (unit N) i j ≡ b i j
  unit-right b i j h = picked-right N X one (b i) n j h ∙ mul-one N X (b i j)

  -- L Lᵀ = A, L Y = 1 and Lᵀ Z = Y: then A Z = 1
  module _ (A L Y Z : ℕ → ℕ → F)
      (factored : (i j : ℕ) → i < n → j < n → prod N n L (λ k m. L m k) i j ≡ A i j)
      (forth : (i j : ℕ) → i < n → j < n → prod N n L Y i j ≡ unit N i j)
      (back : (i j : ℕ) → i < n → j < n → prod N n (λ k m. L m k) Z i j ≡ Y i j) where
    pub right-inverse : (i j : ℕ) → i < n → j < n → prod N n A Z i j ≡ unit N i j
    right-inverse i j h g =
        prod_ext A (prod N n L (λ k m. L m k)) Z Z i j (λ k l. sym (factored i k h l)) (λ k l. refl)
        ∙ prod_assoc L (λ k m. L m k) Z i j
        ∙ prod_ext L L (prod N n (λ k m. L m k) Z) Y i j (λ k l. refl) (λ k l. back k j l g)
        ∙ forth i j h g

  -- A symmetric and A Z = 1: then Z is symmetric, and Z A = 1
  module _ (A Z : ℕ → ℕ → F)
      (same : (i j : ℕ) → i < n → j < n → A i j ≡ A j i)
      (right : (i j : ℕ) → i < n → j < n → prod N n A Z i j ≡ unit N i j) where
    turned_left : (i j : ℕ) → i < n → j < n → prod N n (λ k m. Z m k) A i j ≡ unit N i j
    turned_left i j h g =
        prod_ext (λ k m. Z m k) (λ k m. Z m k) A (λ k m. A m k) i j (λ k l. refl) (λ k l. same k j l g)
        ∙ sym (prod_flip A Z i j)
        ∙ right j i g h
        ∙ diagonal_flip N one j i

    symmetric : (i j : ℕ) → i < n → j < n → Z i j ≡ Z j i
    symmetric i j h g =
        sym (unit_left Z i j h)
        ∙ prod_ext (unit N) (prod N n (λ k m. Z m k) A) Z Z i j (λ k l. sym (turned_left i k h l)) (λ k l. refl)
        ∙ prod_assoc (λ k m. Z m k) A Z i j
        ∙ prod_ext (λ k m. Z m k) (λ k m. Z m k) (prod N n A Z) (unit N) i j (λ k l. refl) (λ k l. right k j l g)
        ∙ unit-right (λ k m. Z m k) i j g

    pub left-inverse : (i j : ℕ) → i < n → j < n → prod N n Z A i j ≡ unit N i j
    left-inverse i j h g = prod_ext Z (λ k m. Z m k) A A i j (λ k l. symmetric i k h l) (λ k l. refl) ∙ turned_left i j h g
