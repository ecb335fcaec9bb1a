-- Multiples of the unit matrix: their entries, and products with them at exact arithmetic. Assumes nothing.
use mathlib.Core.Path.{◌≡◌, refl, sym, ap, ◌∙◌}
use mathlib.Core.Logic.{◌⊎◌, inl, inr}
use mathlib.Core.Bool.{Bool, true, false, cond}
use Prim.Native.Nat.{ℕ, ◌+◌, ◌<◌}
use native.Mathlib.Omega.{arith}
use lib.Dec.{eqb}
use borrow.Author.Tests.{eq-eqb, ne_eqb}
use Rattle.scalar.specs.Num.{Num, Exact}
use Rattle.scalar.proofs.Algebra.{mul-zero, zero-mul}
use Rattle.linalg.specs.Sizes.{sum, diagonal}
use Rattle.linalg.proofs.Grown.{equal_or_not}
use Rattle.linalg.proofs.Sums.{sum_pick}

eqb_flip : (i j : ℕ) → eqb i j ≡ eqb j i
eqb_flip i j = go (equal_or_not i j)
  where
    go : (i ≡ j) ⊎ (i ≡ j → ⊥) → eqb i j ≡ eqb j i
    go (inl e) = rw e
    go (inr h) = ne_eqb i j h ∙ sym (ne_eqb j i (λ e. h (sym e)))

-- at any arithmetic
module _ (N : Num) where
  open N use {F, zero as nought}

  pub diagonal_same : (x : F) (i : ℕ) → diagonal N x i i ≡ x
  diagonal_same x i = rw (eq-eqb i i refl)

  pub diagonal_other : (x : F) (i j : ℕ) → (i ≡ j → ⊥) → diagonal N x i j ≡ nought
  diagonal_other x i j h = rw (ne_eqb i j h)

  pub diagonal_flip : (x : F) (i j : ℕ) → diagonal N x i j ≡ diagonal N x j i
  diagonal_flip x i j = ap (λ b. cond b x nought) (eqb_flip i j)

  pub diagonal_nought : (i j : ℕ) → diagonal N nought i j ≡ nought
  diagonal_nought i j = go (eqb i j)
    where
      go : (b : Bool) → cond b nought nought ≡ nought
      go true = refl
      go false = refl

  pub diagonal_shift : (x : F) (n i j : ℕ) → diagonal N x (n + i) (n + j) ≡ diagonal N x i j
  diagonal_shift x n i j = go (equal_or_not i j)
    where
      go : (i ≡ j) ⊎ (i ≡ j → ⊥) → diagonal N x (n + i) (n + j) ≡ diagonal N x i j
      go (inl e) = rw e (diagonal_same x (n + j) ∙ sym (diagonal_same x j))
      go (inr h) = diagonal_other x (n + i) (n + j) (λ e. h (omega arith)) ∙ sym (diagonal_other x i j h)

  -- entry by entry, by an operation that gives 0 for 0 and 0
  module _ (f : F → F → F) (e : f nought nought ≡ nought) where
    pub diagonal_each : (x y : F) (i j : ℕ) → f (diagonal N x i j) (diagonal N y i j) ≡ diagonal N (f x y) i j
    diagonal_each x y i j = go (eqb i j)
      where
        go : (b : Bool) → f (cond b x nought) (cond b y nought) ≡ cond b (f x y) nought
        go true = refl
        go false = e

module _ (N : Num) (X : Exact N) where
  open N use {F, mul as ◌⊗◌}

  infixl 70 ◌⊗◌
  -- x times the unit matrix picks one number
  pub picked : (x : F) (v : ℕ → F) (n i : ℕ) → i < n → sum N (λ k. diagonal N x i k ⊗ v k) n ≡ x ⊗ v i
  picked x v n i h =
      sum_pick N X (λ k. diagonal N x i k ⊗ v k) i n h
      (λ k g q. ap (λ (w : F). w ⊗ v k) (diagonal_other N x i k (λ e. q (sym e))) ∙ zero-mul N X (v k))
      ∙ ap (λ (w : F). w ⊗ v i) (diagonal_same N x i)

  -- the same from the right
  pub picked-right : (x : F) (v : ℕ → F) (n j : ℕ) → j < n → sum N (λ k. v k ⊗ diagonal N x k j) n ≡ v j ⊗ x
  picked-right x v n j h =
      sum_pick N X (λ k. v k ⊗ diagonal N x k j) j n h
      (λ k g q. ap (λ (w : F). v k ⊗ w) (diagonal_other N x k j q) ∙ mul-zero N X (v k))
      ∙ ap (λ (w : F). v j ⊗ w) (diagonal_same N x j)
