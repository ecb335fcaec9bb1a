-- Entries of vectors and matrices, and of what is made of them. Assumes nothing.
use mathlib.Core.Path.{◌≡◌, refl, ap₂, ◌∙◌}
use mathlib.Core.List.{List, [], ◌∷◌, ◌++◌}
use Prim.Native.Nat.{ℕ, zero, suc, ◌+◌, ◌*◌, ◌/◌, ◌%◌, ◌<◌}
use native.Mathlib.Omega.{arith}
use Rattle.scalar.specs.Num.{Num}
use Rattle.linalg.specs.Grown.{tabulate}
use Rattle.linalg.specs.Matrix.{at, entry, vector, matrix, transpose}
use Rattle.linalg.proofs.Fill.{six}
use Rattle.linalg.proofs.Grown.{tabulate-at}

pub tabulate_ext : {A : Type 0} (f g : ℕ → A) (n : ℕ) → ((k : ℕ) → k < n → f k ≡ g k) → tabulate f n ≡ tabulate g n
unfolding tabulate
tabulate_ext f g zero h = refl
tabulate_ext f g (suc n) h = ap₂ (λ l x. l ++ (x ∷ [])) (tabulate_ext f g n (λ k l. h k (omega arith))) (h n (omega arith))

module _ (N : Num) where
  open N use {F, past}

  pub vector-at : (f : ℕ → F) (i : ℕ) → i < 6 → at N (vector N f) i ≡ f i
  vector-at f = six (λ i. at N (vector N f) i ≡ f i) refl refl refl refl refl refl

  pub matrix-at : (f : ℕ → ℕ → F) (i j : ℕ) → i < 6 → j < 6 → entry N (matrix N f) i j ≡ f i j
  matrix-at f i j h g =
      let p : (i * 6 + j) / 6 ≡ i = omega arith in
      let q : (i * 6 + j) % 6 ≡ j = omega arith in
      tabulate-at past (λ n. f (n / 6) (n % 6)) 36 (i * 6 + j) (omega arith) ∙ ap₂ f p q

  -- matrices are equal by their entries
  pub matrix_ext : (f g : ℕ → ℕ → F) → ((i j : ℕ) → i < 6 → j < 6 → f i j ≡ g i j) → matrix N f ≡ matrix N g
  matrix_ext f g h = tabulate_ext (λ n. f (n / 6) (n % 6)) (λ n. g (n / 6) (n % 6)) 36 (λ n l. h (n / 6) (n % 6) (omega arith) (omega arith))

  pub transpose-at : (a : List F) (i j : ℕ) → i < 6 → j < 6 → entry N (transpose N a) i j ≡ entry N a j i
  unfolding transpose
  transpose-at a = matrix-at (λ i j. entry N a j i)
