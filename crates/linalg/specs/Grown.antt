-- Lists made one element after the other. Definitions only.
use Rattle.std.specs.Prelude.{ℕ, zero, suc, List, [], ◌∷◌, ◌++◌}

module _ {A : Type 0} where
  -- f 0, f 1, .., f (n - 1)
  unfoldable pub tabulate : (ℕ → A) → ℕ → List A
  tabulate f zero = []
  tabulate f (suc n) = tabulate f n ++ (f n ∷ [])

  -- n elements from the front on: f k of the first k is element k
  unfoldable pub grown : (ℕ → List A → A) → ℕ → List A
  grown f zero = []
  grown f (suc n) = grown f n ++ (f n (grown f n) ∷ [])

  -- n elements from the back on: f k of the last k is the one before them
  unfoldable pub backed : (ℕ → List A → A) → ℕ → List A
  backed f zero = []
  backed f (suc n) = f n (backed f n) ∷ backed f n
