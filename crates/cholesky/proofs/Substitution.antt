-- Solving all unit columns at once, row by row, gives the columns of the inverse. Assumes nothing.
use mathlib.Core.Path.{◌≡◌, refl}
use mathlib.Core.List.{List}
use Prim.Native.Nat.{ℕ, ◌+◌, ◌-◌, ◌*◌, ◌<◌}
use Rattle.scalar.specs.Num.{Num}
use Rattle.linalg.specs.Grown.{tabulate, grown, backed}
use Rattle.linalg.specs.Matrix.{at, vector, unit}
use Rattle.linalg.specs.Cholesky.{less, forward, backward}
use Rattle.linalg.specs.Rows.{less_rows, solved_row}
use Rattle.linalg.proofs.Fill.{six, rows}

module _ (N : Num) (l : List N.F) where
  -- what forward substitution has of column c at index i
  abbrev pub half_way_lem : ℕ → ℕ → N.F
  half_way_lem i c = at N (forward N l c) i

  -- and backward substitution
  abbrev pub solved : ℕ → ℕ → N.F
  solved i c = at N (backward N l (forward N l c)) i

  abbrev Forward : ℕ → Type 0
  Forward i = solved_row N l (rows N half_way_lem (unit N) i) i (i * 6) 1 0 i ≡ vector N (λ c. half_way_lem i c)

  pub forward-row : (i : ℕ) → i < 6 → Forward i
  unfolding solved_row less_rows less forward grown tabulate
  forward-row = six Forward refl refl refl refl refl refl

  abbrev Backward : ℕ → Type 0
  Backward i = solved_row N l (rows N half_way_lem solved (i + 1)) i (i * 6 + 6 + i) 6 (i + 1) (5 - i) ≡ vector N (λ c. solved i c)

  pub backward-row : (i : ℕ) → i < 6 → Backward i
  unfolding solved_row less_rows less backward backed tabulate
  backward-row = six Backward refl refl refl refl refl refl
