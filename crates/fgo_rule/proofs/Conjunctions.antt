-- A conjunction of tests, read from its front. Assumes nothing.
use Prim.Native.Nat.{ℕ}
use native.Mathlib.Omega.{arith}
use mathlib.Core.Path.{◌≡◌}
use mathlib.Core.Bool.{Bool, true, false, ◌&&◌}

-- the first test passed: the others decide
pub passed : (a : Bool) {b r : Bool} → a ≡ true → r ≡ b → r ≡ a && b
passed true h e = e
passed false h e = absurd (let z : ◌≡◌ {A = ℕ} 0 1 = cc in omega arith)
