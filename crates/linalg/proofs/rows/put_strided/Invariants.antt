use mathlib.Core.Path.{◌≡◌}
use mathlib.Core.List.{List}
use Prim.Native.Nat.{ℕ, zero, suc, ◌+◌, ◌*◌}
use lib.Ieee.{Float}
use lib.ListN.{set}
use Rattle.scalar.specs.F64.{f64}
use Rattle.linalg.specs.Matrix.{at}
use Rattle.linalg.proofs.rows.put_strided.Given as goal

-- the first k of them stored
abbrev pub stored_first : List Float → ℕ → ℕ → List Float → ℕ → List Float
stored_first m p s v zero = m
stored_first m p s v (suc k) = set (stored_first m p s v k) (p + s * k) (at f64 v k)

abbrev pub invariant-loop-k : goal.invariant-loop-k
invariant-loop-k l = l.m ≡ stored_first l.initial.m l.p l.s l.v l.k
