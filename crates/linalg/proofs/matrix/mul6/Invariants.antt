use Rattle.scalar.specs.F64.{f64}
use Rattle.linalg.proofs.Fill.{ByRows}
use Rattle.linalg.specs.Matrix.{entry}
use mathlib.Core.List.{List}
use Prim.Native.Nat.{ℕ}
use lib.Ieee.{Float}
use Rattle.linalg.specs.Matrix.{dot}
use Rattle.linalg.proofs.matrix.mul6.Given as goal

abbrev pub cell : List Float → List Float → ℕ → ℕ → Float
cell a b i j = dot f64 (λ k. entry f64 a i k) (λ k. entry f64 b k j)

abbrev pub invariant-loop-i : goal.invariant-loop-i
invariant-loop-i l = ByRows f64 (cell l.a l.b) (λ i j. entry f64 l.initial.out i j) l.out l.i
