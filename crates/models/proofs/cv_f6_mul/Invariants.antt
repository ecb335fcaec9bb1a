use Rattle.scalar.specs.F64.{f64}
use Rattle.linalg.proofs.Fill.{ByColumns}
use mathlib.Core.List.{List}
use Prim.Native.Nat.{ℕ}
use lib.Ieee.{Float}
use Rattle.linalg.specs.Matrix.{entry}
use Rattle.linalg.specs.Matrix.{dot}
use Rattle.models.specs.Motion.{cv_f}
use Rattle.models.proofs.cv_f6_mul.Given as goal

abbrev pub cell : Float → List Float → ℕ → ℕ → Float
cell dt m i j = dot f64 (λ k. entry f64 (cv_f f64 dt) i k) (λ k. entry f64 m k j)

abbrev pub invariant-loop-j : goal.invariant-loop-j
invariant-loop-j l = ByColumns f64 (cell l.dt l.m) (λ i k. f64.zero) l.out l.j
