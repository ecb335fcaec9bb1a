use Rattle.scalar.specs.F64.{f64}
use Rattle.linalg.proofs.Fill.{ByRows}
use Rattle.linalg.specs.Matrix.{entry}
use mathlib.Core.List.{List}
use Prim.Native.Nat.{ℕ}
use lib.Ieee.{Float}
use Rattle.linalg.specs.Matrix.{dot}
use Rattle.linalg.specs.Matrix.{transpose}
use Rattle.models.specs.Motion.{cv_f}
use Rattle.models.proofs.mul_cv_f6t.Given as goal

abbrev pub cell : List Float → Float → ℕ → ℕ → Float
cell m dt i j = dot f64 (λ k. entry f64 m i k) (λ k. entry f64 (transpose f64 (cv_f f64 dt)) k j)

abbrev pub invariant-loop-i : goal.invariant-loop-i
invariant-loop-i l = ByRows f64 (cell l.m l.dt) (λ i j. entry f64 l.initial.out i j) l.out l.i
