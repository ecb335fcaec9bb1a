use Rattle.scalar.specs.F64.{f64}
use Rattle.linalg.specs.Matrix as Matrix
use Rattle.linalg.proofs.Fill.{ByRows}
use Rattle.linalg.proofs.matrix.transpose6.Given as goal

abbrev pub invariant-loop-j : goal.invariant-loop-j
invariant-loop-j l = ByRows f64 (λ i k. Matrix.entry f64 l.a k i) (λ i k. f64.zero) l.out l.j
