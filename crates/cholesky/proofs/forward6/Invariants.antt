use Rattle.scalar.specs.F64.{f64}
use Rattle.linalg.proofs.Fill.{ByRows}
use Rattle.cholesky.proofs.Substitution.{half_way_lem}
use Rattle.linalg.specs.Matrix.{unit}
use Rattle.cholesky.proofs.forward6.Given as goal

abbrev pub invariant-loop-i : goal.invariant-loop-i
invariant-loop-i l = ByRows f64 (half_way_lem f64 l.l) (unit f64) l.w l.i
