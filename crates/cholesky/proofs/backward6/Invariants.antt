use Rattle.scalar.specs.F64.{f64}
use Rattle.linalg.proofs.Fill.{ByRows}
use Rattle.cholesky.proofs.Substitution.{half_way_lem, solved}
use Rattle.cholesky.proofs.backward6.Given as goal

abbrev pub invariant-loop-i : goal.invariant-loop-i
invariant-loop-i l = ByRows f64 (half_way_lem f64 l.l) (solved f64 l.l) l.w l.i
