use Rattle.std.proofs.Common.{◌≡◌}
use Rattle.scalar.specs.F64.{f64}
use Rattle.linalg.specs.Rows.{less_rows}
use Rattle.cholesky.proofs.less_rows.Given as goal

abbrev pub invariant-loop-k : goal.invariant-loop-k
invariant-loop-k l = l.r ≡ less_rows f64 l.l l.w l.i l.p l.s l.q l.k
