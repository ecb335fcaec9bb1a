use mathlib.Core.Path.{refl, ap, ◌∙◌}
use native.Mathlib.Omega.{arith}
use Rattle.scalar.specs.F64.{f64}
use Rattle.linalg.proofs.Fill.{next_column, all-columns}
use Rattle.linalg.specs.Grown.{tabulate}
use Rattle.linalg.specs.Matrix.{mul, mul_vec}
use Rattle.models.specs.Motion.{cv_f}
use Rattle.models.proofs.cv_f6_mul.Goals as goal

pub loop-j-init : goal.loop-j-init
unfolding tabulate
loop-j-init c = record { within = omega arith; same = refl }

pub loop-j-preserved : goal.loop-j-preserved
unfolding mul_vec
loop-j-preserved c =
    next_column c.loop-j.invariant c.loop-j-test.true
    (c.cv_f6_mul_vec-r.ensures ∙ ap (mul_vec f64 (cv_f f64 c.args.dt)) c.column-v.ensures)
    c.put_column.ensures

pub returns : goal.returns
unfolding mul
returns c = all-columns c.loop-j.invariant c.loop-j-test.false
