use mathlib.Core.Path.{refl}
use native.Mathlib.Omega.{arith}
use Rattle.linalg.specs.Grown.{tabulate}
use Rattle.linalg.specs.Matrix as Matrix
use Rattle.linalg.proofs.Fill.{next_row, all-rows}
use Rattle.linalg.proofs.matrix.transpose6.Goals as goal

pub loop-j-init : goal.loop-j-init
unfolding tabulate
loop-j-init c = record { within = omega arith; same = refl }

pub loop-j-preserved : goal.loop-j-preserved
loop-j-preserved c =
    next_row c.loop-j.invariant c.loop-j-test.true c.column-r.ensures c.put_row.ensures

pub returns : goal.returns
unfolding Matrix.transpose
returns c = all-rows c.loop-j.invariant c.loop-j-test.false
