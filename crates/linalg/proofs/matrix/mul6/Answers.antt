use Rattle.scalar.specs.F64.{f64}
use Rattle.linalg.proofs.Fill.{no_row, next_row, all-rows}
use Rattle.linalg.specs.Matrix.{mul}
use Rattle.linalg.proofs.matrix.mul6.Goals as goal

pub loop-i-init : goal.loop-i-init
loop-i-init c = no_row f64 _ _ c.told-out

pub loop-i-preserved : goal.loop-i-preserved
loop-i-preserved c = next_row c.loop-i.invariant c.loop-i-test.true c.mul_row-r.ensures c.put_row.ensures

pub returns : goal.returns
unfolding mul
returns c = all-rows c.loop-i.invariant c.loop-i-test.false
