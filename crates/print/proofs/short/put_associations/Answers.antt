use native.Mathlib.Omega.{arith}
use Rattle.print.proofs.Putting.{put_none, put_next, put_all}
use Rattle.print.proofs.short.put_associations.Goals as goal

pub loop-j-init : goal.loop-j-init
loop-j-init c = put_none

pub loop-j-preserved : goal.loop-j-preserved
loop-j-preserved c = put_next c.loop-j.invariant (omega arith) c.put_association-at.ensures

pub shape_of-out : goal.shape_of-out
shape_of-out c = c.loop-j.invariant.long

pub returns : goal.returns
returns c = put_all c.loop-j.invariant (omega arith)
