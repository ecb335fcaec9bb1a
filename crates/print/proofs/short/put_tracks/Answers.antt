use native.Mathlib.Omega.{arith}
use Rattle.print.proofs.Putting.{put_none, put_next, put_all}
use Rattle.print.proofs.short.put_tracks.Goals as goal

pub loop-i-init : goal.loop-i-init
loop-i-init c = put_none

pub loop-i-preserved : goal.loop-i-preserved
loop-i-preserved c = put_next c.loop-i.invariant (omega arith) c.put_track-at.ensures

pub shape_of-out : goal.shape_of-out
shape_of-out c = c.loop-i.invariant.long

pub returns : goal.returns
returns c = put_all c.loop-i.invariant (omega arith)
