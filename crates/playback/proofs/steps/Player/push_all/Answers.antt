use Rattle.playback.proofs.Playing.{push_none, push_more}
use Rattle.playback.proofs.steps.Player.push_all.Goals as goal

pub loop-i-init : goal.loop-i-init
loop-i-init g c = push_none _ _ _

pub loop-i-preserved : goal.loop-i-preserved
loop-i-preserved g c = push_more _ _ _ _ _ _ _ _ c.loop-i.invariant c.push_one.ensures
