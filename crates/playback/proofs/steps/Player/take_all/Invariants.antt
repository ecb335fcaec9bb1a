use Rattle.playback.proofs.Playing.{Taking}
use Rattle.playback.proofs.steps.Player.take_all.Given as goal

abbrev pub invariant-loop-self : goal.invariant-loop-self
invariant-loop-self g l = Taking l.initial.self.refiner l.initial.self.memory l.self.refiner l.self.memory

abbrev pub decreases-loop-self : goal.decreases-loop-self
decreases-loop-self g l = l.self.refiner.held
