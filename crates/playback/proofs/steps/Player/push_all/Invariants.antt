use Rattle.playback.specs.Played.{pushes, Leads}
use Rattle.playback.proofs.steps.Player.push_all.Given as goal

abbrev pub invariant-loop-i : goal.invariant-loop-i
invariant-loop-i g l = Leads (pushes l.s l.i) l.initial.self.refiner l.initial.self.memory l.self.refiner l.self.memory
