use mathlib.Core.Path.{refl}
use Rattle.playback.proofs.Serving.{tells, served}
use Rattle.playback.proofs.smoothed.Smoother.take.Goals as goal

pub returns : goal.returns
returns c = tells c.args.self.now _ c.take_over-answer.ensures.promised refl c.told-text c.tell.ensures

pub invariant_of-self : goal.invariant_of-self
invariant_of-self c = let s = c.args.self.now in record { fits = s.fits; led = served c.take_over-answer.ensures.promised s.led }
