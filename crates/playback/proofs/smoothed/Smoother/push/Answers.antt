use mathlib.Core.Path.{refl}
use Rattle.print.proofs.Showing.{shown}
use Rattle.smoother.specs.Promise.{state_in}
use Rattle.playback.proofs.Serving.{tells, served}
use Rattle.playback.proofs.smoothed.Smoother.push.Goals as goal

pub tell-requires : goal.tell-requires
tell-requires c = shown (λ f. f) state_in c.push_over-answer.ensures.promised.ends

pub returns : goal.returns
returns c = tells c.args.self.now _ c.push_over-answer.ensures.promised refl c.told-text c.tell.ensures

pub invariant_of-self : goal.invariant_of-self
invariant_of-self c = let s = c.args.self.now in record { fits = s.fits; led = served c.push_over-answer.ensures.promised s.led }
