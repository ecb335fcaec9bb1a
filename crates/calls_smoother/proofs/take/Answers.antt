use Rattle.smoother.specs.Promise.{state_in}
use Rattle.print.proofs.Showing.{shown}
use Rattle.calls_smoother.proofs.take.Goals as goal

pub invariant_of-shown : goal.invariant_of-shown
invariant_of-shown c = record { shown = shown (λ f. f) state_in c.take_over-answer.ensures.promised.ends }
