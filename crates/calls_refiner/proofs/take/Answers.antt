use Rattle.fgo_spec.specs.Emitting.{written}
use Rattle.fgo_state.specs.Memory.{state_of}
use Rattle.print.proofs.Showing.{shown}
use Rattle.calls_refiner.proofs.take.Goals as goal

pub invariant_of-shown : goal.invariant_of-shown
invariant_of-shown c = record { shown = shown written state_of c.take-answer.ensures.ends }
