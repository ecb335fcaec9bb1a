use native.Mathlib.Omega.{arith}
use Rattle.playback.proofs.Stepping.{given_counted, take_leads, fewer}
use Rattle.playback.proofs.steps.Player.take_one.Goals as goal

pub print_step-requires-clause-in_bounds : goal.print_step-requires-clause-in_bounds
print_step-requires-clause-in_bounds g c = let s = c.args.self.now in given_counted _ s.refiner s.memory c.take-answer.ensures

pub returns-clause-leads : goal.returns-clause-leads
returns-clause-leads g c =
    let s = c.args.self.now in
    let p = c.print_step.ensures in
    rw (p.refiner, p.memory) (take_leads s.refiner s.memory (omega arith) (omega arith) c.take-answer.ensures)

pub returns-clause-fewer : goal.returns-clause-fewer
returns-clause-fewer g c =
    let s = c.args.self.now in
    rw c.print_step.ensures.refiner (fewer s.refiner s.memory (omega arith) (omega arith) c.take-answer.ensures)
