use native.Mathlib.Omega.{arith}
use Rattle.fgo_state.proofs.Bodies.{bytes_of}
use Rattle.playback.proofs.Stepping.{given_counted, push_leads}
use Rattle.playback.proofs.steps.Player.push_one.Goals as goal

pub print_step-requires-clause-in_bounds : goal.print_step-requires-clause-in_bounds
print_step-requires-clause-in_bounds g c = let s = c.args.self.now in given_counted _ s.refiner s.memory c.push-answer.ensures

pub returns : goal.returns
returns g c =
    let a = c.args in
    let s = a.self.now in
    let bytes = bytes_of a.s.now (λ i. c.type_inv.s i) in
    let p = c.print_step.ensures in
    rw (p.refiner, p.memory) (push_leads s.refiner s.memory a.s.now a.i bytes c.frame_at.ensures (omega arith) (omega arith) c.push-answer.ensures)
