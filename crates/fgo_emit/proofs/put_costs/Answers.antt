use Rattle.std.proofs.Common.{arith, ◌≡◌, ◌+◌, ◌-◌}
use Rattle.engine.specs.Frame.{no_association}
use Rattle.engine.specs.Body.{body_of}
use Rattle.fgo_spec.specs.Emitting.{cost_number}
use Rattle.fgo_emit.specs.Writing.{costs_in}
use Rattle.fgo_emit.proofs.Associations.{costs_long}
use Rattle.buffers.proofs.Filling.{filled}
use Rattle.fgo_emit.proofs.put_costs.Goals as goal

pub returns : goal.returns
returns c =
    let s = body_of c.args.s.now.frame.body in
    let o = c.args.o in
    let n = c.count.result in
    let k : o + n - o ≡ n = omega arith in
    filled o (o + n - o) c.args.numbers.now c.loop-j.x-items (costs_in s) (cost_number no_association.cost) (omega (arith, c.loop-j.auto.x-items)) (omega (arith, costs_long s, c.count.ensures.count)) (λ j h. c.loop-j.invariant j (omega (arith, c.loop-j-test.false)))
