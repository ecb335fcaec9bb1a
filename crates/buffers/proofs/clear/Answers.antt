use Rattle.std.proofs.Common.{arith, ◌≡◌, ◌+◌, ◌-◌, ◌≤◌, ◌∙◌, length, replicate, sym}
use Rattle.std.proofs.lemmas.List.{length-replicate, get_or-replicate}
use Rattle.buffers.proofs.Filling.{filled}
use Rattle.buffers.proofs.clear.Goals as goal

pub returns : goal.returns
returns g c =
    let n = c.args.n in
    let zero = c.args.zero in
    let k : c.args.at + n - c.args.at ≡ n = omega arith in
    let many : length c.loop-x.x-items ≡ c.args.at + n - c.args.at = omega (arith, c.loop-x.auto.x-items) in
    let all : c.args.at + n - c.args.at ≤ c.loop-x.x-index = omega (arith, c.loop-x.auto.x-items, c.loop-x-test.false) in
    filled c.args.at (c.args.at + n - c.args.at) c.args.out.now c.loop-x.x-items (replicate n zero) zero many (length-replicate n zero ∙ sym k)
    (λ j h. c.loop-x.invariant j (omega (arith, all)) ∙ sym (get_or-replicate n j zero zero (omega arith)))
