use Rattle.std.proofs.Common.{◌≡◌, ◌+◌, ◌∙◌, length, arith}
use Rattle.bounds.specs.Bounds.{VECTOR}
use Rattle.buffers.specs.Buffers.{over}
use Rattle.buffers.proofs.Over.{over-more}
use Rattle.smoother_pass.proofs.emit.put_state.Goals as goal

pub returns : goal.returns
returns c =
    let g = c.args in
    let m : VECTOR ≡ length g.state.now.x = omega arith in
    c.put-2.ensures ∙ (λ i. over (g.at + m i) g.state.now.p (c.put.ensures i)) ∙ over-more g.at g.state.now.x g.out.now (omega arith) g.state.now.p
