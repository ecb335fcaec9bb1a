use Rattle.std.proofs.Common.{◌≡◌, refl, ap, ◌∙◌, Bool, true, false, cond, arith}
use mir.Val.{bool_byte}
use Rattle.buffers.specs.Buffers.{over}
use Rattle.smoother_frame.specs.Frame.{smoothed_as}
use Rattle.smoother_pass.specs.Pass.{smoothed_flag}
use Rattle.smoother_pass.proofs.Writing.{flagged}
use Rattle.smoother_pass.proofs.emit.emit_words.Goals as goal

-- a bool as a number
as_number : (b : Bool) → bool_byte b ≡ cond b 1 0
as_number true = refl
as_number false = refl

pub returns-clause-written : goal.returns-clause-written
returns-clause-written c =
    let v = smoothed_flag c.args.s.config in
    let o = c.args.words.now in
    let w = c.frame_words-frame.result.now in
    c.put_smoothed.ensures
    ∙ (λ i. smoothed_as (c.put.ensures i) ((c.from.ensures ∙ as_number _) i))
    ∙ flagged w o v (omega (arith, c.frame_words-frame.ensures.whole))
    ∙ ap (λ w. over 0 (smoothed_as w v) o) c.frame_words-frame.ensures.value
