use Rattle.fgo.proofs.Answering.{sound_is}
use Rattle.fgo.specs.Promise.{later_refusal}
use mathlib.Core.Path.{refl, sym, ◌∙◌}
use Rattle.fgo.proofs.check_call.Goals as goal

pub returns-in_default-clause-refusal : goal.returns-in_default-clause-refusal
unfolding later_refusal
returns-in_default-clause-refusal c =
    let g = c.args in
    rw (sound_is g.r.now g.memory.now c.in_default.ensures.sound refl)

pub returns-then-not-is_roomy-clause-refusal : goal.returns-then-not-is_roomy-clause-refusal
unfolding later_refusal
returns-then-not-is_roomy-clause-refusal c =
    let g = c.args in
    rw (sound_is g.r.now g.memory.now c.in-Some.ensures.sound refl, sym c.is_roomy.ensures ∙ c.if-not-is_roomy.true)

pub returns-clause-refusal : goal.returns-clause-refusal
unfolding later_refusal
returns-clause-refusal c =
    let g = c.args in
    rw (sound_is g.r.now g.memory.now c.in-Some.ensures.sound refl, sym c.is_roomy.ensures ∙ c.if-not-is_roomy.false)
