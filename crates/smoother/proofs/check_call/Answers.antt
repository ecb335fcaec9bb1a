use mathlib.Core.Path.{sym, ◌∙◌}
use Rattle.smoother.specs.Promise.{later_refusal}
use Rattle.smoother.proofs.Refusals.{bounds, fitting}
use Rattle.smoother.proofs.check_call.Goals as goal
use Rattle.smoother.proofs.check_call.Goals.{then-not-bounded-via-then-not-bounded, then-not-bounded-via-else-not-bounded+then-not-window_fits}

pub returns-then-not-bounded : goal.returns-then-not-bounded
unfolding later_refusal
returns-then-not-bounded c =
    elim c.then-not-bounded.branch [
      | then-not-bounded-via-then-not-bounded w ↦ rw (sym c.bounded.ensures ∙ w.if-not-bounded.true)
      | then-not-bounded-via-else-not-bounded+then-not-window_fits w ↦ rw (sym c.bounded.ensures ∙ w.if-not-bounded.false, sym w.window_fits.ensures ∙ w.if-not-window_fits.true)
    ]

pub window_fits-requires : goal.window_fits-requires
window_fits-requires c = bounds c.args.s.config (sym c.bounded.ensures ∙ c.if-not-bounded.false)

pub invariant_of-window : goal.invariant_of-window
invariant_of-window c =
    let g = c.args in
    record { fitting = fitting g.s g.win.now g.nums.now (sym c.bounded.ensures ∙ c.if-not-bounded.false) (sym c.window_fits.ensures ∙ c.if-not-window_fits.false) }

pub returns-then-not-rule_ok : goal.returns-then-not-rule_ok
unfolding later_refusal
returns-then-not-rule_ok c = rw (sym c.bounded.ensures ∙ c.if-not-bounded.false, sym c.window_fits.ensures ∙ c.if-not-window_fits.false, sym c.rule_ok.ensures ∙ c.if-not-rule_ok.true)

pub returns-then-not-is_roomy : goal.returns-then-not-is_roomy
unfolding later_refusal
returns-then-not-is_roomy c = rw (sym c.bounded.ensures ∙ c.if-not-bounded.false, sym c.window_fits.ensures ∙ c.if-not-window_fits.false, sym c.rule_ok.ensures ∙ c.if-not-rule_ok.false, sym c.is_roomy.ensures ∙ c.if-not-is_roomy.true)

pub returns : goal.returns
unfolding later_refusal
returns c = rw (sym c.bounded.ensures ∙ c.if-not-bounded.false, sym c.window_fits.ensures ∙ c.if-not-window_fits.false, sym c.rule_ok.ensures ∙ c.if-not-rule_ok.false, sym c.is_roomy.ensures ∙ c.if-not-is_roomy.false)
