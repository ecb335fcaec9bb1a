use mathlib.Core.Path.{sym, ◌∙◌}
use Rattle.smoother_window.specs.Config.{legal}
use Rattle.smoother.specs.Smoother.{open_refusal}
use Rattle.smoother.proofs.Refusals.{bounds}
use Rattle.smoother.proofs.check_open.Goals as goal
use Rattle.smoother.proofs.check_open.Goals.{then-not-bounded-via-then-not-bounded, then-not-bounded-via-else-not-bounded+then-not-is_finite}

pub returns-then-not-bounded : goal.returns-then-not-bounded
unfolding open_refusal legal
returns-then-not-bounded c =
    elim c.then-not-bounded.branch [
      | then-not-bounded-via-then-not-bounded w ↦ rw (sym c.bounded.ensures ∙ w.if-not-bounded.true)
      | then-not-bounded-via-else-not-bounded+then-not-is_finite w ↦ rw (sym c.bounded.ensures ∙ w.if-not-bounded.false, sym w.is_finite.ensures ∙ w.if-not-is_finite.true)
    ]

pub window_fits-requires : goal.window_fits-requires
window_fits-requires c = bounds c.args.c (sym c.bounded.ensures ∙ c.if-not-bounded.false)

pub returns-then-not-window_fits : goal.returns-then-not-window_fits
unfolding open_refusal legal
returns-then-not-window_fits c = rw (sym c.bounded.ensures ∙ c.if-not-bounded.false, sym c.is_finite.ensures ∙ c.if-not-is_finite.false, sym c.window_fits.ensures ∙ c.if-not-window_fits.true)

pub returns : goal.returns
unfolding open_refusal legal
returns c = rw (sym c.bounded.ensures ∙ c.if-not-bounded.false, sym c.is_finite.ensures ∙ c.if-not-is_finite.false, sym c.window_fits.ensures ∙ c.if-not-window_fits.false)
