use native.Mathlib.Omega.{arith}
use mathlib.Core.Path.{sym, ap, subst, ◌∙◌}
use Rattle.refusals.specs.Refusals.{refused}
use Rattle.std.proofs.lemmas.Result.{err_from_is_err_and}
use Rattle.smoother.specs.Smoother.{open_refusal}
use Rattle.smoother.specs.Promise.{Window, window, new_by, lent_of}
use Rattle.smoother.proofs.Fronts.{Within}
use Rattle.playback.specs.Smoothed.{Smoothed}
use Rattle.playback.proofs.Opening.{same_smoother, lent_long, refused_keeps, refused_for, opens_long, opens_clear}
use Rattle.playback.proofs.Playing.{opened_serves}
use Rattle.playback.proofs.smoothed.SmootherSink.open.Goals as goal

pub open_over-requires : goal.open_over-requires
open_over-requires c = (omega (arith, c.requires, c.window_size-size.ensures), omega (arith, c.requires, c.window_size-size.ensures))

pub invariant_of-self : goal.invariant_of-self
invariant_of-self c =
    let s = c.args.self.now in
    let size = c.window_size-size.result in
    let w : Window = window s.words s.values in
    let h : Within size w = (omega (arith, c.requires, c.window_size-size.ensures), omega (arith, c.requires, c.window_size-size.ensures)) in
    let e = c.open_over.ensures in
    let same = refused_keeps _ size w h (window c.open_over.new.window c.open_over.new.values) _ c.in_err-self.was e.opened e.window e.rest in
    record { fits = s.fits; led = subst (λ (v : Window). ∥ Smoothed s.state (lent_of s.size v) ∥₁) (sym same) s.led }

pub invariant_of-self-2 : goal.invariant_of-self-2
invariant_of-self-2 c =
    let s = c.args.self.now in
    let size = c.window_size-size.result in
    let w : Window = window s.words s.values in
    let h : Within size w = (omega (arith, c.requires, c.window_size-size.ensures), omega (arith, c.requires, c.window_size-size.ensures)) in
    let e = c.open_over.ensures in
    let l = opens_long _ (lent_of size w) (lent_of size (window c.open_over.new.window c.open_over.new.values)) e.window in
    let long = lent_long size w h in
    record {
      fits = (omega (arith, c.requires, c.window_size-size.ensures), omega (arith, c.requires, c.window_size-size.ensures));
      led = ∣ opened_serves _ _ (l.0 ∙ long.0) (l.1 ∙ long.1) c.in_ok-self.was e.opened ∣₁;
    }

pub returns-clause-opened : goal.returns-clause-opened
returns-clause-opened c =
    let s = c.args.self.now in
    let size = c.window_size-size.result in
    let w : Window = window s.words s.values in
    let h : Within size w = (omega (arith, c.requires, c.window_size-size.ensures), omega (arith, c.requires, c.window_size-size.ensures)) in
    let e = c.open_over.ensures in
    let long = lent_long size w h in
    record {
      state = e.new _ c.in_ok-self.was ∙ ap new_by c.smoothing.ensures;
      words = c.window_size-size.ensures.words;
      numbers = c.window_size-size.ensures.numbers;
      clear = opens_clear _ (lent_of size w) _ long.0 long.1 c.in_ok-self.was e.opened e.window;
    }

pub returns-in_err-self-clause-refusal : goal.returns-in_err-self-clause-refusal
returns-in_err-self-clause-refusal c =
    let size = c.window_size-size in
    let e = refused_for _ _ _ _ c.open_over.result c.open_over.ensures.opened in
    let p = err_from_is_err_and c.from_residual.result c.from_residual.ensures.1 in
    rw (p.1, p.2) (sym (ap refused c.in_err-self.was) ∙ e ∙ (λ i. open_refusal (c.smoothing.ensures i) (size.ensures.words i) (size.ensures.numbers i)))

pub returns-clause-refusal : goal.returns-clause-refusal
returns-clause-refusal c =
    let size = c.window_size-size in
    let e = refused_for _ _ _ _ c.open_over.result c.open_over.ensures.opened in
    sym (ap refused c.in_ok-self.was) ∙ e ∙ (λ i. open_refusal (c.smoothing.ensures i) (size.ensures.words i) (size.ensures.numbers i))

pub returns-in_err-self-clause-kept : goal.returns-in_err-self-clause-kept
returns-in_err-self-clause-kept c =
    let s = c.args.self.now in
    let size = c.window_size-size.result in
    let w : Window = window s.words s.values in
    let h : Within size w = (omega (arith, c.requires, c.window_size-size.ensures), omega (arith, c.requires, c.window_size-size.ensures)) in
    let e = c.open_over.ensures in
    let p = err_from_is_err_and c.from_residual.result c.from_residual.ensures.1 in
    rw p.1 (same_smoother s _ _ _ (refused_keeps _ size w h (window c.open_over.new.window c.open_over.new.values) _ c.in_err-self.was e.opened e.window e.rest))
