use borrow.Author.Tests.{eqb-false}
use Rattle.std.proofs.lemmas.Result.{err_from_is_err_and, IfOk-at_ok}
use Rattle.refusals.specs.Refusals.{number_of}
use Rattle.refusals.proofs.Refused.{numbered}
use Rattle.std.specs.Float.{binary64}
use Rattle.std.specs.Float.Ieee.{of_bits}
use lib.ListN.{length}
use mathlib.Core.Path.{◌≡◌, refl, ap, ◌∙◌}
use Rattle.buffers.specs.Answer.{opened_by, left_by}
use Rattle.smoother_window.specs.Window.{frames_from}
use Rattle.smoother.specs.Smoother.{new, opens}
use Rattle.smoother.specs.Promise.{window, state_in, new_by, emptied}
use Rattle.buffers.proofs.Checking.{open_refused, left_refused}
use Rattle.buffers.proofs.Agreeing.{cleared_all}
use Rattle.smoother.proofs.open.Goals as goal

pub returns-in_err-check_open : goal.returns-in_err-check_open
unfolding opens
returns-in_err-check_open c =
    let s = new c.args.config in
    let w = window c.args.window.now c.args.values.now in
    let r = c.in_err-check_open.field-0.0 in
    let p = err_from_is_err_and c.from_residual.result c.from_residual.ensures.1 in
    record {
      opened = rw (p.1, p.2) (open_refused (number_of r) s (eqb-false _ 0 (numbered r)) ∙ ap (λ n. opened_by n s) c.in_err-check_open.ensures);
      new = λ t e. IfOk-at_ok (λ t. t ≡ new_by c.args.config) e (rw p.1 tt);
      window = left_refused (number_of r) (emptied w) w (eqb-false _ 0 (numbered r)) ∙ ap (λ n. left_by n (emptied w) w) c.in_err-check_open.ensures;
    }

pub returns : goal.returns
unfolding opens state_in frames_from
returns c =
    let s = new c.args.config in
    let w = window c.args.window.now c.args.values.now in
    let a = c.clear.ensures ∙ cleared_all 0 (length w.words) w.words refl in
    let b = c.clear-2.ensures ∙ cleared_all (of_bits binary64 0) (length w.numbers) w.numbers refl in
    record {
      opened = ap (λ n. opened_by n s) c.in_ok-check_open.ensures;
      new = λ t e. IfOk-at_ok (λ t. t ≡ new_by c.args.config) e refl;
      window = (λ i. window (a i) (b i)) ∙ ap (λ n. left_by n (emptied w) w) c.in_ok-check_open.ensures;
    }
