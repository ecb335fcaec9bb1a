use Rattle.std.proofs.lemmas.Result.{err_from_is_err_and}
use mathlib.Core.Path.{refl, sym, ◌∙◌}
use native.Mathlib.Omega.{arith}
use lib.ListN.{length}
use Rattle.buffers.specs.Answer.{taken}
use Rattle.smoother.specs.Smoother.{takes}
use Rattle.smoother.specs.Promise.{window}
use Rattle.smoother.proofs.Refusals.{passing}
use Rattle.smoother.proofs.Calls.{due_passed, none_held, refuses, refuses_early, gives_oldest}
use Rattle.smoother.proofs.take.Goals as goal

pub returns-in_err-check_call : goal.returns-in_err-check_call
returns-in_err-check_call c =
    let p = err_from_is_err_and c.from_residual.result c.from_residual.ensures.1 in
    rw (p.1, p.2) (refuses_early _ _ _ _ _ c.in_err-check_call.field-0.0 c.in_err-check_call.ensures)

pub returns-then-s-eq0 : goal.returns-then-s-eq0
returns-then-s-eq0 c =
    let g = c.args in
    let w = window g.window.now g.values.now in
    let ws = g.words.now in
    let ns = g.numbers.now in
    refuses taken g.s.now w ws ns 13 (due_passed taken g.s.now w ws ns (sym c.in_ok-check_call.ensures) ∙ none_held g.s.now w c.if-s-eq0.true) refl

pub emit_oldest-requires : goal.emit_oldest-requires
emit_oldest-requires c =
    let g = c.args in
    let p = passing g.s.now (window g.window.now g.values.now) (length g.words.now) (length g.numbers.now) (sym c.in_ok-check_call.ensures) in
    record {
      ready = record { fits = p.fits; few = omega (arith, p.few); some = omega (arith, c.if-s-eq0.false); counted = p.counted };
      words = p.words;
      numbers = p.numbers;
    }

pub returns : goal.returns
unfolding takes
returns c =
    let g = c.args in
    let w = window g.window.now g.values.now in
    let ws = g.words.now in
    let ns = g.numbers.now in
    let n = c.emit_oldest.auto in
    gives_oldest taken g.s.now w ws ns g.s.now w (due_passed taken g.s.now w ws ns (sym c.in_ok-check_call.ensures)) refl refl c.emit_oldest.ensures n.window n.values n.words n.numbers
