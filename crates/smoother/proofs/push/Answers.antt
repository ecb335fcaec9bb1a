use Rattle.std.proofs.lemmas.Result.{err_from_is_err_and}
use mathlib.Core.Path.{sym}
use lib.ListN.{length}
use Rattle.smoother_window.proofs.Forms.{fits}
use Rattle.smoother.specs.Promise.{window}
use Rattle.smoother.proofs.Refusals.{passing, had_when}
use Rattle.smoother.proofs.Calls.{refuses_early, push_refuses, push_ready, push-holds, push_gives}
use Rattle.smoother.proofs.push.Goals as goal

pub returns-in_err-check_call : goal.returns-in_err-check_call
returns-in_err-check_call c =
    let p = err_from_is_err_and c.from_residual.result c.from_residual.ensures.1 in
    rw (p.1, p.2) (refuses_early _ _ _ _ _ c.in_err-check_call.field-0.0 c.in_err-check_call.ensures)

pub well_formed-formed-requires : goal.well_formed-formed-requires
well_formed-formed-requires c =
    let g = c.args in
    (passing g.s.now (window g.window.now g.values.now) (length g.words.now) (length g.numbers.now) (sym c.in_ok-check_call.ensures)).fits.tracks

pub store-requires : goal.store-requires
store-requires c =
    let s = c.args.s.now in
    let p = passing s (window c.args.window.now c.args.values.now) (length c.args.words.now) (length c.args.numbers.now) (sym c.in_ok-check_call.ensures) in
    let h = had_when _ _ c.well_formed-formed.ensures c.in_ok-frame.ensures.value in
    record { fitting = p.fits; free = p.few; few = rw h.1 (fits s.config _ h.0).tracks }

pub returns-then-s : goal.returns-then-s
returns-then-s c = push-holds _ _ _ _ _ c.in_ok-check_call.ensures c.well_formed-formed.ensures c.in_ok-frame.ensures.value c.store.ensures c.if-s.true

pub returns-in_err-frame : goal.returns-in_err-frame
returns-in_err-frame c =
    let p = err_from_is_err_and c.from_residual-in_err-frame.result c.from_residual-in_err-frame.ensures.1 in
    rw (p.1, p.2) (push_refuses _ _ _ _ _ c.in_ok-check_call.ensures c.well_formed-formed.ensures c.in_err-frame.ensures.value)

pub emit_oldest-requires : goal.emit_oldest-requires
emit_oldest-requires c =
    let p = passing c.args.s.now (window c.args.window.now c.args.values.now) (length c.args.words.now) (length c.args.numbers.now) (sym c.in_ok-check_call.ensures) in
    record { ready = push_ready _ _ _ _ _ c.in_ok-check_call.ensures c.well_formed-formed.ensures c.in_ok-frame.ensures.value c.store.ensures; words = p.words; numbers = p.numbers }

pub returns : goal.returns
returns c =
    let n = c.emit_oldest.auto in
    push_gives _ _ _ _ _ c.in_ok-check_call.ensures c.well_formed-formed.ensures c.in_ok-frame.ensures.value c.store.ensures c.if-s.false c.emit_oldest.ensures n.window n.values n.words n.numbers
