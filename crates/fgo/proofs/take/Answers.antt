use borrow.Author.Tests.{eqb-false}
use Rattle.std.proofs.lemmas.Result.{err_from_is_err_and}
use Rattle.refusals.proofs.Refused.{numbered}
use Rattle.fgo.proofs.Answering.{later_none, refusal_ends, due_refused, take_none, take_ends}
use Rattle.fgo_arrive.proofs.ReadyLaw.{sound_ready}
use Rattle.buffers.specs.Answer.{taken}
use native.Mathlib.Omega.{arith}
use mathlib.Core.Path.{sym}
use Rattle.fgo.proofs.take.Goals as goal

pub returns-in_err-check_call : goal.returns-in_err-check_call
returns-in_err-check_call c = let a = c.args in
    let m = a.memory.now in
    let r = c.in_err-check_call.field-0.0 in
    let p = err_from_is_err_and c.from_residual.result c.from_residual.ensures.1 in
    rw (p.1, p.2) (refusal_ends a.r.now m a.words.now a.numbers.now taken (due_refused a.r.now m a.words.now a.numbers.now taken c.in_err-check_call.ensures.refusal (eqb-false _ 0 (numbered r))))

pub returns-then-r-eq0 : goal.returns-then-r-eq0
returns-then-r-eq0 c = let a = c.args in
    let m = a.memory.now in
    let e = c.in_ok-check_call.ensures.refusal in
    let none = sym e in
    refusal_ends a.r.now m a.words.now a.numbers.now taken (take_none a.r.now m a.words.now a.numbers.now none c.if-r-eq0.true)

pub freeze_oldest-requires : goal.freeze_oldest-requires
freeze_oldest-requires c = let a = c.args in
    let m = a.memory.now in
    let e = c.in_ok-check_call.ensures.refusal in
    let p = later_none a.r.now m a.words.now a.numbers.now (sym e) in
    (sound_ready a.r.now m p.0, p.1, omega (arith, c.if-r-eq0.false))

pub returns : goal.returns
returns c = let a = c.args in
    let m = a.memory.now in
    let e = c.in_ok-check_call.ensures.refusal in
    take_ends a.r.now m a.words.now a.numbers.now (sym e) c.freeze_oldest.ensures
