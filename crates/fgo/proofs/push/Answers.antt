use borrow.Author.Tests.{eqb-false}
use Rattle.std.proofs.lemmas.Result.{err_from_is_err_and}
use Rattle.refusals.specs.Refusals.{number_of}
use Rattle.refusals.proofs.Refused.{numbered}
use Rattle.fgo.proofs.PushLaw.{refuses, as_gathered, as_many_refused, push_numbered, push-held, push_leaves}
use Rattle.fgo.proofs.Answering.{later_none, refusal_ends, due_refused}
use Rattle.engine.specs.Body.{body_of}
use Rattle.buffers.specs.Answer.{pushed}
use native.Mathlib.Omega.{arith}
use mathlib.Core.Path.{sym}
use Rattle.fgo.proofs.push.Goals as goal

pub returns-in_err-gathered : goal.returns-in_err-gathered
returns-in_err-gathered c = let a = c.args in
    let m = a.memory.now in
    let r = c.in_err-gathered.field-0.0 in
    let p = err_from_is_err_and c.from_residual.result c.from_residual.ensures.1 in
    rw (p.1, p.2) (refusal_ends a.r.now m a.words.now a.numbers.now (pushed (body_of a.b.now)) (due_refused a.r.now m a.words.now a.numbers.now (pushed (body_of a.b.now)) c.in_err-gathered.ensures.refusal (eqb-false _ 0 (numbered r))))

pub check_push-requires : goal.check_push-requires
check_push-requires c = let a = c.args in
    let m = a.memory.now in
    let e = c.in_ok-gathered.ensures.refusal in
    rw (as_gathered a.r.now m c.in_ok-gathered.ensures.gathered) (refuses a.r.now m (later_none a.r.now m a.words.now a.numbers.now (sym e)).0)

pub returns-in_err-check_push : goal.returns-in_err-check_push
returns-in_err-check_push c = let a = c.args in
    let m = a.memory.now in
    let b = body_of a.b.now in
    let r = c.in_err-check_push.field-0.0 in
    let p = err_from_is_err_and c.from_residual-in_err-check_push.result c.from_residual-in_err-check_push.ensures.1 in
    let due = push_numbered a.r.now m b a.words.now a.numbers.now (sym c.in_ok-gathered.ensures.refusal) (number_of r) (as_many_refused a.r.now m b c.in_ok-gathered.ensures.gathered c.in_err-check_push.ensures) (eqb-false _ 0 (numbered r)) in
    rw (p.1, p.2) (refusal_ends a.r.now m a.words.now a.numbers.now (pushed b) due)

pub arrive-requires : goal.arrive-requires
arrive-requires c = let a = c.args in
    let m = a.memory.now in
    let e = c.in_ok-gathered.ensures.refusal in
    record {
      arrives = record { sound = (later_none a.r.now m a.words.now a.numbers.now (sym e)).0; accepted = sym (as_many_refused a.r.now m (body_of a.b.now) c.in_ok-gathered.ensures.gathered c.in_ok-check_push.ensures) };
      gathered = c.in_ok-gathered.ensures.gathered;
    }

pub freeze_oldest-requires : goal.freeze_oldest-requires
freeze_oldest-requires c = let a = c.args in
    let m = a.memory.now in
    let e = c.in_ok-gathered.ensures.refusal in
    (c.arrive.ensures.arrived.ready, (later_none a.r.now m a.words.now a.numbers.now (sym e)).1, omega (arith, c.if-r.true))

pub returns-then-r : goal.returns-then-r
returns-then-r c = let a = c.args in
    let m = a.memory.now in
    let e = c.in_ok-gathered.ensures.refusal in
    let b = body_of a.b.now in
    let none = sym e in
    push_leaves a.r.now m b a.words.now a.numbers.now none (sym (as_many_refused a.r.now m b c.in_ok-gathered.ensures.gathered c.in_ok-check_push.ensures)) _ _ c.arrive.ensures.arrived c.if-r.true c.freeze_oldest.ensures

pub returns : goal.returns
returns c = let a = c.args in
    let m = a.memory.now in
    let e = c.in_ok-gathered.ensures.refusal in
    let b = body_of a.b.now in
    let none = sym e in
    push-held a.r.now m b a.words.now a.numbers.now none (sym (as_many_refused a.r.now m b c.in_ok-gathered.ensures.gathered c.in_ok-check_push.ensures)) _ _ c.arrive.ensures.arrived c.if-r.false
