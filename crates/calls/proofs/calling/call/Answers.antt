use native.Mathlib.Omega.{arith}
use Rattle.std.proofs.Common.{◌≡◌, refl, rules}
use Rattle.std.specs.Prelude.{Some}
use Rattle.calls_input.specs.declared.Call.TheVariants.{Refiner, Smoother, Digest}
use Rattle.print.proofs.Fitting.{bad_few, ready}
use Rattle.calls_cells.proofs.Opened.{ready_in}
use Rattle.calls_refiner.proofs.Telling.{refines_in}
use Rattle.calls_smoother.proofs.Smoothed.{smooths_in}
use Rattle.calls.proofs.calling.call.Goals as goal

pub returns-in-Some-Refiner : goal.returns-in-Some-Refiner
returns-in-Some-Refiner c =
    let e = c.call_refiner.ensures in
    let call : c.args.call ≡ Some (Refiner c.in-Some-Refiner.c) = search rules in
    rw call
    (record {
      refines = refines_in _ _ _ _ _ _ _ _ _ c.in-Some-Refiner.c c.args.s.now e.done;
      smoother = refl;
      rest = record { lent = refl; words = e.words; numbers = e.numbers };
    })

pub returns-in-Some-Smoother : goal.returns-in-Some-Smoother
returns-in-Some-Smoother c =
    let e = c.call_smoother.ensures.smooths in
    let call : c.args.call ≡ Some (Smoother c.in-Some-Smoother.c) = search rules in
    rw call
    (record {
      smooths = smooths_in _ _ _ _ _ _ _ _ _ c.in-Some-Smoother.c c.args.s.now _ e.done;
      refiner = c.call_smoother.ensures.refiner;
      rest = record { lent = refl; words = e.words; numbers = e.numbers };
    })

pub returns-in-Some-Digest : goal.returns-in-Some-Digest
returns-in-Some-Digest c = let call : c.args.call ≡ Some Digest = search rules in rw call (record { stays = refl; told = ready_in _ c.tell_digest.ensures })

pub returns-in-None : goal.returns-in-None
returns-in-None c = rw c.in-None.is (record { stays = refl; told = ready_in _ (ready c.put_bad.ensures bad_few (omega arith)) })
