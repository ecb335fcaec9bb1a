use mathlib.Core.Path.{refl}
use Rattle.calls_cells.proofs.Opened.{ready_in}
use Rattle.calls_refiner.proofs.Telling.{answers_in}
use Rattle.calls_refiner.proofs.call.Goals as goal

pub returns-in-Open : goal.returns-in-Open
returns-in-Open c =
    rw c.in-Open.is
    (record {
      refiner_is = c.open.ensures.refiner;
      memory_is = c.open.ensures.memory;
      words = refl;
      numbers = refl;
      last_is = refl;
      text_is = ready_in _ c.open.ensures.text;
    })

pub returns-in-Push : goal.returns-in-Push
returns-in-Push c = rw c.in-Push.is (answers_in _ c.push.ensures)

pub returns-in-Take : goal.returns-in-Take
returns-in-Take c = rw c.in-Take.is (answers_in _ c.take.ensures)

pub returns-in-Counters : goal.returns-in-Counters
returns-in-Counters c =
    rw c.in-Counters.is
    (record { refiner_is = refl; memory_is = refl; words = refl; numbers = refl; last_is = refl; text_is = ready_in _ c.count.ensures })
