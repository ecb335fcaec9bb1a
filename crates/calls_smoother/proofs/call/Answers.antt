use Rattle.calls_smoother.proofs.Smoothed.{tells_in, answers_in}
use Rattle.calls_smoother.proofs.call.Goals as goal

pub returns-in-Open : goal.returns-in-Open
returns-in-Open c = rw c.in-Open.is (tells_in _ (c.open.ensures c.args.words.now c.args.numbers.now))

pub returns-in-PushLast : goal.returns-in-PushLast
returns-in-PushLast c = rw c.in-PushLast.is (answers_in _ c.push.ensures)

pub returns-in-Push : goal.returns-in-Push
returns-in-Push c = rw c.in-Push.is (answers_in _ c.push_read.ensures)

pub returns-in-Take : goal.returns-in-Take
returns-in-Take c = rw c.in-Take.is (answers_in _ c.take.ensures)
