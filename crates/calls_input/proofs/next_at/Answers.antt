use mathlib.Core.Path.{◌≡◌}
use Prim.Native.Nat.{◌+◌, ◌<◌}
use native.Mathlib.Omega.{arith}
use lib.ListN.{length}
use borrow.Author.Tests.{le-leb, lt-leb}
use Rattle.bounds.specs.Bounds.{CALL}
use Rattle.engine.specs.Little.{little}
use Rattle.calls_input.specs.Input.{next_at}
use Rattle.calls_input.proofs.Placed.{reads_next}
use Rattle.calls_input.proofs.next_at.Goals as goal

pub returns-then-s-at-lt-CALL : goal.returns-then-s-at-lt-CALL
unfolding next_at
returns-then-s-at-lt-CALL c = rw (lt-leb (c.args.at + CALL) (length c.args.s.now) (omega arith), c.bad_at.ensures)

pub returns-then-s-from : goal.returns-then-s-from
unfolding next_at
returns-then-s-from c = let e : c.u32_at-size.result ≡ little 4 c.args.s.now (c.args.at + 4) = c.u32_at-size.ensures in let h : length c.args.s.now < c.args.at + CALL + little 4 c.args.s.now (c.args.at + 4) = omega arith in rw (le-leb (c.args.at + CALL) (length c.args.s.now) (omega arith), lt-leb (c.args.at + CALL + little 4 c.args.s.now (c.args.at + 4)) (length c.args.s.now) h, c.bad_at-then-s-from.ensures)

pub returns : goal.returns
returns c = reads_next c.args.s.now c.args.at c.u32_at-code.ensures c.u32_at-size.ensures (omega arith) c.called-call.ensures
