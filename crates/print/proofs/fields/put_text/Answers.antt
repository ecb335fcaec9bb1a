use lib.Seq.{length-take-le}
use lib.ListN.{length}
use mathlib.Core.Path.{sym}
use Prim.Native.Nat.{◌-◌}
use native.Mathlib.Omega.{arith}
use Rattle.print.proofs.Putting.{puts_nothing, puts_part, puts_whole}
use Rattle.print.proofs.fields.put_text.Goals as goal

pub returns-then-out-n : goal.returns-then-out-n
returns-then-out-n c = puts_nothing c.args.s.now c.args.n c.args.out.now c.if-out-n.true

pub slice_bounds-put-end : goal.slice_bounds-put-end
slice_bounds-put-end c = sym (length-take-le _ c.args.s.now (omega (arith, c.if-room-s.true)))

pub put-requires : goal.put-requires
put-requires c = omega (arith, c.if-room-s.true, c.if-out-n.false, length-take-le (length c.args.out.now - c.args.n) c.args.s.now (omega (arith, c.if-room-s.true)))

pub returns-then-room-s : goal.returns-then-room-s
returns-then-room-s c = puts_part c.args.s.now c.args.n c.args.out.now c.if-room-s.true c.put.ensures

pub returns : goal.returns
returns c = puts_whole c.args.s.now c.args.n c.args.out.now (omega (arith, c.if-room-s.false, c.if-out-n.false)) c.put-2.ensures
