use native.Mathlib.Omega.{arith}
use Rattle.calls.proofs.Playing.{next_placed}
use Rattle.calls.proofs.play.Goals as goal

pub slice_bounds-call-count : goal.slice_bounds-call-count
slice_bounds-call-count g c = (next_placed c.next_at-n.result c.next_at-n.ensures c.loop-at-test.true).from_end

pub slice_bounds-call-start : goal.slice_bounds-call-start
slice_bounds-call-start g c = (next_placed c.next_at-n.result c.next_at-n.ensures c.loop-at-test.true).from_end

pub slice_bounds-call-end : goal.slice_bounds-call-end
slice_bounds-call-end g c = (next_placed c.next_at-n.result c.next_at-n.ensures c.loop-at-test.true).within

pub call-end-requires : goal.call-end-requires
call-end-requires g c = ((next_placed c.next_at-n.result c.next_at-n.ensures c.loop-at-test.true).sane, omega arith)

pub loop-at-smaller : goal.loop-at-smaller
loop-at-smaller g c =
    let p = next_placed c.next_at-n.result c.next_at-n.ensures c.loop-at-test.true in
    omega (arith, p.on c.loop-at-test.true, p.within)

pub loop-at-preserved : goal.loop-at-preserved
loop-at-preserved g c = (next_placed c.next_at-n.result c.next_at-n.ensures c.loop-at-test.true).within
