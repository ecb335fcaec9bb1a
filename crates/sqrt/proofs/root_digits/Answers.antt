use Rattle.std.proofs.Common.{arith}
use Rattle.scalar.proofs.RootDigits.{under, next_one, next_zero, done}
use Rattle.sqrt.proofs.root_digits.Goals as goal
use Rattle.sqrt.proofs.root_digits.Goals.{then-d-t, else-d-t}

pub overflow_mul-t : goal.overflow_mul-t
overflow_mul-t c = omega (arith, under c.loop.invariant c.loop-test.true, c.loop.invariant.small)

pub overflow_add-t : goal.overflow_add-t
overflow_add-t c = omega (arith, under c.loop.invariant c.loop-test.true, c.loop.invariant.small, c.loop.invariant.rest)

pub overflow_mul-d : goal.overflow_mul-d
overflow_mul-d c = omega (arith, under c.loop.invariant c.loop-test.true)

pub overflow_add-d : goal.overflow_add-d
overflow_add-d c = omega (arith, under c.loop.invariant c.loop-test.true)

pub loop-preserved : goal.loop-preserved
loop-preserved c =
    let v = c.loop.invariant in
    let h = c.loop-test.true in
    elim c.if-d-t.branch [
      | then-d-t w ↦ rw (w.root-is, w.rest-is) (next_one v h w.if-d-t.true)
      | else-d-t w ↦ rw (w.root-is, w.rest-is) (next_zero v h w.if-d-t.false)
    ]

pub returns : goal.returns
returns c = let v = c.loop.invariant in done v (omega (arith, v.within))
