use native.Mathlib.Omega.{arith}
use borrow.Author.Tests.{le-leb, lt-leb}
use Rattle.fgo_state.specs.Memory.{length_in}
use Rattle.fgo_state.proofs.scans.length_in.Goals as goal

pub returns-then-head : goal.returns-then-head
unfolding length_in
returns-then-head c = (rw (le-leb _ _ c.if-head.true), c.if-head.true)

pub returns-else-head : goal.returns-else-head
unfolding length_in
returns-else-head c = (rw (lt-leb _ _ c.if-head.false), omega arith)
