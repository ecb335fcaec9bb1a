use borrow.Author.Tests.{lt-ltb, le-ltb}
use Rattle.fgo_state.specs.Memory.{id_at}
use Rattle.fgo_state.proofs.scans.id_at.Goals as goal

pub returns-then-j-lt-ASSOCIATIONS : goal.returns-then-j-lt-ASSOCIATIONS
unfolding id_at
returns-then-j-lt-ASSOCIATIONS c = rw (c.slot_of.ensures.0, lt-ltb _ _ c.if-j-lt-ASSOCIATIONS.true)

pub returns : goal.returns
unfolding id_at
returns c = rw (le-ltb _ _ c.if-j-lt-ASSOCIATIONS.false)
