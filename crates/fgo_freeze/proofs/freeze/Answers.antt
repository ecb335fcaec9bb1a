use native.Mathlib.Numerals.{add-one}
use borrow.Author.Rules.{rules}
use Rattle.fgo_spec.specs.Freezing as spec
use Rattle.fgo_freeze.proofs.Times.{passed_on}
use Rattle.fgo_freeze.proofs.freeze.Goals as goal

pub returns : goal.returns
unfolding spec.freeze
returns c = rw (passed_on c.args.d.time (search rules), c.moved_on.ensures, c.with.ensures.heights, c.or.ensures, add-one)
