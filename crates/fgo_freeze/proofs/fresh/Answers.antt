use borrow.Author.Rules.{rules}
use Rattle.engine.specs.Body.{rows}
use Rattle.fgo_spec.specs.Freezing as spec
use Rattle.fgo_freeze.proofs.Times.{passed_on}
use Rattle.fgo_freeze.proofs.fresh.Goals as goal

pub returns : goal.returns
unfolding rows spec.freeze
returns c = rw (c.start.ensures, c.dot_of.ensures, passed_on c.args.d.time (search rules), c.with.ensures.heights, c.new.ensures)
