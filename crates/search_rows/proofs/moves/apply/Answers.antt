use Rattle.search_rows.proofs.Renamed.{renaming_turn, renaming_end}
use Rattle.search_rows.proofs.moves.apply.Goals as goal

pub loop-k-preserved : goal.loop-k-preserved
loop-k-preserved g c = renaming_turn c.loop-k.invariant c.loop-k-test.true (rw c.later.ensures at c.targets-t.ensures) c.rename_scan.ensures

pub returns : goal.returns
returns g c = renaming_end c.loop-k.invariant c.loop-k-test.false
