use Rattle.cost.specs.Cost.{added}
use Rattle.cost.proofs.Sums.add.Goals as goal

pub returns : goal.returns
unfolding added
returns c = rw (c.update_by-nll.ensures, c.predict-p.ensures, c.skipped.ensures)
