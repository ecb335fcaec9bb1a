use Rattle.fgo_spec.specs.Windows.{detection_of}
use Rattle.fgo_freeze.proofs.Times.{passed_on}
use Rattle.fgo_freeze.proofs.seen_at.Goals as goal

pub returns : goal.returns
unfolding detection_of
returns c = rw (passed_on c.time.result c.time.type_inv, c.time.ensures, c.class_for.ensures, c.observation-p.ensures, c.association-a.ensures)
