use Rattle.cost_row.proofs.Heads.{ends_at}
use Rattle.cost_row.proofs.ended.EndedRow.new.Goals as goal

pub invariant_of-result : goal.invariant_of-result
invariant_of-result c = record { ends = ends_at c.told-slots c.end_of.ensures }
