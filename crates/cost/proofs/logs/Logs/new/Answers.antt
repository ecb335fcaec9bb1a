use Rattle.cost.proofs.LogTable.{kept_none}
use Rattle.cost.proofs.logs.Logs.new.Goals as goal

pub invariant_of-result : goal.invariant_of-result
invariant_of-result c = record { kept = kept_none }
