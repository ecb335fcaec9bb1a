use Rattle.std.proofs.Common.{◌≤◌, length}
use Rattle.id_index.specs.Index.{StandsBelow}
use Rattle.id_index.proofs.place_below.Given as goal

-- every place with the id lies below k
abbrev pub invariant-loop-k : goal.invariant-loop-k
invariant-loop-k l = record { none_past : StandsBelow l.ids l.x l.k; inside : l.k ≤ length l.ids }

abbrev pub decreases-loop-k : goal.decreases-loop-k
decreases-loop-k l = l.k
