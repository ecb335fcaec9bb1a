use lib.ListN.{length, get_or}
use Rattle.print.proofs.Putting.{Put}
use Rattle.print.proofs.fields.put_each.Given as goal

abbrev pub invariant-loop-x : goal.invariant-loop-x
invariant-loop-x g l = (past : _) → Put (λ i. g.T.HasField.text (get_or l.items i past)) (length l.items) l.n l.initial.out l.x-index l.out l.at
