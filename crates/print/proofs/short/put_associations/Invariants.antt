use Rattle.print.specs.Text.{assoc_line}
use Rattle.bounds.specs.Bounds.{LINK}
use Prim.Native.Nat.{◌+◌, ◌*◌}
use Rattle.print.proofs.Putting.{Put}
use Rattle.print.proofs.short.put_associations.Given as goal

abbrev pub invariant-loop-j : goal.invariant-loop-j
invariant-loop-j l = Put (λ k. assoc_line l.words (l.o + LINK * k)) l.many l.n l.initial.out l.j l.out l.at
