use Rattle.scalar.proofs.RootDigits.{Inv}
use Rattle.sqrt.proofs.root_digits.Given as goal

abbrev pub invariant-loop : goal.invariant-loop
invariant-loop l = Inv l.m l.root l.rest l.left l.counter
