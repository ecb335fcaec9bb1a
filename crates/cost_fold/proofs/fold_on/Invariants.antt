use mathlib.Core.List.{foldl}
use Rattle.cost.specs.Cost.{added, measurements, view_in}
use Rattle.cost_fold.proofs.Steps.{Inv}
use Rattle.cost_fold.proofs.fold_on.Given as goal

abbrev pub invariant-loop-i : goal.invariant-loop-i
invariant-loop-i l = Inv l.q (view_in l.prices) (foldl (added l.q) l.initial.r (measurements (view_in l.prices) l.k l.slots)) l.initial.r.misses l.slots l.k l.r l.i
