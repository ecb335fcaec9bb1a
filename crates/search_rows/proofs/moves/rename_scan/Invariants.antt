use mathlib.Core.Path.{◌≡◌}
use Rattle.search_rows.specs.Moves.{map_over, retarget}
use Rattle.search_rows.proofs.moves.rename_scan.Given as goal

abbrev pub invariant-loop-x : goal.invariant-loop-x
invariant-loop-x l = l.x-items ≡ map_over (retarget l.a.0 l.b.0 l.t) 0 l.x-index l.initial.x-items
