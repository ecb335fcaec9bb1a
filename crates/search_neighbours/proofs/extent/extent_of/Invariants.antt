use mathlib.Core.Path.{◌≡◌}
use lib.ListN.{take}
use Rattle.search_neighbours.specs.Extents.{extent_in}
use Rattle.search_neighbours.proofs.extent.extent_of.Given as goal

-- the extent of the first entries of the row
abbrev pub invariant-loop-i : goal.invariant-loop-i
invariant-loop-i l = l.extent ≡ extent_in l.dots (take l.i-index l.row.slots)
