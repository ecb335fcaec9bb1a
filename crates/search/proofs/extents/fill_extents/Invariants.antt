use mathlib.Core.Path.{◌≡◌}
use lib.ListN.{length}
use Rattle.bounds.specs.Bounds.{DETECTIONS}
use Rattle.search.specs.Extents.{ExtentOfEach}
use Rattle.search.proofs.extents.fill_extents.Given as goal

-- the extents before place i are those of their rows
abbrev pub invariant-loop-i : goal.invariant-loop-i
invariant-loop-i l = ExtentOfEach l.dots l.i l.list.rows l.xs l.ys × (length l.xs ≡ DETECTIONS) × (length l.ys ≡ DETECTIONS)
