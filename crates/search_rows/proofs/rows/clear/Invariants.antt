use mathlib.Core.Path.{◌≡◌}
use Prim.Native.Nat.{ℕ, ◌<◌}
use lib.ListN.{get_or, replicate}
use Rattle.bounds.specs.Bounds.{SCANS}
use Rattle.search_rows.specs.Rows.{no_row}
use Rattle.search_rows.proofs.rows.clear.Given as goal

abbrev pub invariant-loop-row : goal.invariant-loop-row
invariant-loop-row l = (k : ℕ) → k < l.row-index → get_or l.rows k no_row ≡ record { slots = replicate SCANS 0; first = SCANS; end = 0 }
