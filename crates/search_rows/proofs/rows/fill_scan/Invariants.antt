use lib.ListN.{take}
use Rattle.search_rows.specs.Rows.{Tabled}
use Rattle.search_rows.proofs.rows.fill_scan.Given as goal

abbrev pub invariant-loop-i : goal.invariant-loop-i
invariant-loop-i l = Tabled l.starts.places.now (take l.i l.ids) l.table l.n l.rows
