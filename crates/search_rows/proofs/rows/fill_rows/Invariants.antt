use lib.ListN.{get_or, take}
use Rattle.search_rows.specs.Rows.{Tabled}
use Rattle.search_rows.proofs.rows.fill_rows.Given as goal

abbrev pub invariant-loop-k : goal.invariant-loop-k
invariant-loop-k l =
    let ends = l.starts.places.now in
    Tabled ends (take (get_or ends l.k 0) l.ids) l.table l.n l.rows
