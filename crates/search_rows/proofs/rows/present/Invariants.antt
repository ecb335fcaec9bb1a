use Rattle.search_rows.specs.Rows.{present_in, Begins}
use Rattle.search_rows.proofs.rows.present.Given as goal

abbrev pub invariant-loop-x : goal.invariant-loop-x
invariant-loop-x l = Begins (present_in l.x-index l.ids) l.m l.table
