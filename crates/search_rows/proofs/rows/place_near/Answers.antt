use mathlib.Core.Path.{◌∙◌}
use native.Mathlib.Omega.{arith}
use Rattle.search_rows.proofs.IdsAscend.{place-on}
use Rattle.search_rows.proofs.rows.place_near.Goals as goal

pub returns-then-table-near : goal.returns-then-table-near
returns-then-table-near c = let s = c.args in
    c.place_from.ensures ∙ place-on 0 s.x.0 s.near s.table.now c.requires (omega arith) (omega arith)
