use Rattle.std.proofs.Common.{rules}
use Rattle.search_rows.specs.Rows.{row_entry}
use Rattle.search_rows.proofs.Made.{made_of}
use Rattle.search_rows.proofs.RowSlots.{row-length, row_at}
use Rattle.search_rows.proofs.rows.row_of.Goals as goal

pub returns : goal.returns
returns c =
    let s = c.args in
    let starts = s.starts.now.places.now in
    let ids = s.ids.now in
    let x = s.x.0 in
    made_of _ (row_entry starts ids x) _ _ (λ k x t h e. search rules) _ _ 0 (row-length starts ids x) (row_at starts ids x) c.from_fn.ensures.items
