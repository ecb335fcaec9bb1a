-- What a merged row costs, of the windows that the code lends. Definitions only.
use Rattle.std.specs.Prelude.{Bool, Float}
use Rattle.cost.specs.Cost.{view_in}
use Rattle.cost_row.specs.Price.{row_cost}
use Rattle.search_merge.specs.declared.Merging.{Merging}
use Rattle.search_merge.specs.Merge.{merged_row}

-- what the keeper's window costs with the row of the merged track
abbrev pub merged_cost : Merging → Bool → Float
merged_cost m own =
    let p = m.prices.now in
    let k = m.keeper.now in
    row_cost p.config (view_in p) k.from (merged_row own k.row.slots.now m.other.now.slots.now)
