use Rattle.std.proofs.Common.{arith}
use Rattle.cost_row.proofs.Heads.{ends_later}
use Rattle.search_merge.proofs.Merged.{merged_ends}
use Rattle.search_merge.proofs.Merging.merged_cost.Goals as goal

pub invariant_of-row : goal.invariant_of-row
invariant_of-row c =
    let a = c.args.self.now.keeper.now.row.ends in
    let b = c.args.self.now.other.now.ends in
    let e = c.max.ensures in
    record { ends = rw c.merged_row-slots.ensures (merged_ends c.args.own (ends_later (omega arith) (omega (arith, a.within, b.within)) a) (ends_later (omega arith) (omega (arith, a.within, b.within)) b)) }
