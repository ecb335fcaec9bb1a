use Rattle.std.proofs.Common.{sym, ap, ◌∙◌}
use Rattle.cost.specs.Cost.{view_in}
use Rattle.search_merge.specs.declared.Overlap.{Overlap}
use Rattle.cost_row.specs.Price.{row_cost}
use Rattle.search_merge.proofs.Merged.{merged_own}
use Rattle.search_merge.proofs.Merging.own_cost.Goals as goal

pub returns-then-self-eq0 : goal.returns-then-self-eq0
returns-then-self-eq0 c =
    let m = c.args.self.now in
    let p = m.prices.now in
    let k = m.keeper.now in
    let none = sym (ap (λ (o : Overlap). o.theirs) m.lie) ∙ c.if-self-eq0.true in
    m.paid ∙ sym (ap (row_cost p.config (view_in p) k.from) (merged_own k.row.slots.now m.other.now.slots.now none))
