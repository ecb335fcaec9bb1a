use Rattle.std.proofs.Common.{sym, ap, ◌∙◌}
use Rattle.cost.specs.Cost.{view_in}
use Rattle.search_merge.specs.declared.Overlap.{Overlap}
use Rattle.cost_row.specs.Price.{row_cost}
use Rattle.search_merge.proofs.Merged.{merged_other}
use Rattle.search_merge.proofs.Merging.other_cost.Goals as goal

pub returns-then-self-eq0 : goal.returns-then-self-eq0
returns-then-self-eq0 c =
    let m = c.args.self.now in
    let p = m.prices.now in
    let k = m.keeper.now in
    let b = m.other.now in
    let none = sym (ap (λ (o : Overlap). o.mine) m.lie) ∙ c.if-self-eq0.true in
    let row = merged_other k.row.slots.now b.slots.now (k.fit.long ∙ sym b.ends.long) none in
    m.priced c.if-self-eq0.true ∙ sym (ap (row_cost p.config (view_in p) k.from) row)
