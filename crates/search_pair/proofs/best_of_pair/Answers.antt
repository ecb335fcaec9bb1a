use mathlib.Core.Path.{ap, ◌∙◌}
use Rattle.cost.specs.Cost.{view_in}
use Rattle.search_merge.specs.Merge.{better_merge, alone_rows}
use Rattle.search_pair.specs.Pair.{best_pair_row}
use Rattle.fgo_spec.specs.Searching.{◌⊕◌}
use Rattle.search_merge.proofs.Merged.{shared-turned}
use Rattle.search_pair.proofs.best_of_pair.Goals as goal

pub invariant_of-into_b-clause-lie : goal.invariant_of-into_b-clause-lie
invariant_of-into_b-clause-lie c =
    let a = c.args.a.now.row.slots.now in
    let b = c.args.b.now.row.slots.now in
    rw (c.turned.ensures, c.overlap_of-overlap.ensures) (λ i. record { shared = shared-turned a b i; mine = alone_rows b a; theirs = alone_rows a b })

pub returns : goal.returns
unfolding best_pair_row
returns c =
    let p = c.args.prices.now in
    let a = c.args.a.now in
    let b = c.args.b.now in
    let v = view_in p in
    let base = a.cost ⊕ b.cost in
    let first = c.better_merge-best.ensures ∙ ap (better_merge p.config v a.id a.from a.row.slots.now b.row.slots.now base) c.best_swap-swap.ensures in
    c.better_merge.ensures ∙ ap (better_merge p.config v b.id b.from b.row.slots.now a.row.slots.now base) first
