use Rattle.std.proofs.Common.{get_or, rules, ◌∙◌, arith}
use Rattle.search_rows.proofs.Made.{made_of}
use Rattle.search_merge.specs.Merge.{kept_slot, merged_row}
use Rattle.search_merge.proofs.Merged.{merged-length, merged-at}
use Rattle.search_merge.proofs.merged_row.Goals as goal

pub returns : goal.returns
returns c =
    let s = c.args in
    let a = s.a.now in
    let b = s.b.now in
    made_of _ (λ k. kept_slot s.own (get_or a k 0) (get_or b k 0)) _ _ (λ k x t h e. search rules) (merged_row s.own a b) _ 0 (merged-length s.own a b ∙ c.told-a)
    (λ k h. merged-at s.own a b k (omega (arith, c.told-a)) (omega (arith, c.told-b))) c.from_fn.ensures.items
