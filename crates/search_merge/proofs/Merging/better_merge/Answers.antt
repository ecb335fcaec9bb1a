use Rattle.std.proofs.Common.{◌≡◌, ℕ, true, false, List, Option, sym, ap, ◌∙◌}
use lib.Ieee.{Float}
use Rattle.engine.specs.declared.config.FgoConfig.{FgoConfig}
use Rattle.engine.specs.declared.types.RefinedId.{RefinedId}
use Rattle.cost.specs.declared.Fold.{Fold}
use Rattle.cost.specs.Cost.{View, view_in}
use Rattle.fgo_spec.specs.declared.moves.PairMove.{PairMove}
use Rattle.fgo_spec.specs.Searching.{better_pair}
use Rattle.search_merge.specs.declared.Overlap.{Overlap}
use Rattle.search_merge.specs.Merge.{better_merge, merged_row, merge_of, try_merge_row, shared_rows}
use Rattle.cost_row.specs.Price.{row_cost}
use Rattle.search_merge.proofs.Merged.{merged_same}
use Rattle.search_merge.proofs.Merging.better_merge.Goals as goal

module _ (c : FgoConfig) (v : View) (k : RefinedId) (p : Fold) (a b : List ℕ) (base : Float) (best : Option PairMove) where
  -- both forms, tried by what their rows cost
  tried :
      {x y : Float} {lost : ℕ} {m n : PairMove} {first r : Option PairMove} → x ≡ row_cost c v p (merged_row true a b) → y ≡ row_cost c v p (merged_row false a b) → lost ≡ shared_rows a b →
      m ≡ merge_of c k true x lost base → n ≡ merge_of c k false y lost base → first ≡ better_pair best m → r ≡ better_pair first n → r ≡ better_merge c v k p a b base best
  unfolding try_merge_row better_merge
  tried x y l m n f r = r ∙ (λ i. better_pair ((f ∙ (λ j. better_pair best ((m ∙ (λ h. merge_of c k true (x h) (l h) base)) j))) i) ((n ∙ (λ h. merge_of c k false (y h) (l h) base)) i))

pub returns-then-self-eq0 : goal.returns-then-self-eq0
returns-then-self-eq0 c =
    let m = c.args.self.now in
    let p = m.prices.now in
    let a = m.keeper.now in
    let b = m.other.now.slots.now in
    let l = ap (λ (o : Overlap). o.shared) m.lie in
    let none = sym l ∙ c.if-self-eq0.true in
    let x = c.own_cost-own_row_cost.ensures in
    let y = x ∙ ap (row_cost p.config (view_in p) a.from) (merged_same a.row.slots.now b none) in
    tried p.config (view_in p) a.id a.from a.row.slots.now b c.args.base c.args.best x y l c.merge_of.ensures c.merge_of-then-self-eq0.ensures c.better-first.ensures c.better.ensures

pub returns : goal.returns
returns c =
    let m = c.args.self.now in
    let p = m.prices.now in
    let a = m.keeper.now in
    let l = ap (λ (o : Overlap). o.shared) m.lie in
    tried p.config (view_in p) a.id a.from a.row.slots.now m.other.now.slots.now c.args.base c.args.best c.own_cost-own_row_cost.ensures c.other_cost-other_row_cost.ensures l c.merge_of.ensures c.merge_of-2.ensures c.better-first.ensures c.better-2.ensures
