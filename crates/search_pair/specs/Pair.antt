-- The best move of a pair of rows: document 01's candidates, in its order. Definitions only.
use Rattle.std.specs.Prelude.{ℕ, ◌-◌, ◌≡◌, Bool, true, false, cond, get_or, eqb, Float, Option, None}
use mathlib.Core.List.{List, map, foldl}
use Rattle.bounds.specs.Bounds.{STARTS}
use Rattle.engine.specs.declared.config.FgoConfig.{FgoConfig}
use Rattle.engine.specs.declared.types.RefinedId.{RefinedId}
use Rattle.engine.specs.declared.types.ScanIndex.{ScanIndex}
use Rattle.cost.specs.declared.Fold.{Fold}
use Rattle.cost.specs.declared.prices.Prices.{Prices}
use Rattle.cost.specs.Cost.{View, view_in}
use Rattle.fgo_spec.specs.declared.moves.PairMove.{PairMove}
use Rattle.fgo_spec.specs.declared.moves.PairMove.TheVariants.{Swap}
use Rattle.fgo_spec.specs.Lists.{keep, up_from}
use Rattle.fgo_spec.specs.Searching.{◌⊕◌, ◌⊖◌, better_pair}
use Rattle.search_merge.specs.Merge.{better_merge}
use Rattle.cost_row.specs.declared.window.Window.{Window}
use Rattle.cost_row.specs.Price.{row_cost, crossed, scan_at}

-- ---- the best move of a pair

-- "The cuts of a pair are all its f and f + 1", of the scans noted
abbrev pub cut_at : List Bool → ℕ → Bool
cut_at close g = cond (get_or close g false) true (cond (eqb g 0) false (get_or close (g - 1) false))

-- the cuts of a pair, "in ascending order": where a scan starts, or the last one ends
unfoldable pub cuts_of : List Bool → List ℕ
cuts_of close = keep (cut_at close) (up_from 0 STARTS)

-- "d = (new cost of a + new cost of b) − base"
unfoldable pub try_swap_row : FgoConfig → View → Fold → Fold → List ℕ → List ℕ → Float → ℕ → PairMove
try_swap_row c v pa pb a b base g = Swap (scan_at v g) (row_cost c v pa (crossed g a b) ⊕ row_cost c v pb (crossed g b a) ⊖ base)

-- the swap before all scans, by what the rows cost when they are exchanged
abbrev pub first_swap : Bool → ScanIndex → Float → Float → Float → Option PairMove
first_swap cut first xa xb base = cond cut (better_pair None (Swap first (xa ⊕ xb ⊖ base))) None

-- "Swaps are tried first, at each cut": the best of them, from no move on
unfoldable pub best_swap_row : FgoConfig → View → Fold → Fold → List Bool → List ℕ → List ℕ → Float → Option PairMove
best_swap_row c v pa pb close a b base = foldl better_pair None (map (try_swap_row c v pa pb a b base) (cuts_of close))

-- "Merges are tried next, with a as the keeper and then with b"
unfoldable pub best_pair_row :
    FgoConfig → View → RefinedId → RefinedId → Fold → Fold → List Bool → List ℕ → List ℕ → Float → Option PairMove
best_pair_row c v x y pa pb close a b base =
    better_merge c v y pb b a base (better_merge c v x pa a b base (best_swap_row c v pa pb close a b base))

-- ---- what the inner functions ask

-- what both windows cost now, and what they cost with their rows exchanged if there is a cut before all scans
pub record Exchanged (p : Prices) (close : List Bool) (a b : Window) (xa xb : Float) : Type 0 where
  pub paid_a : a.cost ≡ row_cost p.config (view_in p) a.from a.row.slots.now
  pub paid_b : b.cost ≡ row_cost p.config (view_in p) b.from b.row.slots.now
  pub exchanged_a : cut_at close 0 ≡ true → xa ≡ row_cost p.config (view_in p) a.from b.row.slots.now
  pub exchanged_b : cut_at close 0 ≡ true → xb ≡ row_cost p.config (view_in p) b.from a.row.slots.now
