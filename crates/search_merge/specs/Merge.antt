-- The merges of a pair of rows: document 01's candidates, in its order. Definitions only.
use Rattle.std.specs.Prelude.{ℕ, ◌+◌, Bool, true, false, cond, List, [], ◌∷◌, pos, ◌==◌, Float, Option}
use Rattle.std.specs.Float.{binary64}
use Rattle.std.specs.Float.Ieee.{of_int}
use Rattle.engine.specs.declared.config.FgoConfig.{FgoConfig}
use Rattle.engine.specs.declared.types.RefinedId.{RefinedId}
use Rattle.engine.specs.Config.{clutter}
use Rattle.cost.specs.declared.Fold.{Fold}
use Rattle.cost.specs.Cost.{View}
use Rattle.fgo_spec.specs.declared.moves.PairMove.{PairMove}
use Rattle.fgo_spec.specs.declared.moves.PairMove.TheVariants.{Merge}
use Rattle.fgo_spec.specs.Searching.{◌⊕◌, ◌⊖◌, ◌⊗◌, better_pair}
use Rattle.search_merge.specs.declared.Overlap.{Overlap}
use Rattle.cost_row.specs.Price.{row_cost}

-- ---- rows

-- of two detections in one scan the keeper's own is kept, or the other's
abbrev pub kept_slot : Bool → ℕ → ℕ → ℕ
kept_slot own x y = cond (x == 0) y (cond (y == 0) x (cond own x y))

-- the row of the merged track, of the keeper's row and the other's
unfoldable pub merged_row : Bool → List ℕ → List ℕ → List ℕ
merged_row own [] b = []
merged_row own (x ∷ a) [] = x ∷ a
merged_row own (x ∷ a) (y ∷ b) = kept_slot own x y ∷ merged_row own a b

-- what the scans of two rows count, each by its two entries
unfoldable pub count_rows : (ℕ → ℕ → ℕ) → List ℕ → List ℕ → ℕ
count_rows f [] b = 0
count_rows f (x ∷ a) [] = 0
count_rows f (x ∷ a) (y ∷ b) = f x y + count_rows f a b

-- 1 for a scan in which both rows have a detection, else 0
abbrev pub both_have : ℕ → ℕ → ℕ
both_have x y = cond (x == 0) 0 (cond (y == 0) 0 1)

-- the scans that both rows have
abbrev pub shared_rows : List ℕ → List ℕ → ℕ
shared_rows a b = count_rows both_have a b

-- 1 for a scan in which the first row has a detection and the second has none, else 0
abbrev pub only_has : ℕ → ℕ → ℕ
only_has x y = cond (x == 0) 0 (cond (y == 0) 1 0)

-- the scans that the first row has and the second has not
abbrev pub alone_rows : List ℕ → List ℕ → ℕ
alone_rows a b = count_rows only_has a b

-- how two rows lie to each other
abbrev pub overlap_of : List ℕ → List ℕ → Overlap
overlap_of a b = record { shared = shared_rows a b; mine = alone_rows a b; theirs = alone_rows b a }

-- ---- the two merges into a keeper

-- "d = (cost + losers·clutter_cost) − base"
abbrev pub merge_of : FgoConfig → RefinedId → Bool → Float → ℕ → Float → PairMove
merge_of c k own cost lost base = Merge k own (cost ⊕ of_int binary64 (pos lost) ⊗ clutter c ⊖ base)

-- "With the merged track's cost"
unfoldable pub try_merge_row : FgoConfig → View → RefinedId → Bool → Fold → List ℕ → List ℕ → ℕ → Float → PairMove
try_merge_row c v k own p a b lost base = merge_of c k own (row_cost c v p (merged_row own a b)) lost base

-- "For each keeper there are two forms": "first the keeper's own detections are kept, then the other track's"
unfoldable pub better_merge : FgoConfig → View → RefinedId → Fold → List ℕ → List ℕ → Float → Option PairMove → Option PairMove
better_merge c v k p a b base best =
    let lost = shared_rows a b in
    better_pair (better_pair best (try_merge_row c v k true p a b lost base)) (try_merge_row c v k false p a b lost base)
