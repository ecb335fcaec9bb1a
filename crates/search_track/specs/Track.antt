-- The best move of one row: document 01's candidates, in its order. Definitions only.
use Rattle.std.specs.Prelude.{ℕ, suc, ◌+◌, ◌<◌, ◌≡◌, true, cond, length, get_or, take, drop, ltb, Float, Option, None}
use mathlib.Core.List.{List, ◌++◌, map, foldl}
use Rattle.std.specs.Float.{nan}
use Rattle.bounds.specs.Bounds.{SCANS}
use Rattle.engine.specs.declared.config.FgoConfig.{FgoConfig}
use Rattle.engine.specs.Config.{clutter}
use Rattle.cost.specs.declared.Fold.{Fold}
use Rattle.cost.specs.declared.Fold.TheVariants.{Fresh, Frozen, Going}
use Rattle.cost.specs.Cost.{View, measurements, closed, cost}
use Rattle.fgo_spec.specs.declared.moves.TrackMove.{TrackMove}
use Rattle.fgo_spec.specs.declared.moves.TrackMove.TheVariants.{Split, Drop}
use Rattle.fgo_spec.specs.Lists.{keep, up_from}
use Rattle.fgo_spec.specs.Searching.{◌⊕◌, ◌⊖◌, better_track}
use Rattle.search_rows.specs.Moves.{has_slot}
use Rattle.cost_row.specs.Price.{row_cost, head_of, scan_at}

-- ---- rows

-- the scans in which a row has a detection
unfoldable pub marks : List ℕ → List ℕ
marks r = keep (has_slot r) (up_from 0 SCANS)

-- ---- the best move of a track

-- "d = (cost of the head + cost of the tail) − base"; "The tail has no frozen part"
unfoldable pub try_split_row : FgoConfig → View → Fold → List ℕ → Float → ℕ → TrackMove
try_split_row c v p r base k = Split (scan_at v k) (row_cost c v p (take k r) ⊕ cost c Fresh (measurements v k (drop k r)) ⊖ base)

-- "d = (cost + clutter_cost) − base"
unfoldable pub try_drop_row : FgoConfig → View → Fold → List ℕ → Float → ℕ → TrackMove
try_drop_row c v p r base k = Drop (scan_at v k) (cost c p (measurements v 0 (take k r) ++ measurements v (suc k) (drop (suc k) r)) ⊕ clutter c ⊖ base)

-- "plus 1 where there is a frozen part"
abbrev pub frozen_one : Fold → ℕ
frozen_one Fresh = 0
frozen_one (Frozen k l) = 1
frozen_one (Going s) = 1

-- "Splits of the window are tried after its detection 1, 2 and so on"
unfoldable pub best_split_row : FgoConfig → View → Fold → List ℕ → Float → Option TrackMove
best_split_row c v p r base = foldl better_track None (map (try_split_row c v p r base) (drop 1 (marks r)))

-- "the drop of each single detection is tried"
unfoldable pub best_drop_row : FgoConfig → View → Fold → List ℕ → Float → Option TrackMove → Option TrackMove
best_drop_row c v p r base best = foldl better_track best (map (try_drop_row c v p r base) (marks r))

-- "if the window's length, plus 1 where there is a frozen part, exceeds 1"
unfoldable pub best_track_row : FgoConfig → View → Fold → List ℕ → Float → Option TrackMove
best_track_row c v p r base =
    let best = best_split_row c v p r base in
    cond (ltb 1 (length (marks r) + frozen_one p)) (best_drop_row c v p r base best) best

-- ---- by the fold over the scans before a detection

-- the best so far or the split before scan k
abbrev pub better_split : FgoConfig → View → Option TrackMove → Fold → List ℕ → ℕ → Float → Option TrackMove
better_split c v best f r k base = better_track best (Split (scan_at v k) (closed c f ⊕ cost c Fresh (measurements v k (drop k r)) ⊖ base))

-- what the drop of the detection in scan k gains
abbrev pub drop_gain : FgoConfig → View → Fold → List ℕ → ℕ → Float → Float
drop_gain c v f r k base = cost c f (measurements v (suc k) (drop (suc k) r)) ⊕ clutter c ⊖ base

-- for each detection before scan k what its drop gains
pub record DropGains (c : FgoConfig) (v : View) (p : Fold) (r : List ℕ) (base : Float) (k : ℕ) (gains : List Float) : Type 0 where
  pub long : length gains ≡ SCANS
  pub each : (j : ℕ) → j < k → has_slot r j ≡ true → get_or gains j nan ≡ drop_gain c v (head_of c v p r j) r j base

-- the best so far, or the drop of a detection, by what each gains; first is the number of the oldest scan
unfoldable pub best_drop_by : ℕ → List Float → List ℕ → Option TrackMove → Option TrackMove
best_drop_by first gains r best = foldl better_track best (map (λ k. Drop (record { 0 = first + k }) (get_or gains k nan)) (marks r))
