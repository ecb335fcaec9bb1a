use Rattle.cost.specs.Cost.{view_in}
use Rattle.std.specs.Prelude.{Option}
use mathlib.Core.Path.{◌≡◌}
use mathlib.Core.Bool.{Bool, cond}
use mathlib.Core.List.{List, map, foldl}
use Prim.Native.Nat.{ℕ, ◌≤◌}
use lib.ListN.{drop}
use lib.Ieee.{Float}
use Rattle.bounds.specs.Bounds.{SCANS}
use Rattle.engine.specs.declared.config.FgoConfig.{FgoConfig}
use Rattle.cost.specs.declared.Fold.{Fold}
use Rattle.cost.specs.Cost.{View}
use Rattle.fgo_spec.specs.declared.moves.TrackMove.{TrackMove}
use Rattle.fgo_spec.specs.Searching.{better_track}
use Rattle.search_rows.specs.Moves.{has_slot}
use Rattle.search_track.specs.Track.{try_split_row, best_split_row, DropGains}
use Rattle.cost_row.proofs.Left.{left}
use Rattle.cost_row.proofs.Heads.{Along}
use Rattle.search_track.proofs.best_split.Given as goal

-- the detections left after the first, of which k on are left
abbrev pub after : Bool → List ℕ → List ℕ
after seen l = drop (cond seen 0 1) l

abbrev pub best_after : FgoConfig → View → Fold → List ℕ → Float → Bool → ℕ → Option TrackMove → Option TrackMove
best_after c v p r base seen k b = foldl better_track b (map (try_split_row c v p r base) (after seen (left (has_slot r) SCANS k)))

-- the fold stands at the last detection, and what is left from k on gives the best of all; the drops before k are noted
pub record Splits (c : FgoConfig) (v : View) (p : Fold) (r : List ℕ) (base : Float) (end : ℕ) (gains : List Float) (best : Option TrackMove) (fold : Fold) (done : ℕ) (seen : Bool) (k : ℕ) : Type 0 where
  pub within : k ≤ end
  pub along : Along c v p r k done fold
  pub rest : best_after c v p r base seen k best ≡ best_split_row c v p r base
  pub drops : DropGains c v p r base k gains

abbrev pub invariant-loop-k : goal.invariant-loop-k
invariant-loop-k l =
    Splits l.prices.config (view_in l.prices) l.w.from l.w.row.slots.now l.w.cost l.w.row.end l.gains l.best l.fold l.done l.seen l.k
