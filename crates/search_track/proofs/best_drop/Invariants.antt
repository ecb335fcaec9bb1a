use Rattle.std.specs.Prelude.{Option}
use mathlib.Core.Path.{◌≡◌}
use mathlib.Core.List.{List}
use Prim.Native.Nat.{ℕ, ◌+◌, ◌≤◌}
use lib.ListN.{get_or}
use lib.Ieee.{Float, nan}
use Rattle.bounds.specs.Bounds.{SCANS}
use Rattle.fgo_spec.specs.declared.moves.TrackMove.{TrackMove}
use Rattle.fgo_spec.specs.declared.moves.TrackMove.TheVariants.{Drop}
use Rattle.fgo_spec.specs.Searching.{better_track}
use Rattle.search_rows.specs.Moves.{has_slot}
use Rattle.search_track.specs.Track.{best_drop_by}
use Rattle.cost_row.proofs.Left.{best_from}
use Rattle.search_track.proofs.best_drop.Given as goal

abbrev pub by : ℕ → List Float → ℕ → TrackMove
by first gains k = Drop (record { 0 = first + k }) (get_or gains k nan)

-- what is left from k on gives the best of all
pub record Drops (first : ℕ) (gains : List Float) (r : List ℕ) (end : ℕ) (start best : Option TrackMove) (k : ℕ) : Type 0 where
  pub within : k ≤ end
  pub left : best_from better_track (by first gains) (has_slot r) SCANS k best ≡ best_drop_by first gains r start

abbrev pub invariant-loop-k : goal.invariant-loop-k
invariant-loop-k l = Drops l.first.0 l.gains l.w.row.slots.now l.w.row.end l.initial.best l.best l.k
