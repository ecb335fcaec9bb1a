-- What is known of moves and passes while the gathered ids stand for the held scans. Assumes nothing.
use Rattle.std.specs.Prelude.{Some}
use Prim.Native.Nat.{ℕ, ◌<◌}
use mathlib.Core.Path.{◌≡◌}
use mathlib.Core.Bool.{Bool}
use mathlib.Core.List.{List}
use Rattle.fgo_spec.specs.declared.moves.PairMove.{PairMove}
use Rattle.fgo_spec.specs.declared.moves.TrackMove.{TrackMove}
use Rattle.fgo_spec.specs.Windows.{Scan, Prefix}
use Rattle.fgo_spec.specs.Searching.{next_after}
use Rattle.search_rows.specs.Moves.{pair_ids, track_ids}
use Rattle.search.specs.Pass.{Scene, row_on, pair_best}
use Rattle.search.proofs.Standing.{Standing, Fits, PresentRows, CutRows, PairIds, TrackIds, PairBest, TrackBest}

pub record PassLaws (e : Scene) (ps : List (ℕ × Prefix)) (ss : List Scan) : Type 0 where
  pub present_rows : (next : ℕ) (ids : List ℕ) → Standing e next ss ids → PresentRows e next ps ss ids
  pub cut_rows : (next : ℕ) (ids : List ℕ) → Standing e next ss ids → CutRows e next ps ss ids
  pub pair_ids_lem : (next : ℕ) (ids : List ℕ) → Standing e next ss ids → PairIds e next ps ss ids
  pub track_ids_lem : (next : ℕ) (ids : List ℕ) → Standing e next ss ids → TrackIds e next ps ss ids
  pub pair_best_lem : (next : ℕ) (ids : List ℕ) → Standing e next ss ids → PairBest e next ps ss ids
  pub track_best_lem : (next : ℕ) (ids : List ℕ) → Standing e next ss ids → TrackBest e next ps ss ids
  pub fits : (close : List Bool) (a b : ℕ) (ids : List ℕ) → Fits a b (pair_best e close a b ids)
  -- after a move of a pair the ids still stand for the scans
  pub pair_stands : (next : ℕ) (ids : List ℕ) → Standing e next ss ids → (a b : ℕ) → 0 < a → 0 < b → (a ≡ b → ⊥) → a < next → b < next → (m : PairMove) → Fits a b (Some m) → Standing e next ss (pair_ids e.hall.first.0 e.starts m a b (row_on e ids a) (row_on e ids b) ids)
  -- and after a move of a track
  pub track_stands : (next : ℕ) (ids : List ℕ) → Standing e next ss ids → (a : ℕ) → 0 < a → a < next → (m : TrackMove) → Standing e (next_after (Some m) next) ss (track_ids e.hall.first.0 e.starts m a next ids)
