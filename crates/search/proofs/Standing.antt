-- How the gathered ids stand for the held scans during a search, and what is to be shown of them. Assumes nothing.
use Rattle.std.specs.Prelude.{Option, Some, None}
use Prim.Native.Nat.{ℕ, suc, ◌+◌, ◌≤◌, ◌<◌}
use mathlib.Core.Path.{◌≡◌}
use mathlib.Core.Bool.{Bool}
use mathlib.Core.Logic.{◌⊎◌}
use mathlib.Core.List.{List, [], ◌∷◌, map}
use lib.ListN.{length, get_or}
use Rattle.bounds.specs.Bounds.{SCANS, DETECTIONS}
use Rattle.engine.specs.Frame.{no_association}
use Rattle.cost.specs.Cost.{measurement_at, measurements}
use Rattle.fgo_spec.specs.declared.moves.PairMove.{PairMove}
use Rattle.fgo_spec.specs.declared.moves.PairMove.TheVariants.{Swap, Merge}
use Rattle.fgo_spec.specs.declared.moves.TrackMove.{TrackMove}
use Rattle.fgo_spec.specs.Lists.{times, find}
use Rattle.fgo_spec.specs.Windows.{Scan, Prefix, detection_of, measure, fold_from, window, present}
use Rattle.fgo_spec.specs.Searching.{after_pair, after_track, cuts, best_of_pair, best_of_track, shared}
use Rattle.fgo_spec.specs.Faithful.{Regular}
use Rattle.fgo_spec.specs.Rule.{All}
use Rattle.search_rows.specs.Rows.{Starts, present_in}
use Rattle.search_merge.specs.Merge.{shared_rows}
use Rattle.search_pair.specs.Pair.{cuts_of}
use Rattle.search_rows.specs.Moves.{pair_ids, track_ids}
use Rattle.search.specs.Pass.{Scene, view_on, fold_on, row_on, close_on, pair_best, track_best}
use Rattle.fgo_spec.specs.Gathered.{picked, put_back}

-- the k-th scan as it was gathered: s has the ids that it had then
pub record HeldScan (e : Scene) (k : ℕ) (s : Scan) : Type 0 where
  pub complete : length s.ids ≡ length s.frame.associations
  pub size : get_or e.starts (suc k) 0 ≡ get_or e.starts k 0 + length (picked s.ids s.frame.associations)
  pub dots : (j : ℕ) → j < length (picked s.ids s.frame.associations) → measurement_at (view_on e) k (get_or e.starts k 0 + j) ≡ measure e.hall.config (detection_of (e.hall.first.0 + k) s.frame (get_or (picked s.ids s.frame.associations) j no_association))

abbrev pub HeldFrom : Scene → ℕ → List Scan → Type 0
HeldFrom e k [] = Unit {0}
HeldFrom e k (s ∷ ss) = HeldScan e k s × HeldFrom e (suc k) ss

-- what stays during a search
pub record Held (e : Scene) (ss : List Scan) : Type 0 where
  pub few : length ss ≤ SCANS
  pub starts : Starts e.starts
  pub begins : get_or e.starts 0 0 ≡ 0
  pub empty : (j : ℕ) → length ss ≤ j → j < SCANS → get_or e.starts (suc j) 0 ≡ get_or e.starts j 0
  pub ends : e.hall.detections ≡ get_or e.starts SCANS 0
  pub scans : HeldFrom e 0 ss

-- the scans as they stand now
abbrev pub scans_now : Scene → List Scan → List ℕ → List Scan
scans_now e ss ids = put_back e.starts ids 0 ss

pub record Standing (e : Scene) (next : ℕ) (ss : List Scan) (ids : List ℕ) : Type 0 where
  pub held : Held e ss
  pub long : length ids ≡ DETECTIONS
  pub regular : All Regular (scans_now e ss ids)
  pub known : All (λ s. (x : ℕ) → 0 < x → 0 < times x s.ids → x < next) (scans_now e ss ids)
  pub begun : 0 < next

-- the frozen parts lent are fgo_spec's
abbrev pub PartsOk : Scene → List (ℕ × Prefix) → Type 0
PartsOk e ps = (x : ℕ) → 0 < x → fold_on e x ≡ fold_from (find x ps)

-- a merge keeps one of the two
abbrev pub Fits : ℕ → ℕ → Option PairMove → Type 0
Fits a b None = Unit {0}
Fits a b (Some (Swap f g)) = Unit {0}
Fits a b (Some (Merge k own g)) = (k.0 ≡ a) ⊎ (k.0 ≡ b)

-- ---- what is to be shown

module _ (e : Scene) (next : ℕ) (ps : List (ℕ × Prefix)) (ss : List Scan) (ids : List ℕ) where
  -- a row has the window's detections
  abbrev pub WindowRow : Type 0
  WindowRow = (x : ℕ) → 0 < x → map (measure e.hall.config) (window x e.hall.first.0 (scans_now e ss ids)) ≡ measurements (view_on e) 0 (row_on e ids x)

  abbrev pub SharedRows : Type 0
  SharedRows = (a b : ℕ) → 0 < a → 0 < b → shared a b (scans_now e ss ids) ≡ shared_rows (row_on e ids a) (row_on e ids b)

  abbrev pub PresentRows : Type 0
  PresentRows = present (scans_now e ss ids) ≡ present_in e.hall.detections ids

  -- the cuts of a pair
  abbrev pub CutRows : Type 0
  CutRows = (a b : ℕ) → 0 < a → 0 < b → cuts e.hall.config e.hall.first.0 ps (scans_now e ss ids) a b ≡ map (λ (k : ℕ). e.hall.first.0 + k) (cuts_of (close_on e (row_on e ids a) (row_on e ids b)))

  -- a move of a pair leaves fgo_spec's scans
  abbrev pub PairIds : Type 0
  PairIds = (a b : ℕ) → 0 < a → 0 < b → (a ≡ b → ⊥) → (m : PairMove) → Fits a b (Some m) → scans_now e ss (pair_ids e.hall.first.0 e.starts m a b (row_on e ids a) (row_on e ids b) ids) ≡ after_pair e.hall.config e.hall.first.0 ps a b (scans_now e ss ids) (Some m)

  -- and so does a move of a track
  abbrev pub TrackIds : Type 0
  TrackIds = (a x : ℕ) → 0 < a → 0 < x → (m : TrackMove) → scans_now e ss (track_ids e.hall.first.0 e.starts m a x ids) ≡ after_track e.hall.config e.hall.first.0 ps a x (scans_now e ss ids) (Some m)

  -- the best move of a pair is fgo_spec's, for cuts from any scans noted
  abbrev pub PairBest : Type 0
  PairBest = (a b : ℕ) → 0 < a → 0 < b → (a ≡ b → ⊥) → (close : List Bool) → best_of_pair e.hall.config e.hall.first.0 ps (scans_now e ss ids) (record { a = a; b = b; cuts = map (λ (k : ℕ). e.hall.first.0 + k) (cuts_of close) }) ≡ pair_best e close a b ids

  -- the best move of a track is fgo_spec's
  abbrev pub TrackBest : Type 0
  TrackBest = (a : ℕ) → 0 < a → a < next → best_of_track e.hall.config e.hall.first.0 ps (scans_now e ss ids) next a ≡ track_best e a ids
