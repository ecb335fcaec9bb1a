-- The passes of the search over the gathered ids: the pairs, then the tracks. Definitions only.
use Rattle.std.specs.Prelude.{ℕ, ◌≤◌, ◌<◌, ◌≡◌, ◌≢◌, Bool, true}
use Rattle.std.specs.Prelude.{cond, List, [], ◌∷◌, length, get_or, Float, Option, Some, None, is_none}
use Rattle.std.specs.Float.{nan, binary64}
use Rattle.std.specs.Float.Ieee.{add}
use Rattle.bounds.specs.Bounds.{DETECTIONS}
use Rattle.engine.specs.declared.config.FgoConfig.{FgoConfig}
use Rattle.engine.specs.declared.types.RefinedId.{RefinedId}
use Rattle.engine.specs.declared.types.ScanIndex.{ScanIndex}
use Rattle.engine.specs.Config.{radius}
use Rattle.kf.specs.declared.filter.Dot.{Dot}
use Rattle.cost.specs.declared.Fold.{Fold}
use Rattle.cost.specs.Cost.{View, view_of}
use Rattle.fgo_spec.specs.declared.moves.PairMove.{PairMove}
use Rattle.fgo_spec.specs.declared.moves.TrackMove.{TrackMove}
use Rattle.search.specs.declared.marks.Mark.{Mark}
use Rattle.search.specs.declared.marks.Mark.TheVariants.{Resting, ByTrack}
use Rattle.search_rows.specs.declared.moves.Tally.{Tally}
use Rattle.search_rows.specs.declared.rows.Row.{Row}
use Rattle.search_rows.specs.Rows.{row_of, present_in, no_row}
use Rattle.fgo_spec.specs.Searching.{square}
use Rattle.search_neighbours.specs.Near.{close_scans, any_close, row_at, Entered}
use Rattle.cost_row.specs.Price.{fold_among, row_cost}
use Rattle.search_pair.specs.Pair.{best_pair_row}
use Rattle.search_track.specs.Track.{best_track_row}
use Rattle.search_rows.specs.Moves.{pair_ids, track_ids, begun, pair_tally, track_tally}

-- what a search changes
pub record Progress : Type 0 where
  pub ids : List ℕ
  pub tally : Tally

-- the ids and the tally, as what a search changes
abbrev pub progress_of : List ℕ → Tally → Progress
progress_of ids t = record { ids = ids; tally = t }

-- a number as a refined id
abbrev pub id_of : ℕ → RefinedId
id_of x = record { 0 = x }

-- the settings, the number of the oldest scan held, the detections gathered and the frozen tracks
pub record Hall : Type 0 where
  pub config : FgoConfig
  pub first : ScanIndex
  pub detections : ℕ
  pub frozen : ℕ

-- what does not change during a search
pub record Scene : Type 0 where
  pub hall : Hall
  pub starts : List ℕ
  pub dots : List Dot
  pub tracks : List ℕ
  pub filters : List Float

-- the scene of what is lent
abbrev pub scene_of : Hall → List ℕ → List Dot → List ℕ → List Float → Scene
scene_of h starts dots ts fs = record { hall = h; starts = starts; dots = dots; tracks = ts; filters = fs }

-- the view of its dots
abbrev pub view_on : Scene → View
view_on e = view_of e.hall.first e.dots

-- what the window of x goes on from
abbrev pub fold_on : Scene → ℕ → Fold
fold_on e x = fold_among e.tracks e.filters e.hall.frozen x

-- the row of x
abbrev pub row_on : Scene → List ℕ → ℕ → List ℕ
row_on e ids x = row_of e.starts ids x

-- "the old cost"
abbrev pub cost_on : Scene → List ℕ → ℕ → Float
cost_on e ids x = row_cost e.hall.config (view_on e) (fold_on e x) (row_on e ids x)

-- "radius²"
abbrev pub radius2_on : Scene → Float
radius2_on e = square (radius e.hall.config)

-- the scans in which two rows are close
abbrev pub close_on : Scene → List ℕ → List ℕ → List Bool
close_on e a b = close_scans (radius2_on e) e.dots a b

-- ---- a pair

-- the best move of the pair a, b: "The base is the old cost of a plus the old cost of b"
abbrev pub pair_best : Scene → List Bool → ℕ → ℕ → List ℕ → Option PairMove
pair_best e close a b ids =
    best_pair_row e.hall.config (view_on e) (id_of a) (id_of b) (fold_on e a) (fold_on e b) close (row_on e ids a) (row_on e ids b)
    (add binary64 (cost_on e ids a) (cost_on e ids b))

-- what the best move of the pair a, b leaves
abbrev pub pair_moved : Scene → Option PairMove → ℕ → ℕ → Progress → Progress
pair_moved e None a b s = s
pair_moved e (Some m) a b s =
    record {
      ids = pair_ids e.hall.first.0 e.starts m a b (row_on e s.ids a) (row_on e s.ids b) s.ids;
      tally = pair_tally m s.tally;
    }

-- the pair's best move, made
unfoldable pub pair_step_on : Scene → List Bool → ℕ → ℕ → Progress → Progress
pair_step_on e close a b s = pair_moved e (pair_best e close a b s.ids) a b s

-- only a pair that is close somewhere is listed
abbrev pub pair_if : Scene → List Bool → ℕ → ℕ → Progress → Progress
pair_if e close a b s = cond (any_close close) (pair_step_on e close a b s) s

-- a with each of a list, by the rows at the beginning of the pass, where the ids were those of is
unfoldable pub sweep_one : Scene → List ℕ → ℕ → List ℕ → Progress → Progress
sweep_one e is a [] s = s
sweep_one e is a (b ∷ l) s = sweep_one e is a l (pair_if e (close_on e (row_on e is a) (row_on e is b)) a b s)

-- "in ascending order, the pairs of tracks a < b": each of a list of ascending ids with those after it
unfoldable pub sweep : Scene → List ℕ → List ℕ → Progress → Progress
sweep e is [] s = s
sweep e is (a ∷ l) s = sweep e is l (sweep_one e is a l s)

-- ---- a track

-- the best move of the track a: "for a move of a single track it is that track's old cost"
abbrev pub track_best : Scene → ℕ → List ℕ → Option TrackMove
track_best e a ids = best_track_row e.hall.config (view_on e) (fold_on e a) (row_on e ids a) (cost_on e ids a)

-- what the best move of the track a leaves
abbrev pub track_moved : Scene → Option TrackMove → ℕ → Progress → Progress
track_moved e None a s = s
track_moved e (Some m) a s =
    record { ids = track_ids e.hall.first.0 e.starts m a s.tally.next_id.0 s.ids; tally = track_tally m s.tally }

-- the track's best move, made
unfoldable pub track_step_on : Scene → ℕ → Progress → Progress
track_step_on e a s = track_moved e (track_best e a s.ids) a s

-- each id that was present when the pass began; one that has no window any more has no move
unfoldable pub visit : Scene → List ℕ → Progress → Progress
visit e [] s = s
visit e (a ∷ l) s = visit e l (track_step_on e a s)

-- ---- passes

-- one pass: "After the pairs the pass visits each id present"
unfoldable pub pass_over : Scene → Progress → Progress
pass_over e s =
    let l = present_in e.hall.detections s.ids in
    visit e l (sweep e s.ids l (progress_of s.ids (begun s.tally)))

-- ---- what the inner functions ask

-- n ids above 0, ascending
pub record IdTable (n : ℕ) (table : List ℕ) : Type 0 where
  pub within : n ≤ DETECTIONS
  pub long : length table ≡ DETECTIONS
  pub above : (i : ℕ) → i < n → 0 < get_or table i 0
  pub rises : (i j : ℕ) → i < j → j < n → get_or table i 0 < get_or table j 0

-- the costs kept are those of the rows as they are
pub record Costed (e : Scene) (n : ℕ) (table ids : List ℕ) (costs : List Float) : Type 0 where
  pub all : length ids ≡ DETECTIONS
  pub long : length costs ≡ DETECTIONS
  pub each : (i : ℕ) → i < n → get_or costs i nan ≡ cost_on e ids (get_or table i 0)

-- ---- what need not be looked at again

-- the pair a, b with the rows ra, rb has no move: the rows are nowhere close, or to stay is best
unfoldable pub pair_rest : Scene → ℕ → ℕ → List ℕ → List ℕ → Bool
pair_rest e a b ra rb =
    cond (any_close (close_on e ra rb))
    (is_none
    (best_pair_row e.hall.config (view_on e) (id_of a) (id_of b) (fold_on e a) (fold_on e b) (close_on e ra rb) ra rb
    (add binary64 (row_cost e.hall.config (view_on e) (fold_on e a) ra) (row_cost e.hall.config (view_on e) (fold_on e b) rb)))) true

-- the track a with the row ra has no move
unfoldable pub track_rest : Scene → ℕ → List ℕ → Bool
track_rest e a ra = is_none (best_track_row e.hall.config (view_on e) (fold_on e a) ra (row_cost e.hall.config (view_on e) (fold_on e a) ra))

-- the places i and j of the table have no move by the table of rows, if neither is marked
pub record Rests (e : Scene) (table : List ℕ) (rows : List Row) (marks : List Mark) (i j : ℕ) : Type 0 where
  pub pair : get_or marks i Resting ≡ Resting → get_or marks j Resting ≡ Resting →
      pair_rest e (get_or table i 0) (get_or table j 0) (row_at rows i) (row_at rows j) ≡ true

-- a place that is marked stays so
pub record Grows (n : ℕ) (marks marks' : List Mark) : Type 0 where
  pub back : (k : ℕ) → k < n → get_or marks' k Resting ≡ Resting → get_or marks k Resting ≡ Resting

-- by the rows at the beginning of the pass: where nothing is due neither the pairs nor the track need a look, and the
-- track needs none either where only its pairs are due
pub record Due (e : Scene) (n : ℕ) (table : List ℕ) (rows : List Row) (due : List Mark) : Type 0 where
  pub long : length due ≡ DETECTIONS
  pub pair : (i j : ℕ) → i < j → j < n → Rests e table rows due i j
  pub track : (i : ℕ) → i < n → get_or due i Resting ≢ ByTrack → track_rest e (get_or table i 0) (row_at rows i) ≡ true

-- where the pairs are swept: the ids listed are below the next one; what each costs is kept; the table of rows says
-- where each begins and ends, and has the row as it is now of each place that did not move in this pass
pub record Swept (e : Scene) (n : ℕ) (table : List ℕ) (rows : List Row) (next : ℕ) (ids : List ℕ)
    (costs : List Float) (moved : List Mark) : Type 0 where
  pub below : (k : ℕ) → k < n → get_or table k 0 < next
  pub costed : Costed e n table ids costs
  pub entered : (k : ℕ) → k < n → Entered (get_or rows k no_row)
  pub marks : length moved ≡ DETECTIONS
  pub same : (k : ℕ) → k < n → get_or moved k Resting ≡ Resting → row_on e ids (get_or table k 0) ≡ row_at rows k

-- where the tracks before place i have been visited: the same still, since a split gives its tail the next id, which
-- none listed has; and those before place i that their own step did not move have nothing to move
pub record Visits (e : Scene) (n : ℕ) (table : List ℕ) (rows : List Row) (i next : ℕ) (ids : List ℕ)
    (costs : List Float) (moved : List Mark) : Type 0 where
  pub swept : Swept e n table rows next ids costs moved
  pub rested : (k : ℕ) → k < i → get_or moved k Resting ≢ ByTrack → track_rest e (get_or table k 0) (row_on e ids (get_or table k 0)) ≡ true

-- the step of the track a at place i: its own cost and mark, and no other's
pub record TrackStepped (e : Scene) (i a : ℕ) (ids : List ℕ) (costs : List Float) (moved : List Mark)
    (ids' : List ℕ) (costs' : List Float) (moved' : List Mark) : Type 0 where
  pub all : length ids' ≡ DETECTIONS
  pub long : length costs' ≡ DETECTIONS
  pub marks : length moved' ≡ DETECTIONS
  pub costs_other : (k : ℕ) → (k ≡ i → ⊥) → get_or costs' k nan ≡ get_or costs k nan
  pub marks_other : (k : ℕ) → (k ≡ i → ⊥) → get_or moved' k Resting ≡ get_or moved k Resting
  pub cost : get_or costs' i nan ≡ cost_on e ids' a
  pub unmarked : get_or moved' i Resting ≡ Resting → (get_or moved i Resting ≡ Resting) × (row_on e ids' a ≡ row_on e ids a)
  pub rested : get_or moved' i Resting ≢ ByTrack → track_rest e a (row_on e ids' a) ≡ true

-- what a pass leaves of the ids that it listed: their costs; and where a place did not move, nothing to move
pub record Left (e : Scene) (n : ℕ) (table ids : List ℕ) (costs : List Float) (moved : List Mark) : Type 0 where
  pub listed : IdTable n table
  pub costed : Costed e n table ids costs
  pub marks : length moved ≡ DETECTIONS
  pub pair : (i j : ℕ) → i < j → j < n → get_or moved i Resting ≡ Resting → get_or moved j Resting ≡ Resting →
      pair_rest e (get_or table i 0) (get_or table j 0) (row_on e ids (get_or table i 0)) (row_on e ids (get_or table j 0)) ≡ true
  pub track : (k : ℕ) → k < n → get_or moved k Resting ≢ ByTrack → track_rest e (get_or table k 0) (row_on e ids (get_or table k 0)) ≡ true

-- the id x stood at a place of the last pass, with the mark m
pub record From (n : ℕ) (old : List ℕ) (moved : List Mark) (x : ℕ) (m : Mark) : Type 0 where
  pub place : ℕ
  pub within : place < n
  pub is : get_or old place 0 ≡ x
  pub mark : get_or moved place Resting ≡ m

-- the first i places of a pass that begins: what they cost, and what is due of those that stood in the last
pub record Carried (e : Scene) (n : ℕ) (old : List ℕ) (moved : List Mark) (table ids : List ℕ)
    (i : ℕ) (costs : List Float) (due : List Mark) : Type 0 where
  pub costed : Costed e i table ids costs
  pub long : length due ≡ DETECTIONS
  pub from : (k : ℕ) → k < i → get_or due k Resting ≢ ByTrack → From n old moved (get_or table k 0) (get_or due k Resting)
