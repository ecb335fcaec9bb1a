-- The gathered detections and the held scans of the refiner, and what the search finds: fgo_spec's. Definitions only.
use Rattle.std.specs.Prelude.{ℕ, suc, ◌+◌, ◌^◌, ◌≤◌, ◌<◌, ◌≡◌, List, [], ◌∷◌, length, get_or, ltb}
use Rattle.bounds.specs.Bounds.{SCANS, DETECTIONS, PASSES}
use Rattle.engine.specs.Frame.{no_association}
use Rattle.engine.specs.Config.{max_passes_of}
use Rattle.cost.specs.Cost.{measurement_at}
use Rattle.fgo_spec.specs.declared.moves.FgoCounters.{FgoCounters}
use Rattle.fgo_spec.specs.Lists.{keep, times, find}
use Rattle.fgo_spec.specs.Windows.{Scan, Prefix, detection_of, measure, fold_from}
use Rattle.fgo_spec.specs.Searching.{improve}
use Rattle.fgo_spec.specs.Faithful.{Regular}
use Rattle.fgo_spec.specs.Rule.{All}
use Rattle.search_rows.specs.declared.moves.Tally.{Tally}
use Rattle.fgo_spec.specs.Gathered.{column_at, picked, put_back}
use Rattle.search.specs.Pass.{Scene, view_on, fold_on}

-- the k-th scan is gathered: its ids above 0, and the dots of their associations
pub record RepresentsScan (e : Scene) (ids : List ℕ) (k : ℕ) (s : Scan) : Type 0 where
  pub column : column_at e.starts ids k ≡ keep (ltb 0) s.ids
  pub dots : (j : ℕ) → j < length (picked s.ids s.frame.associations) → measurement_at (view_on e) k (get_or e.starts k 0 + j)
      ≡ measure e.hall.config (detection_of (e.hall.first.0 + k) s.frame (get_or (picked s.ids s.frame.associations) j no_association))
  pub regular : Regular s

-- the scans are gathered, of which the first is the k-th
abbrev pub RepresentsFrom : Scene → List ℕ → ℕ → List Scan → Type 0
RepresentsFrom e ids k [] = Unit {0}
RepresentsFrom e ids k (s ∷ ss) = RepresentsScan e ids k s × RepresentsFrom e ids (suc k) ss

-- next id and counters far from where a word ends
pub record Spare (next : ℕ) (k : FgoCounters) : Type 0 where
  pub ids : next ≤ 2 ^ 61
  pub swaps : k.swaps ≤ 2 ^ 61
  pub merges : k.merges ≤ 2 ^ 61
  pub splits : k.splits ≤ 2 ^ 61
  pub drops : k.drops ≤ 2 ^ 61

-- the detections of the held scans ss, all of them and in order, and the frozen parts ps
pub record Represents (e : Scene) (next : ℕ) (k : FgoCounters) (ids : List ℕ) (ps : List (ℕ × Prefix)) (ss : List Scan) : Type 0 where
  pub few : length ss ≤ SCANS
  pub long : length ids ≡ DETECTIONS
  pub begins : get_or e.starts 0 0 ≡ 0
  -- no detection past the scans held
  pub empty : (j : ℕ) → length ss ≤ j → j < SCANS → get_or e.starts (suc j) 0 ≡ get_or e.starts j 0
  pub ends : e.hall.detections ≡ get_or e.starts SCANS 0
  pub scans : RepresentsFrom e ids 0 ss
  pub known : All (λ s. (x : ℕ) → 0 < x → 0 < times x s.ids → x < next) ss
  pub parts : (x : ℕ) → 0 < x → fold_on e x ≡ fold_from (find x ps)
  pub begun : 0 < next
  pub passes : max_passes_of e.hall.config ≤ PASSES
  pub spare : Spare next k

-- there are held scans and frozen parts of which the detections were gathered
abbrev pub Searchable : Scene → ℕ → FgoCounters → List ℕ → Type 0
Searchable e next k ids = (ps : List (ℕ × Prefix)) × ((ss : List Scan) × Represents e next k ids ps ss)

-- what the search finds is fgo_spec's: its scans, next id, counters, passes, and whether the last one moved
pub record Finds (e : Scene) (next : ℕ) (k : FgoCounters) (ps : List (ℕ × Prefix)) (ss : List Scan) (ids : List ℕ) (t : Tally) : Type 0 where
  pub scans : (improve e.hall.config e.hall.first.0 ps ss next k).search.scans ≡ put_back e.starts ids 0 ss
  pub next_id : t.next_id.0 ≡ (improve e.hall.config e.hall.first.0 ps ss next k).search.next_id
  pub counters : t.counters ≡ (improve e.hall.config e.hall.first.0 ps ss next k).search.counters
  pub moved : t.moved ≡ (improve e.hall.config e.hall.first.0 ps ss next k).search.moved
  pub passes : t.passes ≡ (improve e.hall.config e.hall.first.0 ps ss next k).ran
