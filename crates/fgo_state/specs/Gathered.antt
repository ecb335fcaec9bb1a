-- What was gathered of held scans, as it is handed on, and one scan more of it. Definitions only.
use Rattle.std.specs.Prelude.{ℕ, ◌+◌, ◌-◌, ◌≡◌, List, replicate}
use Rattle.bounds.specs.Bounds.{STARTS, DETECTIONS}
use Rattle.buffers.specs.Buffers.{over}
use Rattle.fgo_state.specs.declared.scans.Scans.{Scans}
use Rattle.fgo_state.specs.declared.gather.Gathered.{Gathered}
use Rattle.fgo_state.specs.Gathering.{HeldDetection, GatheredScan, GatheredAll}

-- g is what the held scans have in windows; their engine ids are in es', which held es before
pub record GatheredOf (scans : Scans) (first held : ℕ) (es : List ℕ) (g : Gathered) (es' : List ℕ) : Type 0 where
  pub all : GatheredAll scans.bodies scans.columns first held g.count (replicate DETECTIONS 0) es g.ids es' g.starts
  pub as_many : g.held ≡ held

-- after the detections gs of one more scan were added to those gathered
pub record AddedScan (gs : List HeldDetection) (g : Gathered) (es : List ℕ) (g' : Gathered) (es' : List ℕ) : Type 0 where
  pub scan : GatheredScan gs g.count g'.count g.ids es g'.ids es'
  pub starts : g'.starts ≡ over (g.held + 1) (replicate (STARTS - (g.held + 1)) g'.count) g.starts
  pub held : g'.held ≡ g.held + 1
