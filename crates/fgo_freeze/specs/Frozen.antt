-- Document 01, "fgo.rs: freezing", on the lent memory. Definitions only.
use Rattle.std.specs.Prelude.{ℕ, suc, ◌+◌, ◌^◌, ◌<◌, ◌≤◌, ◌≡◌, Bool, true, ◌||◌}
use Rattle.std.specs.Prelude.{◌*◌, List, [], ◌∷◌, length, drop, ℤ, ◌-ℤ◌, Float}
use mathlib.Core.List.{flat_map}
use Rattle.std.specs.Int.Signed.{le_z}
use Rattle.std.specs.Float.{binary64}
use Rattle.std.specs.Float.Ieee.{of_bits}
use Rattle.bounds.specs.Bounds.{ACCEPTED, FROZEN, HEIGHTS, PART, FILTER}
use Rattle.engine.specs.declared.config.FgoConfig.{FgoConfig}
use Rattle.engine.specs.Config.{forget_after}
use Rattle.engine.specs.Body.{Body, time_ok, frame_in, body_refusal}
use Rattle.fgo_spec.specs.Lists.{find, put}
use Rattle.fgo_spec.specs.Windows as windows
use Rattle.fgo_spec.specs.Windows.{Scan, detection_of, in_windows}
use Rattle.fgo_spec.specs.Freezing.{freeze}
use Rattle.fgo_part.specs.declared.Prefix.{Prefix}
use Rattle.fgo_freeze.specs.declared.Detection.{Detection}
use Rattle.buffers.specs.Buffers.{renewed}
use Rattle.fgo_part.specs.Parts.{part_id, part_last_ns, entry_in, table_in, part_words, part_numbers}
use Rattle.fgo_state.specs.Memory.{body_at, association_in, scan_in, in_window}

-- a detection by value, as the one that it is
abbrev pub detection_by : Detection → windows.Detection
detection_by d = record { scan = d.scan.0; time = d.time; x = d.x; y = d.y; z = d.z; class = d.class }

-- association j of a body that says scan n, as a detection
abbrev pub seen_in : ℕ → Body → ℕ → windows.Detection
seen_in n b j = detection_of n (frame_in b) (association_in b j)

-- a frozen part by value that can move on: it has at most HEIGHTS heights, and its count is not at the end of its range
pub record Moves (p : Prefix) : Type 0 where
  pub heights : p.heights.count ≤ HEIGHTS
  pub count : suc p.count < 2 ^ 64

-- ---- the table of frozen parts, by ascending id

-- the cells past the first n frozen parts are as they were
pub record Past (n : ℕ) (tracks : List ℕ) (filters : List Float) (tracks' : List ℕ) (filters' : List Float) : Type 0 where
  pub words : drop (PART * n) tracks' ≡ drop (PART * n) tracks
  pub numbers : drop (FILTER * n) filters' ≡ drop (FILTER * n) filters

-- after the frozen parts from k on, of n, were moved up by one, in memory that is as long as it was
pub record Raised (k n : ℕ) (tracks : List ℕ) (filters : List Float) (tracks' : List ℕ) (filters' : List Float) : Type 0 where
  pub wide : length tracks' ≡ length tracks
  pub deep : length filters' ≡ length filters
  pub past : Past (suc n) tracks filters tracks' filters'
  pub below : (j : ℕ) → j < k → entry_in tracks' filters' j ≡ entry_in tracks filters j
  pub above : (j : ℕ) → k ≤ j → j < n → entry_in tracks' filters' (suc j) ≡ entry_in tracks filters j

-- ids rise above x, and each part can move on: it has a height, and its count is at most b
abbrev pub Ordered : ℕ → ℕ → List (ℕ × windows.Prefix) → Type 0
Ordered b x [] = Unit {0}
Ordered b x (e ∷ ps) = (x < e.0) × (1 ≤ length e.1.heights) × (e.1.count ≤ b) × Ordered b e.0 ps

-- what freezing one dot makes of the table
abbrev pub frozen_by : FgoConfig → ℕ → windows.Detection → List (ℕ × windows.Prefix) → List (ℕ × windows.Prefix)
frozen_by c x d ps = put x (freeze c (find x ps) d) ps

-- what freezing a dot of the track x asks: a table in order, and room for one part more
pub record Freezes (x : ℕ) (tracks : List ℕ) (filters : List Float) (n : ℕ) : Type 0 where
  pub most : ℕ
  pub small : suc most < 2 ^ 64
  pub ordered : Ordered most 0 (table_in tracks filters n)
  pub named : 0 < x
  pub room : n < FROZEN

-- what freezing the scan n asks: a body that passes, a table in order, and room for the scan's detections
pub record FreezesScan (bodies columns : List ℕ) (n : ℕ) (tracks : List ℕ) (filters : List Float) (frozen : ℕ) : Type 0 where
  pub passes : body_refusal (body_at bodies columns n) ≡ 0
  pub ordered : Ordered ACCEPTED 0 (table_in tracks filters frozen)
  pub room : frozen + in_windows (scan_in bodies columns n).ids ≤ FROZEN

-- ---- forgetting

-- "the tracks that have no window and an age above forget_after_ns are removed": the part k is not
abbrev pub kept_in : FgoConfig → ℤ → List Scan → List ℕ → ℕ → Bool
kept_in c now ss tracks k = in_window (part_id tracks k) ss || le_z (now -ℤ part_last_ns tracks k) (forget_after c)

-- a frozen part of which ages can be told: its id is no word for none, it has a height, and its time is in bounds
pub record PartOk (e : ℕ × windows.Prefix) : Type 0 where
  pub named : 0 < e.0
  pub height : 1 ≤ length e.1.heights
  pub timed : time_ok e.1.last_ns ≡ true

-- a time in bounds, and n such parts
pub record PartsOk (time : ℤ) (tracks : List ℕ) (filters : List Float) (n : ℕ) : Type 0 where
  pub timed : time_ok time ≡ true
  pub few : n ≤ FROZEN
  pub parts : (k : ℕ) → k < n → PartOk (entry_in tracks filters k)

-- of n frozen parts those stay that are now the table ps, w of them: they lie at the front, and the others of the n are
-- cleared
pub record Remembered (ps : List (ℕ × windows.Prefix)) (n w : ℕ)
    (tracks : List ℕ) (filters : List Float) (tracks' : List ℕ) (filters' : List Float) : Type 0 where
  pub table : table_in tracks' filters' w ≡ ps
  pub words : tracks' ≡ renewed 0 (PART * n) (flat_map part_words ps) tracks
  pub numbers : filters' ≡ renewed (of_bits binary64 0) (FILTER * n) (flat_map part_numbers ps) filters
