-- What every cell of the lent memory holds after a push or a take, whatever it held before; and what it holds at any
-- time from an opening on. What is in use says the state; what a call freed is cleared; every other cell is as it was.
-- Definitions only.
use Rattle.std.specs.Prelude.{ℕ, suc, ◌+◌, ◌*◌, length, replicate}
use mathlib.Core.List.{List, [], ◌∷◌, map, flat_map}
use Rattle.std.specs.Float.{binary64}
use Rattle.std.specs.Float.Ieee.{of_bits}
use Rattle.bounds.specs.Bounds.{SCANS, BODY, BODIES, COLUMN, COLUMNS, OWNER, OWNERS, PART, PARTS, FILTER, FILTERS}
use Rattle.buffers.specs.Buffers.{over, cleared, renewed}
use Rattle.buffers.specs.Slots.{slotted}
use Rattle.buffers.specs.Answer.{Op, pushed, taken, Reply, refused, waits, gives}
use Rattle.engine.specs.declared.config.FgoConfig.{FgoConfig}
use Rattle.engine.specs.Body.{Body, frame_in, associations_in, rows}
use Rattle.fgo_spec.specs.Windows.{Scan}
use Rattle.fgo_spec.specs.Freezing.{freeze_scan}
use Rattle.fgo_spec.specs.Emitting.{Emitted}
use Rattle.fgo_spec.specs.Refiner.{State, placed, arrive, leave}
use Rattle.fgo_part.specs.Parts.{part_words, part_numbers}
use Rattle.fgo_state.specs.declared.scans.Scans.{Scans}
use Rattle.fgo_state.specs.declared.state.FixedLagRefiner.{FixedLagRefiner}
use Rattle.fgo_state.specs.declared.state.Memory.{Memory}
use Rattle.fgo_state.specs.Memory.{memory, slot_at, bytes_at, body_at, column_words, owner_words}

-- ---- a frame arrives

-- the ids of scans, of which the first has the number n, in their columns
unfoldable pub ids_put : ℕ → List Scan → List ℕ → List ℕ
ids_put n [] columns = columns
ids_put n (s ∷ ss) columns = ids_put (suc n) ss (over (COLUMN * slot_at n + 1) s.ids columns)

-- The frame of the body b arrived: its body and its column lie in its slot, and the columns of all held scans have
-- their ids anew. The owners that stay lie at the front; those that went are cleared, also where placing made them. No
-- part changes.
abbrev pub arrived : FgoConfig → State → Body → Memory → Memory
arrived c t b m =
    let p = placed t (frame_in b) in
    let u = arrive c t (frame_in b) in
    let n = t.first + length t.scans in
    let column = column_words b.kind (length b.bytes) p.ids in
    memory
    (over (BODY * slot_at n) b.bytes m.scans.bodies)
    (ids_put t.first u.scans (over (COLUMN * slot_at n) column m.scans.columns))
    (renewed 0 (OWNER * length p.owners) (flat_map owner_words u.owners) m.owners)
    m.parts.tracks
    m.parts.filters

-- ---- the oldest scan leaves

-- the slot of the scan n, cleared: as much of it as the scan took
abbrev pub slot_cleared : ℕ → Scans → Scans
slot_cleared n s =
    record {
      bodies = cleared 0 (BODY * slot_at n) (length (bytes_at s.bodies s.columns n)) s.bodies;
      columns = cleared 0 (COLUMN * slot_at n) (1 + associations_in (body_at s.bodies s.columns n)) s.columns;
    }

-- The scan s left, and the scans ss stay: its slot is cleared, the owners and the frozen parts that stay lie at the
-- front, and those that went are cleared, also parts that freezing this scan made.
abbrev pub departed : FgoConfig → State → Scan → List Scan → Memory → Memory
departed c t s ss m =
    let u = leave c t s ss in
    let frozen = length (freeze_scan c t.first s t.prefixes) in
    record {
      scans = slot_cleared t.first m.scans;
      owners = renewed 0 (OWNER * length t.owners) (flat_map owner_words u.owners) m.owners;
      parts =
          record {
            tracks = renewed 0 (PART * frozen) (flat_map part_words u.prefixes) m.parts.tracks;
            filters = renewed (of_bits binary64 0) (FILTER * frozen) (flat_map part_numbers u.prefixes) m.parts.filters;
          };
    }

-- the oldest of these scans left, if there is one
abbrev pub settled : FgoConfig → State → List Scan → Memory → Memory
settled c t [] m = m
settled c t (s ∷ ss) m = departed c t s ss m

-- ---- a push or a take

-- the memory after it, by its reply
abbrev pub memory_after : FgoConfig → State → Op Body → Reply Emitted → Memory → Memory
memory_after c t o (refused n) m = m
memory_after c t taken waits m = m
memory_after c t taken (gives e) m = settled c t t.scans m
memory_after c t (pushed b) waits m = arrived c t b m
memory_after c t (pushed b) (gives e) m = let u = arrive c t (frame_in b) in settled c u u.scans (arrived c t b m)

-- ---- from an opening on

-- the bodies of the held scans
abbrev pub held_bodies : FixedLagRefiner → Memory → List Body
held_bodies r m = rows (body_at m.scans.bodies m.scans.columns) r.first.0 r.held

-- the words of the columns of scans, with their bodies
unfoldable pub columns_of : List Body → List Scan → List (List ℕ)
columns_of [] ss = []
columns_of (b ∷ bs) [] = []
columns_of (b ∷ bs) (s ∷ ss) = column_words b.kind (length b.bytes) s.ids ∷ columns_of bs ss

-- the memory of a state, and of the bodies of its scans: all that these say stands in its place, and nothing else does
unfoldable pub laid : State → List Body → Memory
laid t bs =
    memory
    (slotted BODY SCANS t.first (map (λ b. b.bytes) bs) (replicate BODIES 0))
    (slotted COLUMN SCANS t.first (columns_of bs t.scans) (replicate COLUMNS 0))
    (over 0 (flat_map owner_words t.owners) (replicate OWNERS 0))
    (over 0 (flat_map part_words t.prefixes) (replicate PARTS 0))
    (over 0 (flat_map part_numbers t.prefixes) (replicate FILTERS (of_bits binary64 0)))
