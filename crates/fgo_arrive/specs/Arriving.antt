-- A frame arrives: what placing, searching and owning leave in the lent memory. Definitions only.
use Rattle.std.specs.Prelude.{ℕ, suc, ◌+◌, ◌*◌, ◌≤◌, ◌<◌, ◌≡◌, true, List, [], ◌∷◌, ◌++◌, map, length}
use mathlib.Core.List.{flat_map}
use Rattle.bounds.specs.Bounds.{LAG, SCANS, BODY, COLUMN, ACCEPTED, COUNTED, DETECTIONS, FROZEN, OWNED}
use Rattle.buffers.specs.Buffers.{over}
use Rattle.engine.specs.Body.{Body, frame_in, body_refusal}
use Rattle.engine.specs.Config.{legal}
use Rattle.fgo_spec.specs.Windows.{window_count}
use Rattle.fgo_spec.specs.Owning.{latest}
use Rattle.fgo_spec.specs.Searching as searching
use Rattle.fgo_spec.specs.Searching.{improve}
use Rattle.fgo_spec.specs.Rule.{All, ColumnRule}
use Rattle.fgo_spec.specs.Placing as placing
use Rattle.fgo_spec.specs.Refiner as spec
use Rattle.search_rows.specs.declared.moves.Tally.{Tally}
use Rattle.search.specs.Represents.{Spare}
use Rattle.fgo_state.specs.declared.state.FixedLagRefiner.{FixedLagRefiner}
use Rattle.fgo_part.specs.Parts.{table_in, entry_in}
use Rattle.fgo_state.specs.declared.state.Memory.{Memory}
use Rattle.fgo_state.specs.Memory.{slot_at, body_at, scans_in, column_words, owner_words, owners_in, state_of}
use Rattle.fgo_state.specs.Contents.{ids_put, arrived}
use Rattle.fgo_freeze.specs.Frozen.{Ordered, PartOk}
use Rattle.fgo_state.specs.Gathering.{HeldScans}
use Rattle.fgo_place.specs.Placing.{placed_all, begins}
use Rattle.fgo_state.specs.Sound.{sound_ok}
use Rattle.fgo_refuse.specs.Refusing.{push_refusal}

-- ---- a frame is placed and held

-- what that asks: a body that passes, a slot that is free, and room for ids and owners
pub record Holds (r : FixedLagRefiner) (b : Body) : Type 0 where
  pub passes : body_refusal b ≡ 0
  pub few : r.held ≤ LAG
  pub early : r.first.0 + r.held ≤ ACCEPTED
  pub owned : r.owned ≤ OWNED
  pub ids : r.next_id.0 ≤ COUNTED

-- placing, by the lent owner table
abbrev pub placed_by : FixedLagRefiner → Body → List ℕ → placing.Placing
placed_by r b owners = placed_all r.next_id.0 (frame_in b).associations (begins owners r.owned r.next_id.0)

-- after it: one scan more is held, with the ids that placing gave; its body and its column were written into its slot,
-- the owners at the front of their array, and no other cell
pub record HeldBy (r : FixedLagRefiner) (b : Body) (bodies columns owners : List ℕ) (u : FixedLagRefiner) (bodies' columns' owners' : List ℕ) : Type 0 where
  pub settings : u.config ≡ r.config
  pub first : u.first ≡ r.first
  pub held : u.held ≡ r.held + 1
  pub frozen : u.frozen ≡ r.frozen
  pub counters : u.counters ≡ r.counters
  pub next_id : u.next_id.0 ≡ (placed_by r b owners).next_id
  pub owned : u.owned ≤ OWNED
  pub owners_are : owners_in owners' u.owned ≡ (placed_by r b owners).owners
  pub bodies_put : bodies' ≡ over (BODY * slot_at (r.first.0 + r.held)) b.bytes bodies
  pub columns_put :
      columns' ≡ over (COLUMN * slot_at (r.first.0 + r.held)) (column_words b.kind (length b.bytes) (placed_by r b owners).ids) columns
  pub owners_put : owners' ≡ over 0 (flat_map owner_words (placed_by r b owners).owners) owners
  pub scans : scans_in bodies' columns' r.first.0 (r.held + 1)
      ≡ scans_in bodies columns r.first.0 r.held ++ (record { frame = frame_in b; ids = (placed_by r b owners).ids } ∷ [])
  pub older : (i : ℕ) → i < r.held → body_at bodies' columns' (r.first.0 + i) ≡ body_at bodies columns (r.first.0 + i)
  pub newest : body_at bodies' columns' (r.first.0 + r.held) ≡ b

-- ---- the search

-- what the search over the held scans asks
pub record SearchesHeld (r : FixedLagRefiner) (m : Memory) : Type 0 where
  pub settings : legal r.config ≡ true
  pub held : HeldScans m.scans.bodies m.scans.columns r.first.0 r.held
  pub columns : All (ColumnRule r.next_id.0) (scans_in m.scans.bodies m.scans.columns r.first.0 r.held)
  pub begun : 0 < r.next_id.0
  pub parts : Ordered ACCEPTED 0 (table_in m.parts.tracks m.parts.filters r.frozen)
  pub frozen : r.frozen ≤ FROZEN
  pub owners : r.owned ≤ OWNED
  pub spare : Spare r.next_id.0 r.counters

-- what the refiner as defined finds
abbrev pub improved_in : FixedLagRefiner → Memory → searching.Searched
improved_in r m =
    improve r.config r.first.0 (table_in m.parts.tracks m.parts.filters r.frozen) (scans_in m.scans.bodies m.scans.columns r.first.0 r.held) r.next_id.0
    r.counters

-- the owners after it: each engine id goes to the track that holds its latest detection, if a window has one
abbrev pub told_in : FixedLagRefiner → Memory → List (ℕ × ℕ)
told_in r m = map (λ o. (o.0, latest o.0 o.1 (improved_in r m).search.scans)) (owners_in m.owners r.owned)

-- after the search: the columns and the owners, next id and counters; of columns only the ids were written, and of
-- owners those in use
pub record SearchedHeld (r : FixedLagRefiner) (m : Memory) (columns' owners' : List ℕ) (t : Tally) : Type 0 where
  pub scans : scans_in m.scans.bodies columns' r.first.0 r.held ≡ (improved_in r m).search.scans
  pub bodies : (i : ℕ) → i < r.held → body_refusal (body_at m.scans.bodies columns' (r.first.0 + i)) ≡ 0
  pub columns_put : columns' ≡ ids_put r.first.0 (improved_in r m).search.scans m.scans.columns
  pub owners_put : owners' ≡ over 0 (flat_map owner_words (told_in r m)) m.owners
  pub next_id : t.next_id.0 ≡ (improved_in r m).search.next_id
  pub counters : t.counters ≡ (improved_in r m).search.counters

-- what the inner steps ask: a refiner that meets the rule, except that it may hold one scan more
pub record Ready (r : FixedLagRefiner) (m : Memory) : Type 0 where
  pub few : r.held ≤ SCANS
  pub early : r.first.0 + r.held ≤ ACCEPTED + 1
  pub passes : (i : ℕ) → i < r.held → body_refusal (body_at m.scans.bodies m.scans.columns (r.first.0 + i)) ≡ 0
  pub ordered : Ordered ACCEPTED 0 (table_in m.parts.tracks m.parts.filters r.frozen)
  pub parts : (k : ℕ) → k < r.frozen → PartOk (entry_in m.parts.tracks m.parts.filters k)
  pub room : r.frozen + window_count (scans_in m.scans.bodies m.scans.columns r.first.0 r.held) ≤ DETECTIONS
  pub owners : r.owned ≤ OWNED

-- what an arriving frame asks: a refiner that meets the rule, and a body that no number refuses
pub record Arrives (r : FixedLagRefiner) (m : Memory) (b : Body) : Type 0 where
  pub sound : sound_ok r m ≡ true
  pub accepted : push_refusal r (window_count (scans_in m.scans.bodies m.scans.columns r.first.0 r.held)) m.owners b ≡ 0

-- after it: the state is fgo_spec's, every cell is as defined, and the oldest scan may leave
pub record Arrived (r : FixedLagRefiner) (m : Memory) (b : Body) (u : FixedLagRefiner) (m' : Memory) : Type 0 where
  pub settings : u.config ≡ r.config
  pub memory : m' ≡ arrived r.config (state_of r m) b m
  pub state : state_of u m' ≡ spec.arrive r.config (state_of r m) (frame_in b)
  pub ready : Ready u m'
  pub held : u.held ≡ suc r.held
