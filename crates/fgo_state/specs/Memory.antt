-- What the lent memory of a refiner means: the one function from its arrays to the state of which the refiner is
-- defined. Definitions only.
--
-- The refiner keeps a few numbers by value, and is lent five arrays: the bodies of the held scans, beside each body its
-- length and the refined id of each association, the owners of engine ids, and the words and the numbers of the frozen
-- parts. Whatever lies past a count is ignored.
use Rattle.std.specs.Prelude.{ℕ, ◌+◌, ◌*◌, ◌%◌, Bool, cond, ◌&&◌, ◌||◌, ◌≡◌, leb, ltb, Float}
use Rattle.std.specs.Prelude.{List, [], ◌∷◌, length, take, drop, get_or, replicate}
use Rattle.std.proofs.Math.Option.{Option, none, some}
use Rattle.bounds.specs.Bounds.{SCANS, ASSOCIATIONS, BODY, BODIES, COLUMN, COLUMNS, OWNER, OWNERS}
use Rattle.engine.specs.declared.types.BodyKind.{BodyKind}
use Rattle.engine.specs.declared.types.BodyKind.TheVariants.{Narrow}
use Rattle.engine.specs.declared.types.Association.{Association}
use Rattle.engine.specs.Frame.{no_association}
use Rattle.engine.specs.Body.{Body, body, frame_in, associations_in, rows}
use Rattle.fgo_spec.specs.Lists.{any, has, find}
use Rattle.fgo_spec.specs.Windows.{Scan}
use Rattle.fgo_spec.specs.Refiner.{State}
use Rattle.fgo_spec.specs.Rule.{Bytes}
use Rattle.fgo_part.specs.Parts.{part_ids, table_in, no_parts}
use Rattle.fgo_state.specs.declared.scans.Scans.{Scans}
use Rattle.fgo_state.specs.declared.state.FixedLagRefiner.{FixedLagRefiner}
use Rattle.fgo_state.specs.declared.state.Memory.{Memory}

-- the memory of five arrays: bodies, columns of lengths and ids, owners, and the words and the numbers of the frozen
-- parts
abbrev pub memory : List ℕ → List ℕ → List ℕ → List ℕ → List Float → Memory
memory bodies columns owners tracks filters =
    record {
      scans = record { bodies = bodies; columns = columns };
      owners = owners;
      parts = record { tracks = tracks; filters = filters };
    }

-- memory that was never used: held scans
abbrev pub no_scans : Scans
no_scans = record { bodies = replicate BODIES 0; columns = replicate COLUMNS 0 }

-- memory that was never used
abbrev pub no_memory : Memory
no_memory = record { scans = no_scans; owners = replicate OWNERS 0; parts = no_parts }

-- what the types of the arrays of held scans say: their lengths, and that bodies are of bytes
pub record Typed (s : Scans) : Type 0 where
  pub bodies_long : length s.bodies ≡ BODIES
  pub columns_long : length s.columns ≡ COLUMNS
  pub bytes : Bytes s.bodies

-- ---- held scans: the scan n lies in slot n mod SCANS

-- the slot of the scan n
abbrev pub slot_at : ℕ → ℕ
slot_at n = n % SCANS

-- the head of its column
abbrev pub head_at : List ℕ → ℕ → ℕ
head_at columns n = get_or columns (COLUMN * slot_at n) 0

-- the head for a body of a kind and a length: there is one kind, and no mark of it
unfoldable pub head_for : BodyKind → ℕ → ℕ
head_for Narrow l = l

-- the length that a head says: none is longer than the longest body, and more holds no body
unfoldable pub length_in : ℕ → ℕ
length_in h = cond (leb h BODY) h 0

-- the kind that a head says
unfoldable pub kind_in : ℕ → BodyKind
kind_in h = Narrow

-- the bytes of the scan n
unfoldable pub bytes_at : List ℕ → List ℕ → ℕ → List ℕ
bytes_at bodies columns n = take (length_in (head_at columns n)) (drop (BODY * slot_at n) bodies)

-- the body of the scan n
abbrev pub body_at : List ℕ → List ℕ → ℕ → Body
body_at bodies columns n = body (kind_in (head_at columns n)) (bytes_at bodies columns n)

-- the refined id of association j of the scan n; a slot has room for ASSOCIATIONS
unfoldable pub id_at : List ℕ → ℕ → ℕ → ℕ
id_at columns n j = cond (ltb j ASSOCIATIONS) (get_or columns (COLUMN * slot_at n + (1 + j)) 0) 0

-- association j of a body
abbrev pub association_in : Body → ℕ → Association
association_in b j = get_or (frame_in b).associations j no_association

-- the ids of the scan n, of which the body is b: one for each association
abbrev pub ids_in : List ℕ → ℕ → Body → List ℕ
ids_in columns n b = rows (id_at columns n) 0 (associations_in b)

-- the scan n of the body b: what it says, and the ids
abbrev pub scan_by : List ℕ → ℕ → Body → Scan
scan_by columns n b = record { frame = frame_in b; ids = ids_in columns n b }

-- a held scan
unfoldable pub scan_in : List ℕ → List ℕ → ℕ → Scan
scan_in bodies columns n = scan_by columns n (body_at bodies columns n)

-- the scans held, from the number first on
abbrev pub scans_in : List ℕ → List ℕ → ℕ → ℕ → List Scan
scans_in bodies columns first held = rows (scan_in bodies columns) first held

-- a refined id stands in the column of a held scan
unfoldable pub in_window : ℕ → List Scan → Bool
in_window x ss = any (λ s. has x s.ids) ss

-- a track is live: it has a frozen part or a window
unfoldable pub live_in : List ℕ → List ℕ → ℕ → ℕ → List ℕ → ℕ → ℕ → Bool
live_in bodies columns first held tracks frozen x =
    has x (part_ids tracks frozen) || (ltb 0 x && in_window x (scans_in bodies columns first held))

-- the words of a column: its head, for a body of a kind and a length, and the ids of its associations
abbrev pub column_words : BodyKind → ℕ → List ℕ → List ℕ
column_words kind size ids = head_for kind size ∷ ids

-- ---- owners: pairs of an engine id and a refined id

-- the engine id of owner entry k
abbrev pub engine_at : List ℕ → ℕ → ℕ
engine_at owners k = get_or owners (OWNER * k) 0

-- the refined id that owns it
abbrev pub owner_at : List ℕ → ℕ → ℕ
owner_at owners k = get_or owners (OWNER * k + 1) 0

-- owner entry k
abbrev pub owner_entry : List ℕ → ℕ → ℕ × ℕ
owner_entry owners k = (engine_at owners k, owner_at owners k)

-- the words of an entry
abbrev pub owner_words : ℕ × ℕ → List ℕ
owner_words o = o.0 ∷ o.1 ∷ []

-- the first n owner entries
abbrev pub owners_in : List ℕ → ℕ → List (ℕ × ℕ)
owners_in owners n = rows (owner_entry owners) 0 n

-- an id, 0 if there is none
abbrev pub or_none : Option ℕ → ℕ
or_none none = 0
or_none (some x) = x

-- the owner of the engine id e, 0 if none
abbrev pub owner_of : List ℕ → ℕ → ℕ → ℕ
owner_of owners owned e = or_none (find e (owners_in owners owned))

-- ---- the state

-- the state that a refiner and its memory mean
unfoldable pub state_of : FixedLagRefiner → Memory → State
state_of r m =
    record {
      first = r.first.0;
      scans = scans_in m.scans.bodies m.scans.columns r.first.0 r.held;
      prefixes = table_in m.parts.tracks m.parts.filters r.frozen;
      owners = owners_in m.owners r.owned;
      next_id = r.next_id.0;
      counters = r.counters;
    }
