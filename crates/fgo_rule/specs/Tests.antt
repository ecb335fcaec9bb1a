-- The tests that the code makes of a refiner and its lent memory, in the code's order: as one they are document 01's
-- state rule. Definitions only.
use Rattle.std.specs.Prelude.{ℕ, zero, suc, ◌+◌, ◌-◌, ◌≡◌, Bool, true, ◌&&◌, ◌||◌, not, List, length, drop, get_or, leb, ltb, eqb}
use Rattle.bounds.specs.Bounds.{ACCEPTED, DETECTIONS, FROZEN, OWNED, HEIGHTS}
use Rattle.engine.specs.Config.{legal, lag}
use Rattle.engine.specs.Body.{Body, all, time_ok, associations_in, rows, body_refusal}
use Rattle.fgo_spec.specs.Lists.{has}
use Rattle.fgo_spec.specs.Windows.{window_count}
use Rattle.fgo_spec.specs.Rule.{all_of, loose_ok, owned_ok}
use Rattle.fgo_part.specs.Parts.{part_id, part_last_frame, part_last_ns, part_count, part_height_count}
use Rattle.fgo_state.specs.declared.state.FixedLagRefiner.{FixedLagRefiner}
use Rattle.fgo_state.specs.Memory.{body_at, id_at, scans_in, association_in, live_in, owner_at, owner_of, owners_in}
use Rattle.fgo_state.specs.Owners.{engines_in}
use Rattle.fgo_state.specs.Gathering.{HeldScans, latest_of}
use Rattle.fgo_state.specs.Sound.{bodies_ok}

-- settings, counts and the next id
unfoldable pub counts_ok : FixedLagRefiner → Bool
counts_ok r =
    legal r.config
    && (leb r.held (lag r.config)
    && (leb (r.first.0 + r.held) ACCEPTED && (ltb 0 r.next_id.0 && (leb r.frozen FROZEN && leb r.owned OWNED))))

-- the id of association j of scan n, of which the body is b: alone in what follows, below the next id, and clutter
-- where there is no engine id
unfoldable pub id_ok : ℕ → List ℕ → Body → ℕ → ℕ → Bool
id_ok next columns b n j =
    let x = id_at columns n j in
    (eqb x 0 || not (has x (rows (id_at columns n) (suc j) (associations_in b - suc j))))
    && (ltb x next && loose_ok (association_in b j).track x)

-- each id of scan n, of which the body is b, is so
unfoldable pub column_in : ℕ → List ℕ → Body → ℕ → Bool
column_in next columns b n = all (id_ok next columns b n) (associations_in b)

-- scan n is held as the rule says: by its body, and by each id
unfoldable pub scan_ok : ℕ → List ℕ → List ℕ → ℕ → Bool
scan_ok next bodies columns n =
    let b = body_at bodies columns n in eqb (body_refusal b) 0 && column_in next columns b n

-- "each held association lies in exactly one window or in clutter, those without engine id in clutter"; ids are below
-- the next id
unfoldable pub columns_ok : ℕ → List ℕ → List ℕ → ℕ → ℕ → Bool
columns_ok next bodies columns first held = all (λ i. column_in next columns (body_at bodies columns (first + i)) (first + i)) held

-- the id before that of frozen part k, 0 before the first
abbrev pub id_before : List ℕ → ℕ → ℕ
id_before tracks zero = 0
id_before tracks (suc k) = part_id tracks k

-- "ids rise, are at least 1 and below the next id"; "a frozen part has count 1 to first, 1 to 5 heights, last frame
-- before first, time in bounds"
unfoldable pub part_ok : ℕ → ℕ → List ℕ → ℕ → Bool
part_ok first next tracks k =
    let count = part_count tracks k in
    let heights = part_height_count tracks k in
    ltb (id_before tracks k) (part_id tracks k)
    && (ltb (part_id tracks k) next
    && (leb 1 count
    && (leb count first
    && (leb 1 heights && (leb heights HEIGHTS && (ltb (part_last_frame tracks k) first && time_ok (part_last_ns tracks k)))))))

-- each frozen part is so
unfoldable pub parts_ok : ℕ → ℕ → List ℕ → ℕ → Bool
parts_ok first next tracks frozen = all (part_ok first next tracks) frozen

-- the id at place k of a list stands at no later place
unfoldable pub last_at : List ℕ → ℕ → Bool
last_at ids k = not (has (get_or ids k 0) (drop (suc k) ids))

-- "owner entries have distinct engine ids": each of these
unfoldable pub distinct_in : List ℕ → Bool
distinct_in ids = all (last_at ids) (length ids)

-- "an engine id in a window is owned by the holder of its latest": that of the detection i of those gathered, at its
-- last place
unfoldable pub owned_at : List ℕ → List ℕ → List ℕ → ℕ → List ℕ → ℕ → ℕ → Bool
owned_at ids engines starts held owners owned i =
    let e = get_or engines i 0 in not (last_at engines i) || eqb (owner_of owners owned e) (latest_of e ids engines starts held)

-- each engine id gathered is so
unfoldable pub owned_all : List ℕ → List ℕ → List ℕ → ℕ → List ℕ → ℕ → Bool
owned_all ids engines starts held owners owned = all (owned_at ids engines starts held owners owned) (length engines)

-- "owner entries have live owners", by which ids are live
unfoldable pub lives_in : (ℕ → Bool) → List ℕ → ℕ → Bool
lives_in lives owners owned = all (λ k. lives (owner_at owners k)) owned

-- the test of the owners on what is held
unfoldable pub owned_in : List ℕ → List ℕ → ℕ → ℕ → List ℕ → ℕ → Bool
owned_in bodies columns first held owners owned =
    let ss = scans_in bodies columns first held in
    all_of (λ s. owned_ok (owners_in owners owned) ss s.frame.associations s.ids) ss

-- what it asks: held scans whose columns are in order below some next id, with few detections in windows
pub record Owning (bodies columns : List ℕ) (first held : ℕ) : Type 0 where
  pub scans : HeldScans bodies columns first held
  pub ordered : (next : ℕ) × (columns_ok next bodies columns first held ≡ true)

-- all the tests; equal to the rule, whatever the filters are
unfoldable pub sound_in : FixedLagRefiner → List ℕ → List ℕ → List ℕ → List ℕ → Bool
sound_in r bodies columns owners tracks =
    counts_ok r
    && (bodies_ok bodies columns r.first.0 r.held
    && (columns_ok r.next_id.0 bodies columns r.first.0 r.held
    && (parts_ok r.first.0 r.next_id.0 tracks r.frozen
    && (leb (r.frozen + window_count (scans_in bodies columns r.first.0 r.held)) DETECTIONS
    && (distinct_in (engines_in owners r.owned)
    && (owned_in bodies columns r.first.0 r.held owners r.owned
    && lives_in (live_in bodies columns r.first.0 r.held tracks r.frozen) owners r.owned))))))
