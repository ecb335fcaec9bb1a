-- What a move does to the gathered ids, and what it counts. Definitions only.
use Rattle.std.specs.Prelude.{ℕ, zero, suc, ◌+◌, ◌^◌, Bool, true, false, cond, List, ◌++◌, map, get_or, take, drop, eqb, leb, ltb}
use Rattle.bounds.specs.Bounds.{SCANS}
use Rattle.fgo_spec.specs.declared.moves.FgoCounters.{FgoCounters}
use Rattle.fgo_spec.specs.declared.moves.PairMove.{PairMove}
use Rattle.fgo_spec.specs.declared.moves.PairMove.TheVariants.{Swap, Merge}
use Rattle.fgo_spec.specs.declared.moves.TrackMove.{TrackMove}
use Rattle.fgo_spec.specs.declared.moves.TrackMove.TheVariants.{Split, Drop}
use Rattle.fgo_spec.specs.Lists.{segment}
use Rattle.search_rows.specs.declared.moves.Targets.{Targets}
use Rattle.search_rows.specs.declared.moves.Tally.{Tally}

-- what becomes of the id i in a scan where a becomes t.a and b becomes t.b
abbrev pub retarget : ℕ → ℕ → Targets → ℕ → ℕ
retarget a b t i = cond (eqb a i) t.a.0 (cond (eqb b i) t.b.0 i)

-- what two ids become
abbrev pub become : ℕ → ℕ → Targets
become a b = record { a = record { 0 = a }; b = record { 0 = b } }

-- what becomes of the keeper k in a scan of a merge, where its own detection is kept or else the other's; ho says
-- whether the other has one
abbrev pub keeper_target : Bool → Bool → ℕ → ℕ
keeper_target true ho k = k
keeper_target false ho k = cond ho 0 k

-- what becomes of the other: its detection goes to the keeper k, or to clutter where k's own is kept; hk says whether k
-- has one
abbrev pub other_target : Bool → Bool → ℕ → ℕ
other_target true hk k = cond hk 0 k
other_target false hk k = k

-- what becomes of a and b in the scan n, where ha and hb say which have a detection there
abbrev pub pair_targets : PairMove → ℕ → ℕ → ℕ → Bool → Bool → Targets
pair_targets (Swap f g) a b n ha hb = cond (leb f.0 n) (become b a) (become a b)
pair_targets (Merge k own g) a b n ha hb =
    cond (eqb a k.0)
    (become (keeper_target own hb a) (other_target own ha a))
    (become (other_target own hb b) (keeper_target own ha b))

-- what becomes of a in the scan n, where a new track would be x
abbrev pub track_targets : TrackMove → ℕ → ℕ → ℕ → Targets
track_targets (Split f g) a x n = cond (leb f.0 n) (become x a) (become a x)
track_targets (Drop f g) a x n = cond (eqb f.0 n) (become 0 x) (become a x)

-- the entries from a up to b changed
abbrev pub map_over : (ℕ → ℕ) → ℕ → ℕ → List ℕ → List ℕ
map_over f a b l = take a l ++ (map f (segment a b l) ++ drop b l)

-- the ids of n scans from k on renamed, each scan by its own targets
unfoldable pub renamed_from : List ℕ → ℕ → ℕ → (ℕ → Targets) → ℕ → ℕ → List ℕ → List ℕ
renamed_from starts a b t k zero ids = ids
renamed_from starts a b t k (suc n) ids =
    renamed_from starts a b t (suc k) n (map_over (retarget a b (t k)) (get_or starts k 0) (get_or starts (suc k) 0) ids)

-- a row has a detection in scan k
abbrev pub has_slot : List ℕ → ℕ → Bool
has_slot r k = ltb 0 (get_or r k 0)

-- the ids after a move of the pair a, b with the rows ra, rb; first is the number of the oldest scan
unfoldable pub pair_ids : ℕ → List ℕ → PairMove → ℕ → ℕ → List ℕ → List ℕ → List ℕ → List ℕ
pair_ids first starts m a b ra rb ids = renamed_from starts a b (λ k. pair_targets m a b (first + k) (has_slot ra k) (has_slot rb k)) 0 SCANS ids

-- the ids after a move of the track a, where a new track would be x
unfoldable pub track_ids : ℕ → List ℕ → TrackMove → ℕ → ℕ → List ℕ → List ℕ
track_ids first starts m a x ids = renamed_from starts a x (λ k. track_targets m a x (first + k)) 0 SCANS ids

-- ---- counting, far below where a word ends

-- one more; a number from 2^63 on stays
abbrev pub one_more : ℕ → ℕ
one_more n = cond (ltb n (2 ^ 63)) (n + 1) n

-- a pass begins: it has made no move yet
abbrev pub begun : Tally → Tally
begun t = record { next_id = t.next_id; counters = t.counters; passes = one_more t.passes; moved = false }

-- the tally after a move: what it makes of the counters and of the next id
abbrev pub counted : (FgoCounters → FgoCounters) → (ℕ → ℕ) → Tally → Tally
counted f g t = record { next_id = record { 0 = g t.next_id.0 }; counters = f t.counters; passes = t.passes; moved = true }

-- the counters after a move of a pair
abbrev pub pair_counters : PairMove → FgoCounters → FgoCounters
pair_counters (Swap f g) k = record { swaps = one_more k.swaps; merges = k.merges; splits = k.splits; drops = k.drops }
pair_counters (Merge i own g) k = record { swaps = k.swaps; merges = one_more k.merges; splits = k.splits; drops = k.drops }

-- the tally after a move of a pair
abbrev pub pair_tally : PairMove → Tally → Tally
pair_tally m t = counted (pair_counters m) (λ n. n) t

-- the counters after a move of a single track
abbrev pub track_counters : TrackMove → FgoCounters → FgoCounters
track_counters (Split f g) k = record { swaps = k.swaps; merges = k.merges; splits = one_more k.splits; drops = k.drops }
track_counters (Drop f g) k = record { swaps = k.swaps; merges = k.merges; splits = k.splits; drops = one_more k.drops }

-- the next id after a move of a single track: the tail of a split "gets the next id"
abbrev pub next_id_after : TrackMove → ℕ → ℕ
next_id_after (Split f g) n = one_more n
next_id_after (Drop f g) n = n

-- the tally after a move of a single track
abbrev pub track_tally : TrackMove → Tally → Tally
track_tally m t = counted (track_counters m) (next_id_after m) t
