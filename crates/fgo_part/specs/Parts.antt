-- The frozen parts of tracks in lent memory: of each PART words and FILTER numbers. Definitions only.
--
-- The words are its id, last frame, last time, count, class and number of heights; the numbers are those of its filter,
-- then its last heights, oldest first.
use Rattle.std.specs.Prelude.{ℕ, suc, ◌+◌, ◌-◌, ◌*◌, ◌^◌, ◌<◌, ◌≡◌, cond, leb, ltb, ℤ, Float, Option, None, Some, MatchOption}
use Rattle.std.specs.Prelude.{List, [], ◌∷◌, ◌++◌, length, get_or, replicate}
use Rattle.std.specs.Float.{nan, binary64}
use Rattle.std.specs.Float.Ieee.{of_bits}
use Rattle.bounds.specs.Bounds.{PART, PARTS, KF, HEIGHTS, FILTER, FILTERS}
use Rattle.scalar.specs.Scalar.{word, signed}
use Rattle.engine.specs.Body.{rows}
use Rattle.kf.specs.declared.filter.Kf.{Kf}
use Rattle.kf.specs.Filter.{kf_in, kf_numbers}
use Rattle.fgo_spec.specs.Windows as windows
use Rattle.fgo_spec.specs.Emitting.{class_word}
use Rattle.fgo_part.specs.declared.Heights.{Heights}
use Rattle.fgo_part.specs.declared.Prefix.{Prefix}
use Rattle.fgo_part.specs.declared.FrozenParts.{FrozenParts}
use Rattle.buffers.specs.Buffers.{over}
use Rattle.engine.specs.Frame.{ClassLabel}

-- n cells of a list, from place o on
abbrev pub cells : {A : Type 0} → A → List A → ℕ → ℕ → List A
cells d l o n = rows (λ i. get_or l (o + i) d) 0 n

-- "class (2^32 if none)"
abbrev pub class_in : ℕ → ClassLabel
class_in w = cond (ltb w (2 ^ 32)) (Some w) None

-- n heights from place o on: more than HEIGHTS are none
abbrev pub heights_in : List Float → ℕ → ℕ → List Float
heights_in ns o n = cond (leb n HEIGHTS) (cells nan ns o n) []

-- ---- the fields of part k

-- the id of its track
abbrev pub part_id : List ℕ → ℕ → ℕ
part_id tracks k = get_or tracks (PART * k) 0

-- the number of the scan of its last detection
abbrev pub part_last_frame : List ℕ → ℕ → ℕ
part_last_frame tracks k = get_or tracks (PART * k + 1) 0

-- that scan's time
abbrev pub part_last_ns : List ℕ → ℕ → ℤ
part_last_ns tracks k = signed (get_or tracks (PART * k + 2) 0)

-- how many detections it has
abbrev pub part_count : List ℕ → ℕ → ℕ
part_count tracks k = get_or tracks (PART * k + 3) 0

-- the newest class known
abbrev pub part_class : List ℕ → ℕ → ClassLabel
part_class tracks k = class_in (get_or tracks (PART * k + 4) 0)

-- how many heights it has
abbrev pub part_height_count : List ℕ → ℕ → ℕ
part_height_count tracks k = get_or tracks (PART * k + 5) 0

-- its filter
abbrev pub part_kf : List Float → ℕ → Kf
part_kf filters k = kf_in filters (FILTER * k)

-- where its heights begin
abbrev pub part_heights_at : ℕ → ℕ
part_heights_at k = FILTER * k + KF

-- ---- parts

-- frozen part k
unfoldable pub prefix_in : List ℕ → List Float → ℕ → windows.Prefix
prefix_in tracks filters k =
    record {
      kf = part_kf filters k;
      last_frame = part_last_frame tracks k;
      last_ns = part_last_ns tracks k;
      count = part_count tracks k;
      heights = heights_in filters (part_heights_at k) (part_height_count tracks k);
      class = part_class tracks k;
    }

-- the ids of the first n frozen parts
abbrev pub part_ids : List ℕ → ℕ → List ℕ
part_ids tracks n = rows (part_id tracks) 0 n

-- they rise
pub record Rises (tracks : List ℕ) (n : ℕ) : Type 0 where
  pub next : (k : ℕ) → suc k < n → part_id tracks k < part_id tracks (suc k)

-- r is the place of the part of the track x among the first n; there is none where no part has its id
abbrev pub IsPartOf : List ℕ → ℕ → ℕ → Option ℕ → Type 0
IsPartOf tracks n x r = MatchOption r ((k : ℕ) → k < n → x ≡ part_id tracks k → ⊥) (λ i. (i < n) × (x ≡ part_id tracks i))

-- frozen part k under its id
abbrev pub entry_in : List ℕ → List Float → ℕ → ℕ × windows.Prefix
entry_in tracks filters k = (part_id tracks k, prefix_in tracks filters k)

-- the first n frozen parts, each under its id
abbrev pub table_in : List ℕ → List Float → ℕ → List (ℕ × windows.Prefix)
table_in tracks filters n = rows (entry_in tracks filters) 0 n

-- parts that were never written
abbrev pub no_parts : FrozenParts
no_parts = record { tracks = replicate PARTS 0; filters = replicate FILTERS (of_bits binary64 0) }

-- ---- parts by value

-- the heights that are there
abbrev pub heights_of : Heights → List Float
heights_of h = heights_in h.values 0 h.count

-- a frozen part by value, as the part that it is
abbrev pub prefix_of : Prefix → windows.Prefix
prefix_of p =
    record {
      kf = p.kf;
      last_frame = p.last_frame.0;
      last_ns = p.last_ns;
      count = p.count;
      heights = heights_of p.heights;
      class = p.class;
    }

-- ---- writing

-- the words of a frozen part under its id
abbrev pub part_words : ℕ × windows.Prefix → List ℕ
part_words e =
    let p = e.1 in
    e.0 ∷ p.last_frame ∷ word p.last_ns ∷ p.count ∷ class_word p.class ∷ length p.heights ∷ []

-- heights, and 0.0 in each place that has none
abbrev pub height_numbers : List Float → List Float
height_numbers hs = hs ++ replicate (HEIGHTS - length hs) (of_bits binary64 0)

-- its numbers
abbrev pub part_numbers : ℕ × windows.Prefix → List Float
part_numbers e = kf_numbers e.1.kf ++ height_numbers e.1.heights

-- after a frozen part by value was written over the part k, under the id x: its words and its numbers, which read back
-- as the part; every other part is as it was
pub record Put (k x : ℕ) (p : Prefix) (tracks : List ℕ) (filters : List Float) (tracks' : List ℕ) (filters' : List Float) : Type 0 where
  pub words : tracks' ≡ over (PART * k) (part_words (x, prefix_of p)) tracks
  pub numbers : filters' ≡ over (FILTER * k) (part_numbers (x, prefix_of p)) filters
  pub here : entry_in tracks' filters' k ≡ (x, prefix_of p)
  pub others : (j : ℕ) → (j ≡ k → ⊥) → entry_in tracks' filters' j ≡ entry_in tracks filters j
