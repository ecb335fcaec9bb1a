-- The detections of the held windows, gathered: their ids in one list, scan by scan, and where each scan's begin.
-- Definitions only.
use Rattle.std.specs.Prelude.{ℕ, suc, ◌≤◌, ◌<◌, ◌≡◌, cond, length, get_or, slice_set, take, eqb, ltb}
use mathlib.Core.List.{List, [], ◌∷◌, map, foldr}
use Rattle.bounds.specs.Bounds.{DETECTIONS, SCANS, STARTS}
use Rattle.fgo_spec.specs.Lists.{keep, up_from, insert}
use Rattle.fgo_spec.specs.Gathered.{column_at}
use Rattle.search_rows.specs.declared.rows.Row.{Row}

-- where the scans begin, one after the other, and where the last one ends: DETECTIONS at most
pub record Starts (starts : List ℕ) : Type 0 where
  pub long : length starts ≡ STARTS
  pub rises : (k : ℕ) → k < SCANS → get_or starts k 0 ≤ get_or starts (suc k) 0
  pub ends : get_or starts SCANS 0 ≤ DETECTIONS

-- one more than the first place of x in a list whose first place has the number n, 0 where there is none
unfoldable pub slot_in : ℕ → ℕ → List ℕ → ℕ
slot_in x n [] = 0
slot_in x n (y ∷ ys) = cond (eqb x y) (suc n) (slot_in x (suc n) ys)

-- the detection of x in scan k
abbrev pub row_entry : List ℕ → List ℕ → ℕ → ℕ → ℕ
row_entry starts ids x k = slot_in x (get_or starts k 0) (column_at starts ids k)

-- the row of x: for each scan one more than the place of its detection, 0 where it has none
unfoldable pub row_of : List ℕ → List ℕ → ℕ → List ℕ
row_of starts ids x = map (row_entry starts ids x) (up_from 0 SCANS)

-- the ids that have a window, ascending
unfoldable pub present_in : ℕ → List ℕ → List ℕ
present_in n ids = foldr insert [] (keep (ltb 0) (take n ids))

-- a list that ascends from above k on
abbrev pub Ascends : ℕ → List ℕ → Type 0
Ascends k [] = Unit {0}
Ascends k (x ∷ l) = (k < x) × Ascends x l

-- the row r with the detection at place i in scan k, unless it has one there
abbrev pub row_with : List ℕ → ℕ → ℕ → List ℕ
row_with r k i = cond (ltb 0 (get_or r k 0)) r (slice_set r k (suc i))

-- the first scan in which a row has a detection, its length where there is none
unfoldable pub first_in : List ℕ → ℕ
first_in [] = 0
first_in (x ∷ r) = cond (ltb 0 x) 0 (suc (first_in r))

-- one more than the last scan in which a row has a detection, e where there is none; the row begins at scan k
unfoldable pub end_from : ℕ → ℕ → List ℕ → ℕ
end_from k e [] = e
end_from k e (x ∷ r) = end_from (suc k) (cond (ltb 0 x) (suc k) e) r

-- a row with its first scan and its end
abbrev pub entry_of : List ℕ → Row
entry_of r = record { slots = r; first = first_in r; end = end_from 0 0 r }

-- what stands past the end of a table of rows
abbrev pub no_row : Row
no_row = record { slots = []; first = 0; end = 0 }

-- the first n of the rows of a table are those of its first n ids
pub record Tabled (starts ids table : List ℕ) (n : ℕ) (rows : List Row) : Type 0 where
  pub long : length rows ≡ DETECTIONS
  pub each : (i : ℕ) → i < n → get_or rows i no_row ≡ entry_of (row_of starts ids (get_or table i 0))

-- an array begins with a list
pub record Begins (l : List ℕ) (n : ℕ) (array : List ℕ) : Type 0 where
  pub within : n ≤ DETECTIONS
  pub long : length array ≡ DETECTIONS
  pub is : take n array ≡ l
