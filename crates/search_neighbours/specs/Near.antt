-- Which pairs of rows come close, and in which scans: document 01's list of pairs. Definitions only.
use Rattle.std.specs.Prelude.{ℕ, ◌+◌, ◌-◌, ◌≤◌, ◌<◌, ◌≡◌, Bool, true, false, cond, ◌&&◌, eqb, leb}
use Rattle.std.specs.Prelude.{List, map, get_or, Float, Option}
use Rattle.std.specs.Bool.{then_some}
use Rattle.std.specs.Float.{nan}
use Rattle.std.specs.Float.Ieee.{lt}
use Rattle.bounds.specs.Bounds.{SCANS}
use Rattle.cost.specs.Cost.{dot_at}
use Rattle.kf.specs.declared.filter.Dot.{Dot}
use Rattle.fgo_spec.specs.Lists.{any, up_from}
use Rattle.fgo_spec.specs.Searching.{◌⊕◌, ◌⊖◌, square}
use Rattle.search_neighbours.specs.declared.Point.{Point}
use Rattle.search_rows.specs.Rows.{first_in, end_from, no_row}
use Rattle.search_rows.specs.declared.rows.Row.{Row}

-- "squared distance"
abbrev pub apart2 : List Dot → ℕ → ℕ → Float
apart2 dots i j = square ((dot_at dots i).x ⊖ (dot_at dots j).x) ⊕ square ((dot_at dots i).y ⊖ (dot_at dots j).y)

-- two entries of rows have a detection each, "at a squared distance below radius²"
unfoldable pub near_slots : Float → List Dot → ℕ → ℕ → Bool
near_slots radius2 dots i j = cond (eqb i 0) false (cond (eqb j 0) false (lt (apart2 dots (i - 1) (j - 1)) radius2))

-- "in one scan or in two consecutive scans": two rows have x and y in the earlier, nx and ny in the next
abbrev pub close_slots : Float → List Dot → ℕ → ℕ → ℕ → ℕ → Bool
close_slots radius2 dots x y nx ny = cond (near_slots radius2 dots x y) true (cond (near_slots radius2 dots x ny) true (near_slots radius2 dots nx y))

-- the earlier is k
unfoldable pub close_at : Float → List Dot → List ℕ → List ℕ → ℕ → Bool
close_at radius2 dots a b k = close_slots radius2 dots (get_or a k 0) (get_or b k 0) (get_or a (k + 1) 0) (get_or b (k + 1) 0)

-- "it notes the earlier of their scans": for each scan whether it is noted
unfoldable pub close_scans : Float → List Dot → List ℕ → List ℕ → List Bool
close_scans radius2 dots a b = map (close_at radius2 dots a b) (up_from 0 SCANS)

-- some scan is noted
abbrev pub any_close : List Bool → Bool
any_close close = any (λ (b : Bool). b) close

-- where the detection of an entry of a row lies; at NaN, which is near nothing, where there is none
unfoldable pub point_at : List Dot → ℕ → Point
point_at dots i = cond (eqb i 0) (record { x = nan; y = nan }) (record { x = (dot_at dots (i - 1)).x; y = (dot_at dots (i - 1)).y })

-- near_slots, by where the detections of the two entries lie
unfoldable pub near_points : Float → Point → Point → Bool
near_points radius2 d e = lt (square (d.x ⊖ e.x) ⊕ square (d.y ⊖ e.y)) radius2

-- close_slots, by where the detections of the four entries lie
abbrev pub close_points : Float → Point → Point → Point → Point → Bool
close_points radius2 x y nx ny = cond (near_points radius2 x y) true (cond (near_points radius2 x ny) true (near_points radius2 nx y))

-- rows are close in no scan outside of those from `from` up to `to`
pub record CloseWithin (radius2 : Float) (dots : List Dot) (a b : List ℕ) (from to : ℕ) : Type 0 where
  pub few : to ≤ SCANS
  pub before : (k : ℕ) → k < from → close_at radius2 dots a b k ≡ false
  pub after : (k : ℕ) → to ≤ k → close_at radius2 dots a b k ≡ false

-- the ranges of scans of two rows overlap or touch: each begins no later than one scan past the other's last
abbrev pub meets : Row → Row → Bool
meets a b = leb a.first b.end && leb b.first a.end

-- the row of entry i of a table
abbrev pub row_at : List Row → ℕ → List ℕ
row_at rows i = (get_or rows i no_row).slots

-- a row says where it begins and ends
pub record Entered (r : Row) : Type 0 where
  pub first : r.first ≡ first_in r.slots
  pub end : r.end ≡ end_from 0 0 r.slots

-- the scans in which two rows are close, if there is one
abbrev pub close_rows : Float → List Dot → Row → Row → Option (List Bool)
close_rows radius2 dots a b = let close = close_scans radius2 dots a.slots b.slots in then_some (meets a b && any_close close) close
