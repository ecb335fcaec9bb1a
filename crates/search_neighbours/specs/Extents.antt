-- Extents: within which bounds the detections of a row lie, and when two of them lie so far apart that their rows are
-- close in no scan. Definitions only.
use mathlib.Core.List.{foldl}
use Rattle.std.specs.Prelude.{ℕ, ◌-◌, ◌<◌, ◌≡◌, Bool, true, false, cond, ◌&&◌, ◌||◌, ltb, List, get_or, Float, from_bits}
use Rattle.std.specs.Float.{binary64, inf}
use Rattle.std.specs.Float.Ieee.{lt, le}
use Rattle.cost.specs.Cost.{dot_at}
use Rattle.fgo_spec.specs.Searching.{◌⊖◌, square}
use Rattle.kf.specs.declared.filter.Dot.{Dot}
use Rattle.search_neighbours.specs.declared.extent.Extent.{Extent}
use Rattle.search_neighbours.specs.declared.extent.Span.{Span}

-- a coordinate lies beyond neither end of a span; a NaN lies beyond no end of any
pub record InSpan (s : Span) (v : Float) : Type 0 where
  pub low : lt v s.low ≡ false
  pub high : lt s.high v ≡ false

-- an extent holds the detections of a row
pub record Encloses (dots : List Dot) (row : List ℕ) (e : Extent) : Type 0 where
  pub x : (k : ℕ) → 0 < get_or row k 0 → InSpan e.x (dot_at dots (get_or row k 0 - 1)).x
  pub y : (k : ℕ) → 0 < get_or row k 0 → InSpan e.y (dot_at dots (get_or row k 0 - 1)).y

-- a span with one coordinate more
abbrev pub widened : Span → Float → Span
widened s v = record { low = cond (lt v s.low) v s.low; high = cond (lt s.high v) v s.high }

-- an extent with one detection more
abbrev pub with_dot : Extent → Dot → Extent
with_dot e d = record { x = widened e.x d.x; y = widened e.y d.y }

-- the span of no coordinate
abbrev pub no_span : Span
no_span = record { low = inf false; high = inf true }

-- the extent of no detection
abbrev pub nowhere : Extent
nowhere = record { x = no_span; y = no_span }

-- an extent with the detection of an entry of a row more, if the entry has one
abbrev pub with_entry : List Dot → Extent → ℕ → Extent
with_entry dots e i = cond (ltb 0 i) (with_dot e (dot_at dots (i - 1))) e

-- the extent of a row's detections
unfoldable pub extent_in : List Dot → List ℕ → Extent
extent_in dots row = foldl (with_entry dots) nowhere row

-- a gap is as wide as the radius, or wider
abbrev pub is_wide : Float → Float → Bool
is_wide radius2 gap = le (from_bits binary64 0) gap && le radius2 (square gap)

-- one span begins so far after the other ends
abbrev pub are_apart : Float → Span → Span → Bool
are_apart radius2 s t = is_wide radius2 (s.low ⊖ t.high) || is_wide radius2 (t.low ⊖ s.high)

-- between two extents there is a gap, along x or along y, as wide as the radius
abbrev pub is_far : Float → Extent → Extent → Bool
is_far radius2 e f = are_apart radius2 e.x f.x || are_apart radius2 e.y f.y
