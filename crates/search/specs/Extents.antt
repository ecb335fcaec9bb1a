-- The extents of the rows that a pass lists, in a table along x and one along y. Definitions only.
use Rattle.std.specs.Prelude.{ℕ, ◌<◌, ◌≡◌, List, get_or}
use Rattle.std.specs.Float.{nan}
use Rattle.kf.specs.declared.filter.Dot.{Dot}
use Rattle.search_neighbours.specs.Extents.{extent_in}
use Rattle.search_neighbours.specs.Near.{row_at}
use Rattle.search_neighbours.specs.declared.extent.Extent.{Extent}
use Rattle.search_neighbours.specs.declared.extent.Span.{Span}
use Rattle.search_rows.specs.declared.rows.Row.{Row}

-- what stands past the end of a table of spans
abbrev pub span_past : Span
span_past = record { low = nan; high = nan }

-- the extent at place i
abbrev pub extent_at : List Span → List Span → ℕ → Extent
extent_at xs ys i = record { x = get_or xs i span_past; y = get_or ys i span_past }

-- those at the first n places are those of the rows there
pub record ExtentOfEach (dots : List Dot) (n : ℕ) (rows : List Row) (xs ys : List Span) : Type 0 where
  pub each : (i : ℕ) → i < n → extent_at xs ys i ≡ extent_in dots (row_at rows i)
