-- The tables of extents, place by place. Assumes nothing.
use Prim.Native.Nat.{ℕ, ◌+◌, ◌<◌}
use native.Mathlib.Decide.{ℕ_discrete}
use native.Mathlib.Omega.{arith}
use mathlib.Core.Path.{◌≡◌, ◌∙◌}
use mathlib.Core.List.{List}
use lib.ListN.{length, set}
use lib.Seq.{get_or-set_same, get_or-set_other}
use Rattle.kf.specs.declared.filter.Dot.{Dot}
use Rattle.search_neighbours.specs.Extents.{extent_in}
use Rattle.search_neighbours.specs.Near.{row_at}
use Rattle.search_neighbours.specs.declared.extent.Extent.{Extent}
use Rattle.search_neighbours.specs.declared.extent.Span.{Span}
use Rattle.search_rows.specs.declared.rows.Row.{Row}
use Rattle.search.specs.Extents.{span_past, extent_at, ExtentOfEach}

module _ {dots : List Dot} {rows : List Row} {xs ys : List Span} (n : ℕ) where
  -- one place more
  pub each_more : n < length xs → n < length ys → ExtentOfEach dots n rows xs ys → (e : Extent) → e ≡ extent_in dots (row_at rows n) →
      ExtentOfEach dots (n + 1) rows (set xs n e.x) (set ys n e.y)
  each_more a b o e h = record { each = λ i g. at i g (ℕ_discrete i n) }
    where
      at : (i : ℕ) → i < n + 1 → Dec (i ≡ n) → extent_at (set xs n e.x) (set ys n e.y) i ≡ extent_in dots (row_at rows i)
      at i g (yes q) = rw q ((λ k. record { x = get_or-set_same xs n e.x span_past a k; y = get_or-set_same ys n e.y span_past b k }) ∙ h)
      at i g (no q) = (λ k. record { x = get_or-set_other xs n i e.x span_past q k; y = get_or-set_other ys n i e.y span_past q k }) ∙ o.each i (omega arith)
