-- Two rows that are close in a scan meet: each begins no later than the other ends. So the entries of a table say which
-- are close as the rows do, and outside of which scans they are not. Assumes nothing.
use Prim.Native.Nat.{ℕ, ◌-◌, ◌≤◌, ◌<◌, max, min}
use native.Mathlib.Nat.{le_refl}
use native.Mathlib.Omega.{arith}
use mathlib.Core.Path.{◌≡◌, refl, sym, ap, ◌∙◌, subst}
use mathlib.Core.Logic.{◌⊎◌, inl, inr}
use mathlib.Core.Bool.{Bool, true, false, ◌&&◌}
use mathlib.Core.List.{List, [], ◌∷◌, map}
use lib.ListN.{length, get_or}
use lib.Dec.{T, leb}
use lib.Ieee.{Float}
use mir.Facts.{or_yes}
use borrow.Author.Tests.{le-leb}
use Rattle.search_rows.specs.declared.rows.Row.{Row}
use Rattle.kf.specs.declared.filter.Dot.{Dot}
use Rattle.bounds.specs.Bounds.{SCANS}
use Rattle.fgo_spec.specs.Lists.{any, up_from}
use Rattle.search_rows.specs.Rows.{row_of, first_in, end_from, no_row, Tabled}
use Rattle.search_neighbours.specs.Near.{close_at, close_scans, any_close, meets, row_at, CloseWithin, Entered}
use Rattle.search_rows.proofs.RowEnds.{first_by, end_past, end_by}
use Rattle.search.proofs.CutTests.{same_answer, Meet, close_meet, near_some}

-- ---- two rows that are close in a scan

module _ (radius2 : Float) (dots : List Dot) (a b : List ℕ) where
  any-meet : (l : List ℕ) → T (any_close (map (close_at radius2 dots a b) l)) → (k : ℕ) × Meet dots radius2 a b k
  unfolding any
  any-meet [] t = absurd t
  any-meet (k ∷ l) t = go (or_yes (close_at radius2 dots a b k) (any_close (map (close_at radius2 dots a b) l)) t) (any-meet l)
    where
      go : T (close_at radius2 dots a b k) ⊎ T (any_close (map (close_at radius2 dots a b) l)) → (T (any_close (map (close_at radius2 dots a b) l)) → (k : ℕ) × Meet dots radius2 a b k) → (k : ℕ) × Meet dots radius2 a b k
      go (inl h) r = (k, close_meet dots radius2 a b k h)
      go (inr h) r = r h

  -- near detections stand in each row from its first scan on and before its end
  meet-ends : {k : ℕ} (m : Meet dots radius2 a b k) → (first_in a ≤ m.i) × (first_in b ≤ m.j) × (m.i < end_from 0 0 a) × (m.j < end_from 0 0 b)
  meet-ends m =
      let s = near_some radius2 dots (get_or a m.i 0) (get_or b m.j 0) m.by in
      let mine : 0 < get_or a m.i 0 = omega (arith, s.2) in
      let theirs : 0 < get_or b m.j 0 = omega (arith, s.3) in
      (first_by a m.i mine, first_by b m.j theirs, omega (arith, end_past 0 0 a m.i (le_refl 0) mine), omega (arith, end_past 0 0 b m.j (le_refl 0) theirs))

  -- the rows meet where they are close
  close-meets : any_close (close_scans radius2 dots a b) ≡ true → (leb (first_in a) (end_from 0 0 b) && leb (first_in b) (end_from 0 0 a)) ≡ true
  unfolding close_scans
  close-meets h =
      let m = (any-meet (up_from 0 SCANS) (subst T (sym h) tt)).1 in
      let e = meet-ends m in
      rw (le-leb (first_in a) (end_from 0 0 b) (omega (arith, e.0, e.3, m.left)), le-leb (first_in b) (end_from 0 0 a) (omega (arith, e.1, e.2, m.right)))

  -- they are close nowhere before the later beginning but in the scan before it, and nowhere from the earlier end on
  close-within : {from to : ℕ} → from ≡ max (first_in a) (first_in b) - 1 → to ≡ min (end_from 0 0 a) (end_from 0 0 b) → length a ≤ SCANS → CloseWithin radius2 dots a b from to
  close-within f t l =
      record {
        few = omega (arith, end_by a);
        before = λ k h. same_answer (close_at radius2 dots a b k) false (λ c. let m = close_meet dots radius2 a b k c in let e = meet-ends m in omega (arith, e.0, e.1, m.low, m.left, m.right)) absurd;
        after = λ k h. same_answer (close_at radius2 dots a b k) false (λ c. let m = close_meet dots radius2 a b k c in let e = meet-ends m in omega (arith, e.2, e.3, m.low)) absurd;
      }

-- ---- the entries of a table

module _ {starts ids table : List ℕ} {rows : List Row} {n : ℕ} (t : Tabled starts ids table n rows) (i : ℕ) (h : i < n) where
  pub table_row : row_at rows i ≡ row_of starts ids (get_or table i 0)
  table_row = ap (λ (r : Row). r.slots) (t.each i h)

  table-first : (get_or rows i no_row).first ≡ first_in (row_of starts ids (get_or table i 0))
  table-first = ap (λ (r : Row). r.first) (t.each i h)

  table-end : (get_or rows i no_row).end ≡ end_from 0 0 (row_of starts ids (get_or table i 0))
  table-end = ap (λ (r : Row). r.end) (t.each i h)

no_more : (m b : Bool) → (b ≡ true → m ≡ true) → (m && b) ≡ b
no_more m true h = rw (h refl)
no_more true false h = refl
no_more false false h = refl

-- the entries of a table are close just where the rows are
pub table_close :
    {starts is table : List ℕ} {rows : List Row} {n : ℕ} (radius2 : Float) (dots : List Dot) → Tabled starts is table n rows → (i j : ℕ) → i < n → j < n →
    (meets (get_or rows i no_row) (get_or rows j no_row) && any_close (close_scans radius2 dots (row_at rows i) (row_at rows j)))
    ≡ any_close (close_scans radius2 dots (row_of starts is (get_or table i 0)) (row_of starts is (get_or table j 0)))
table_close {starts} {is} {table} {rows} radius2 dots t i j h g =
    let a = row_of starts is (get_or table i 0) in
    let b = row_of starts is (get_or table j 0) in
    (λ k. (leb (table-first t i h k) (table-end t j g k) && leb (table-first t j g k) (table-end t i h k)) && any_close (close_scans radius2 dots (table_row t i h k) (table_row t j g k)))
    ∙ no_more (leb (first_in a) (end_from 0 0 b) && leb (first_in b) (end_from 0 0 a)) (any_close (close_scans radius2 dots a b)) (close-meets radius2 dots a b)

-- ---- what is found of two rows

module _ (radius2 : Float) (dots : List Dot) (a b : Row) where
  pub rows-within : {from to : ℕ} → Entered a → Entered b → from ≡ max a.first b.first - 1 → to ≡ min a.end b.end → length a.slots ≤ SCANS → CloseWithin radius2 dots a.slots b.slots from to
  rows-within x y f t few = close-within radius2 dots a.slots b.slots (f ∙ (λ m. max (x.first m) (y.first m) - 1)) (t ∙ (λ m. min (x.end m) (y.end m))) few
