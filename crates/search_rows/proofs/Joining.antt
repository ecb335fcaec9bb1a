-- The rows of the first detections, and of one more. Assumes nothing.
use Prim.Native.Nat.{ℕ, zero, suc, ◌+◌, ◌-◌, ◌≤◌, ◌<◌, min, max}
use native.Mathlib.Nat.{le_refl, le_antisymm}
use native.Mathlib.Numerals.{add-one}
use native.Mathlib.Decide.{ℕ_discrete, dec_lt}
use native.Mathlib.Omega.{arith}
use mathlib.Core.Path.{◌≡◌, refl, sym, ap, ◌∙◌, subst}
use mathlib.Core.Bool.{Bool, true, false, cond}
use mathlib.Core.List.{List, [], ◌∷◌, ◌++◌}
use lib.ListN.{length, get_or, take, drop, set, length-set, length-take, replicate, get_or-replicate, drop_of_length-le}
use lib.Seq.{ext_get_or, get_or-set_same, get_or-set_other, get_or-take, length-take-le, take_all, take-take, take-nil}
use lib.Dec.{T, eqb, ltb, lt→ltb}
use borrow.Author.Tests.{eq-eqb, ne_eqb, lt-ltb}
use mir.Facts.{yes_and}
use Rattle.bounds.specs.Bounds.{DETECTIONS, SCANS}
use Rattle.fgo_spec.specs.Lists.{any, has, keep, segment, place_in}
use Rattle.fgo_spec.specs.Gathered.{column_at}
use Rattle.fgo_spec.proofs.Spreads.{above}
use Rattle.fgo_spec.proofs.Counting.{has-sort, has-keep}
use Rattle.fgo_spec.proofs.Having.{has_at}
use Rattle.std.proofs.lemmas.Float.{T_from_true}
use Rattle.search_rows.specs.declared.rows.Row.{Row}
use Rattle.search_rows.specs.Rows.{Starts, Ascends, slot_in, row_entry, row_of, row_with, first_in, end_from, entry_of, no_row, present_in, Tabled, Begins}
use Rattle.search_rows.proofs.Segments.{segment_cut, segment-more, length-segment}
use Rattle.search_rows.proofs.Renamed.{starts_ordered, starts_within}
use Rattle.search_rows.proofs.RowSlots.{row-length, row_at}
use Rattle.search_rows.proofs.IdsAscend.{present_ascends, ascends_above, ascends_rises, ascends_place}
use Rattle.search_rows.proofs.RowEnds.{end_past, end_empty, end-under}

-- ---- a row with one entry more

pub first_set : (r : List ℕ) (k v : ℕ) → k < length r → 0 < v → first_in (set r k v) ≡ min (first_in r) k
unfolding first_in
first_set [] k v h p = absurd (omega arith)
first_set (x ∷ r) zero v h p = rw (lt-ltb 0 v p) (omega arith)
first_set (x ∷ r) (suc k) v h p = go (ltb 0 x) (first_set r k v (omega arith) p)
  where
    go : (b : Bool) → first_in (set r k v) ≡ min (first_in r) k → cond b 0 (suc (first_in (set r k v))) ≡ min (cond b 0 (suc (first_in r))) (suc k)
    go true q = omega arith
    go false q = omega arith

pub end_set : (r : List ℕ) (k v : ℕ) → k < length r → 0 < v → end_from 0 0 (set r k v) ≡ max (end_from 0 0 r) (k + 1)
end_set r k v h p = le_antisymm most least
  where
    here : get_or (set r k v) k 0 ≡ v
    here = get_or-set_same r k v 0 h

    past : suc k ≤ end_from 0 0 (set r k v)
    past = omega (arith, end_past 0 0 (set r k v) k (le_refl 0) (omega (arith, here)))

    most : end_from 0 0 (set r k v) ≤ max (end_from 0 0 r) (k + 1)
    most = end-under 0 0 (max (end_from 0 0 r) (k + 1)) (set r k v) (omega arith) (λ j g. omega (arith, get_or-set_other r k j v 0 (λ e. omega arith), end_empty r j (omega arith)))

    least : max (end_from 0 0 r) (k + 1) ≤ end_from 0 0 (set r k v)
    least =
        omega (
          arith,
          past,
          end-under 0 0 (end_from 0 0 (set r k v)) r (omega arith) (λ j g. omega (arith, past, get_or-set_other r k j v 0 (λ e. omega (arith, past)), end_empty (set r k v) j (omega arith))),
        )

-- ---- one detection more

slot_snoc : (x n : ℕ) (l : List ℕ) (y : ℕ) → slot_in x n (l ++ (y ∷ [])) ≡ cond (ltb 0 (slot_in x n l)) (slot_in x n l) (cond (eqb x y) (suc (n + length l)) 0)
unfolding slot_in
slot_snoc x n [] y = ap (λ (m : ℕ). cond (eqb x y) (suc m) 0) (omega arith)
slot_snoc x n (z ∷ l) y = go (eqb x z) (slot_snoc x (suc n) l y)
  where
    q : suc n + length l ≡ n + suc (length l)
    q = omega arith

    go : (b : Bool) → slot_in x (suc n) (l ++ (y ∷ [])) ≡ cond (ltb 0 (slot_in x (suc n) l)) (slot_in x (suc n) l) (cond (eqb x y) (suc (suc n + length l)) 0) →
        cond b (suc n) (slot_in x (suc n) (l ++ (y ∷ []))) ≡ cond (ltb 0 (cond b (suc n) (slot_in x (suc n) l))) (cond b (suc n) (slot_in x (suc n) l)) (cond (eqb x y) (suc (n + suc (length l))) 0)
    go true h = sym (rw (above n) refl)
    go false h = h ∙ ap (λ (m : ℕ). cond (ltb 0 (slot_in x (suc n) l)) (slot_in x (suc n) l) (cond (eqb x y) (suc m) 0)) q

module _ {starts : List ℕ} (s : Starts starts) (ids : List ℕ) (long : length ids ≡ DETECTIONS) where
  -- the columns of the first m detections: of a scan that ends no later, and of one that begins no earlier
  column-whole : (m j : ℕ) → get_or starts (suc j) 0 ≤ m → column_at starts (take m ids) j ≡ column_at starts ids j
  column-whole m j h =
      let a = get_or starts j 0 in
      let b = get_or starts (suc j) 0 in
      segment_cut a b (take m ids) ∙ ap (drop a) (take-take b m ids h) ∙ sym (segment_cut a b ids)

  column-none : (m j : ℕ) → m ≤ get_or starts j 0 → column_at starts (take m ids) j ≡ []
  column-none m j h =
      let a = get_or starts j 0 in
      let b = get_or starts (suc j) 0 in
      ap (take (b - a)) (drop_of_length-le (take m ids) {i = a} (omega (arith, length-take m ids))) ∙ take-nil (b - a)

  -- and of the one that it lies in
  column-part : (m j : ℕ) → m ≤ get_or starts (suc j) 0 → column_at starts (take m ids) j ≡ segment (get_or starts j 0) m ids
  column-part m j h =
      let a = get_or starts j 0 in
      let b = get_or starts (suc j) 0 in
      segment_cut a b (take m ids) ∙ ap (drop a) (take_all b (take m ids) (omega (arith, length-take m ids))) ∙ sym (segment_cut a m ids)

  row_ext : (js : List ℕ) (x : ℕ) (r : List ℕ) → length r ≡ SCANS → ((k : ℕ) → k < SCANS → row_entry starts js x k ≡ get_or r k 0) → row_of starts js x ≡ r
  row_ext js x r l f = ext_get_or 0 (row_of starts js x) r (row-length starts js x ∙ sym l) (λ k h. row_at starts js x k (omega (arith, row-length starts js x)) ∙ f k (omega (arith, row-length starts js x)))

  -- before the first none has a detection
  pub row_none : (x : ℕ) → row_of starts (take (get_or starts 0 0) ids) x ≡ replicate SCANS 0
  unfolding slot_in
  row_none x =
      row_ext (take (get_or starts 0 0) ids) x (replicate SCANS 0) refl
      (λ k h. ap (slot_in x (get_or starts k 0)) (column-none (get_or starts 0 0) k (starts_ordered s 0 k (omega arith) (omega arith))) ∙ sym (get_or-replicate SCANS k 0 0 h))

  -- with the last one it is the row
  pub row_whole : (x : ℕ) → row_of starts (take (get_or starts SCANS 0) ids) x ≡ row_of starts ids x
  row_whole x =
      row_ext (take (get_or starts SCANS 0) ids) x (row_of starts ids x) (row-length starts ids x)
      (λ k h. ap (slot_in x (get_or starts k 0)) (column-whole (get_or starts SCANS 0) k (starts_ordered s (suc k) SCANS h (omega arith))) ∙ sym (row_at starts ids x k h))

  module _ (k i : ℕ) (h : k < SCANS) (from : get_or starts k 0 ≤ i) (to : i < get_or starts (suc k) 0) (x : ℕ) where
    abbrev before : List ℕ
    before = row_of starts (take i ids) x

    entry-other : (j : ℕ) → j < SCANS → (j ≡ k → ⊥) → row_entry starts (take (i + 1) ids) x j ≡ row_entry starts (take i ids) x j
    entry-other j g n = ap (slot_in x (get_or starts j 0)) (go (dec_lt j k))
      where
        go : Dec (j < k) → column_at starts (take (i + 1) ids) j ≡ column_at starts (take i ids) j
        go (yes l) = let e = starts_ordered s (suc j) k l (omega arith) in column-whole (i + 1) j (omega arith) ∙ sym (column-whole i j (omega arith))
        go (no l) = let e = starts_ordered s (suc k) j (omega arith) (omega arith) in column-none (i + 1) j (omega arith) ∙ sym (column-none i j (omega arith))

    entry-here : row_entry starts (take (i + 1) ids) x k ≡ cond (ltb 0 (row_entry starts (take i ids) x k)) (row_entry starts (take i ids) x k) (cond (eqb x (get_or ids i 0)) (suc i) 0)
    entry-here =
        let a = get_or starts k 0 in
        let l : a + length (segment a i ids) ≡ i = omega (arith, length-segment a i ids (omega (arith, starts_within s (suc k) h))) in
        let c : segment a i ids ≡ column_at starts (take i ids) k = sym (column-part i k (omega arith)) in
        ap (slot_in x a) (column-part (i + 1) k (omega arith) ∙ segment-more a i ids 0 from (omega (arith, starts_within s (suc k) h)))
        ∙ slot_snoc x a (segment a i ids) (get_or ids i 0)
        ∙ (λ z. cond (ltb 0 (slot_in x a (c z))) (slot_in x a (c z)) (cond (eqb x (get_or ids i 0)) (suc (l z)) 0))

    row-is : (r : List ℕ) → length r ≡ SCANS → ((j : ℕ) → j < SCANS → (j ≡ k → ⊥) → get_or r j 0 ≡ row_entry starts (take i ids) x j) → get_or r k 0 ≡ row_entry starts (take (i + 1) ids) x k →
        row_of starts (take (i + 1) ids) x ≡ r
    row-is r l o e = row_ext (take (i + 1) ids) x r l (λ j g. go j g (ℕ_discrete j k))
      where
        go : (j : ℕ) → j < SCANS → Dec (j ≡ k) → row_entry starts (take (i + 1) ids) x j ≡ get_or r j 0
        go j g (yes q) = ap (row_entry starts (take (i + 1) ids) x) q ∙ sym e ∙ ap (λ (j : ℕ). get_or r j 0) (sym q)
        go j g (no q) = entry-other j g q ∙ sym (o j g q)

    size : length before ≡ SCANS
    size = row-length starts (take i ids) x

    at : (j : ℕ) → j < SCANS → get_or before j 0 ≡ row_entry starts (take i ids) x j
    at j g = row_at starts (take i ids) x j g

    -- that of another id stays
    pub row_stays : (x ≡ get_or ids i 0 → ⊥) → row_of starts (take (i + 1) ids) x ≡ before
    row_stays n = row-is before size (λ j g d. at j g) (at k h ∙ sym (entry-here ∙ rw (ne_eqb x (get_or ids i 0) n) (go (row_entry starts (take i ids) x k))))
      where
        go : (e : ℕ) → cond (ltb 0 e) e 0 ≡ e
        go zero = refl
        go (suc e) = rw (above e) refl

    -- its own has it
    pub row_joins : x ≡ get_or ids i 0 → row_of starts (take (i + 1) ids) x ≡ row_with before k i
    row_joins q = go (ltb 0 (get_or before k 0)) (entry-here ∙ rw (eq-eqb x (get_or ids i 0) q, sym (at k h)) refl)
      where
        go : (b : Bool) → row_entry starts (take (i + 1) ids) x k ≡ cond b (get_or before k 0) (suc i) → row_of starts (take (i + 1) ids) x ≡ cond b before (set before k (suc i))
        go true e = row-is before size (λ j g d. at j g) (sym e)
        go false e =
            row-is (set before k (suc i)) (length-set before k (suc i) ∙ size) (λ j g d. get_or-set_other before k j (suc i) 0 d ∙ at j g)
            (get_or-set_same before k (suc i) 0 (omega (arith, size)) ∙ sym e)

-- ---- the table

-- an entry of a table is that of its places
pub entry-whole : {starts ids table : List ℕ} {n : ℕ} {rows : List Row} → Tabled starts ids table n rows → (p : ℕ) → p < n → get_or rows p no_row ≡ entry_of (get_or rows p no_row).slots
entry-whole t p h = t.each p h ∙ sym (ap (λ (r : Row). entry_of r.slots) (t.each p h))

module _ {starts : List ℕ} (s : Starts starts) (ids : List ℕ) (long : length ids ≡ DETECTIONS) {n : ℕ} {table : List ℕ} (b : Begins (present_in (get_or starts SCANS 0) ids) n table) where
  pub listed_ascends : Ascends 0 (take n table)
  listed_ascends = subst (Ascends 0) (sym b.is) (present_ascends (get_or starts SCANS 0) ids)

  size-listed : length (take n table) ≡ n
  size-listed = length-take-le n table (omega (arith, b.within, b.long))

  listed-at : (j : ℕ) → j < n → get_or (take n table) j 0 ≡ get_or table j 0
  listed-at j h = get_or-take n table j 0 h

  module _ {k i : ℕ} (l : k < SCANS) (from : get_or starts k 0 ≤ i) (upto : i < get_or starts (k + 1) 0) where
    to : i < get_or starts (suc k) 0
    to = subst (λ (m : ℕ). i < get_or starts m 0) (add-one k) upto

    -- clutter joins no row
    pub table_stays : get_or ids i 0 ≤ 0 → {rows : List Row} → Tabled starts (take i ids) table n rows → Tabled starts (take (i + 1) ids) table n rows
    table_stays z t =
        record {
          long = t.long;
          each = λ j g.
              t.each j g
              ∙ ap entry_of (sym (row_stays s ids long k i l from to (get_or table j 0) (λ e. omega (arith, listed-at j g, ascends_above 0 (take n table) listed_ascends j (omega (arith, size-listed))))));
        }

    -- an id stands in the table, at its place
    module _ {p : ℕ} (above : 0 < get_or ids i 0) (is : p ≡ place_in (get_or ids i 0) (take n table)) where
      stands : (p < n) × (get_or table p 0 ≡ get_or ids i 0)
      unfolding present_in
      stands =
          let x = get_or ids i 0 in
          let m = get_or starts SCANS 0 in
          let h : i < m = omega (arith, to, starts_ordered s (suc k) SCANS l (omega arith)) in
          let t : T (has x (take m ids)) = subst (λ y. T (has y (take m ids))) (get_or-take m ids i 0 h) (T_from_true _ (has_at (get_or (take m ids) i 0) (take m ids) i (omega (arith, h, length-take-le m ids (omega (arith, s.ends)))) refl)) in
          let u : T (has x (take n table)) =
          rw (b.is, has-sort x (keep (ltb 0) (take m ids)), has-keep (ltb 0) x (take m ids)) (yes_and (ltb 0 x) (has x (take m ids)) (lt→ltb 0 x above) t) in
          let q = ascends_place 0 x (take n table) listed_ascends u in
          (omega (arith, q.0, size-listed), sym (listed-at p (omega (arith, q.0, size-listed))) ∙ ap (λ (k : ℕ). get_or (take n table) k 0) is ∙ q.1)

      pub place_listed : p < n
      place_listed = stands.0

      apart : (j : ℕ) → j < n → (j ≡ p → ⊥) → get_or table j 0 ≡ get_or ids i 0 → ⊥
      apart j g d e = go (dec_lt j p) (dec_lt p j)
        where
          rises : (a c : ℕ) → a < c → c < n → get_or table a 0 < get_or table c 0
          rises a c l m = omega (arith, listed-at a (omega arith), listed-at c m, ascends_rises 0 (take n table) listed_ascends a c l (omega (arith, size-listed)))

          go : Dec (j < p) → Dec (p < j) → ⊥
          go (yes l) r = omega (arith, rises j p l stands.0, stands.1)
          go (no l) (yes r) = omega (arith, rises p j r g, stands.1)
          go (no l) (no r) = d (omega (arith, l, r))

      pub table_joins :
          {rows : List Row} → Tabled starts (take i ids) table n rows → (r : Row) → r ≡ entry_of (row_with (get_or rows p no_row).slots k i) →
          Tabled starts (take (i + 1) ids) table n (set rows p r)
      table_joins {rows} t r q = record { long = length-set rows p r ∙ t.long; each = λ j g. go j g (ℕ_discrete j p) }
        where
          go : (j : ℕ) → j < n → Dec (j ≡ p) → get_or (set rows p r) j no_row ≡ entry_of (row_of starts (take (i + 1) ids) (get_or table j 0))
          go j g (yes e) =
              ap (λ (j : ℕ). get_or (set rows p r) j no_row) e
              ∙ get_or-set_same rows p r no_row (omega (arith, stands.0, b.within, t.long))
              ∙ q
              ∙ ap (λ (r : Row). entry_of (row_with r.slots k i)) (t.each p stands.0)
              ∙ ap entry_of (sym (row_joins s ids long k i l from to (get_or table p 0) stands.1))
              ∙ ap (λ (j : ℕ). entry_of (row_of starts (take (i + 1) ids) (get_or table j 0))) (sym e)
          go j g (no d) = get_or-set_other rows p j r no_row d ∙ t.each j g ∙ ap entry_of (sym (row_stays s ids long k i l from to (get_or table j 0) (apart j g d)))

-- ---- all of them

module _ {starts : List ℕ} (s : Starts starts) (ids : List ℕ) (long : length ids ≡ DETECTIONS) {table : List ℕ} {n : ℕ} {rows : List Row} where
  pub table_empty : length rows ≡ DETECTIONS → ((j : ℕ) → j < n → get_or rows j no_row ≡ record { slots = replicate SCANS 0; first = SCANS; end = 0 }) → Tabled starts (take (get_or starts 0 0) ids) table n rows
  unfolding first_in end_from
  table_empty l e = record { long = l; each = λ j g. e j g ∙ ap entry_of (sym (row_none s ids long (get_or table j 0))) }

  pub table_whole : Tabled starts (take (get_or starts SCANS 0) ids) table n rows → Tabled starts ids table n rows
  table_whole t = record { long = t.long; each = λ j g. t.each j g ∙ ap entry_of (row_whole s ids long (get_or table j 0)) }
