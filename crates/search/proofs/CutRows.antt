-- The cuts of a pair, read off its windows, are those of the scans noted for its rows. Assumes nothing.
use Prim.Native.Nat.{ℕ, zero, suc, ◌+◌, ◌-◌, ◌≤◌, ◌<◌}
use native.Mathlib.Decide.{dec_lt}
use native.Mathlib.Omega.{arith}
use mathlib.Core.Path.{◌≡◌, refl, sym, ap, ◌∙◌}
use mathlib.Core.Bool.{Bool, true, false, cond, ◌||◌}
use mathlib.Core.List.{List, [], ◌∷◌, ◌++◌, map, append-nil}
use lib.ListN.{length, get_or, get_or-eq_default}
use lib.Dec.{eqb}
use lib.Ieee.{Float}
use borrow.Author.Tests.{ne_eqb}
use Rattle.kf.specs.declared.filter.Dot.{Dot}
use Rattle.bounds.specs.Bounds.{SCANS, STARTS}
use Rattle.engine.specs.declared.config.FgoConfig.{FgoConfig}
use Rattle.engine.specs.Config.{radius}
use Rattle.fgo_spec.specs.Lists.{keep, any, up_from}
use Rattle.fgo_spec.specs.Windows.{Scan, Prefix, Detection, measure, window}
use Rattle.fgo_spec.specs.Searching.{close, is_cut, cuts, square}
use Rattle.fgo_spec.specs.Rule.{All}
use Rattle.fgo_spec.proofs.Counting.{keep_append, keep_const}
use Rattle.search_neighbours.specs.Near.{near_slots, close_at, close_scans}
use Rattle.search_pair.specs.Pair.{cut_at, cuts_of}
use Rattle.search.specs.Pass.{Scene, view_on, row_on, radius2_on, close_on}
use Rattle.fgo_spec.specs.Gathered.{put_back}
use Rattle.search_rows.proofs.Filled.{map_up_length, map_up_at}
use Rattle.search.proofs.Standing.{Held, scans_now, Standing, CutRows}
use Rattle.search_rows.proofs.RowSlots.{row-length, row_at}
use Rattle.search.proofs.WindowRows.{slot_empty, window-rows}
use Rattle.search.proofs.WindowDets.{map-keep}
use Rattle.search.proofs.CutTests.{cut_by, cut_tests}

-- ---- lists of numbers

up_from_lem : (n k m : ℕ) → up_from (n + k) m ≡ map (λ (j : ℕ). n + j) (up_from k m)
unfolding up_from
up_from_lem n k zero = refl
up_from_lem n k (suc m) =
    let q : suc (n + k) ≡ n + suc k = omega arith in
    ap (λ (l : List ℕ). (n + k) ∷ l) (ap (λ (i : ℕ). up_from i m) q ∙ up_from_lem n (suc k) m)

up_split : (k m n : ℕ) → up_from k (m + n) ≡ up_from k m ++ up_from (k + m) n
unfolding up_from
up_split k zero n = (λ i. up_from (let q : k ≡ k + 0 = omega arith in q i) (let q : 0 + n ≡ n = omega arith in q i))
up_split k (suc m) n =
    let p : suc m + n ≡ suc (m + n) = omega arith in
    let q : suc k + m ≡ k + suc m = omega arith in
    ap (up_from k) p ∙ ap (λ (l : List ℕ). k ∷ l) (up_split (suc k) m n ∙ ap (λ (i : ℕ). up_from (suc k) m ++ up_from i n) q)

up_All : (P : ℕ → Type 0) (k m : ℕ) → ((j : ℕ) → k ≤ j → P j) → All P (up_from k m)
unfolding up_from
up_All P k zero f = tt
up_All P k (suc m) f = (f k (omega arith), up_All P (suc k) m (λ j h. f j (omega arith)))

any-map : {A B : Type 0} (p : B → Bool) (f : A → B) (l : List A) → any (λ a. p (f a)) l ≡ any p (map f l)
unfolding any
any-map p f [] = refl
any-map p f (a ∷ l) = ap (λ (b : Bool). p (f a) || b) (any-map p f l)

-- ---- fgo_spec's test, on what the rows show

cut_dets : (c : FgoConfig) (first : ℕ) (ps : List (ℕ × Prefix)) (v w : List Detection) (g : ℕ) →
    is_cut c first ps v w g ≡ any (λ d. any (cut_by (square (radius c)) g d) (map (measure c) w)) (map (measure c) v)
unfolding is_cut close
cut_dets c first ps v w g =
    (λ i. any (λ d. any-map (cut_by (square (radius c)) g (measure c d)) (measure c) w i) v)
    ∙ any-map (λ d. any (cut_by (square (radius c)) g d) (map (measure c) w)) (measure c) v

-- ---- past the scans held

none_close : (radius2 : Float) (dots : List Dot) (ra rb : List ℕ) (k : ℕ) → get_or ra k 0 ≡ 0 → get_or rb k 0 ≡ 0 → close_at radius2 dots ra rb k ≡ false
unfolding close_at near_slots
none_close radius2 dots ra rb k a b = rw (a, b) (go (eqb (get_or ra (k + 1) 0) 0))
  where
    go : (t : Bool) → cond t false false ≡ false
    go true = refl
    go false = refl

back-length : (starts ids : List ℕ) (k : ℕ) (ss : List Scan) → length (put_back starts ids k ss) ≡ length ss
unfolding put_back
back-length starts ids k [] = refl
back-length starts ids k (s ∷ ss) = ap suc (back-length starts ids (suc k) ss)

row_past : (e : Scene) (ids : List ℕ) (x k : ℕ) → SCANS ≤ k → get_or (row_on e ids x) k 0 ≡ 0
row_past e ids x k h = get_or-eq_default (row_on e ids x) 0 {n = k} (omega (arith, row-length e.starts ids x))

module _ (e : Scene) (ss : List Scan) (ids : List ℕ) (held : Held e ss) where
  row-none : (x k : ℕ) → length ss ≤ k → get_or (row_on e ids x) k 0 ≡ 0
  row-none x k h = go (dec_lt k SCANS)
    where
      go : Dec (k < SCANS) → get_or (row_on e ids x) k 0 ≡ 0
      go (yes l) = row_at e.starts ids x k l ∙ slot_empty e.starts ids x k (held.empty k h l)
      go (no l) = row_past e ids x k (omega (arith, l))

  module _ (a b : ℕ) where
    abbrev scans_noted : List Bool
    scans_noted = close_on e (row_on e ids a) (row_on e ids b)

    abbrev noted : ℕ → Bool
    noted k = close_at (radius2_on e) e.dots (row_on e ids a) (row_on e ids b) k

    noted-at : (k : ℕ) → get_or scans_noted k false ≡ noted k
    unfolding close_scans
    noted-at k = go (dec_lt k SCANS)
      where
        go : Dec (k < SCANS) → get_or (map noted (up_from 0 SCANS)) k false ≡ noted k
        go (yes l) = map_up_at noted 0 SCANS k false l ∙ (let q : 0 + k ≡ k = omega arith in ap noted q)
        go (no l) =
            let h : SCANS ≤ k = omega (arith, l) in
            get_or-eq_default (map noted (up_from 0 SCANS)) false {n = k} (omega (arith, map_up_length noted 0 SCANS))
            ∙ sym (none_close (radius2_on e) e.dots (row_on e ids a) (row_on e ids b) k (row_past e ids a k h) (row_past e ids b k h))

    noted-none : (k : ℕ) → length ss ≤ k → get_or scans_noted k false ≡ false
    noted-none k h =
        noted-at k ∙ none_close (radius2_on e) e.dots (row_on e ids a) (row_on e ids b) k (row-none a k h) (row-none b k h)

    -- no cut past the scan after the last
    cut-none : (g : ℕ) → suc (length ss) ≤ g → cut_at scans_noted g ≡ false
    cut-none g h = rw (noted-none g (omega arith), noted-none (g - 1) (omega arith), ne_eqb g 0 (λ z. omega arith))

    all-cuts : keep (cut_at scans_noted) (up_from 0 (suc (length ss))) ≡ cuts_of scans_noted
    unfolding cuts_of
    all-cuts =
        let n = suc (length ss) in
        let w : n + (STARTS - n) ≡ STARTS = omega (arith, held.few) in
        let z : 0 + n ≡ n = omega arith in
        sym
        (ap (λ (i : ℕ). keep (cut_at scans_noted) (up_from 0 i)) (sym w)
        ∙ ap (keep (cut_at scans_noted)) (up_split 0 n (STARTS - n))
        ∙ keep_append (cut_at scans_noted) (up_from 0 n) (up_from (0 + n) (STARTS - n))
        ∙ ap (λ (l : List ℕ). keep (cut_at scans_noted) (up_from 0 n) ++ l)
        (keep_const false (cut_at scans_noted) (up_from (0 + n) (STARTS - n)) (up_All (λ g. cut_at scans_noted g ≡ false) (0 + n) (STARTS - n) (λ g h. cut-none g (omega arith))))
        ∙ append-nil (keep (cut_at scans_noted) (up_from 0 n)))

pub cut_rows : (e : Scene) (next : ℕ) (ps : List (ℕ × Prefix)) (ss : List Scan) (ids : List ℕ) → Standing e next ss ids → CutRows e next ps ss ids
unfolding cuts
cut_rows e next ps ss ids s a b ha hb =
    ap (λ (n : ℕ). keep test (up_from first (suc n))) (back-length e.starts ids 0 ss)
    ∙ ap (keep test) ((let q : first ≡ first + 0 = omega arith in ap (λ (n : ℕ). up_from n (suc (length ss))) q) ∙ up_from_lem first 0 (suc (length ss)))
    ∙ sym (map-keep (λ (k : ℕ). first + k) test (up_from 0 (suc (length ss))))
    ∙ ap (map (λ (k : ℕ). first + k)) ((λ i. keep (λ g. tests g i) (up_from 0 (suc (length ss)))) ∙ all-cuts e ss ids s.held a b)
  where
    first : ℕ
    first = e.hall.first.0

    test : ℕ → Bool
    test = is_cut e.hall.config e.hall.first.0 ps (window a e.hall.first.0 (scans_now e ss ids)) (window b e.hall.first.0 (scans_now e ss ids))

    tests : (g : ℕ) → test (first + g) ≡ cut_at (scans_noted e ss ids s.held a b) g
    tests g =
        cut_dets e.hall.config e.hall.first.0 ps (window a e.hall.first.0 (scans_now e ss ids)) (window b e.hall.first.0 (scans_now e ss ids)) (e.hall.first.0 + g)
        ∙ (λ i. any (λ d. any (cut_by (radius2_on e) (e.hall.first.0 + g) d) (window-rows e next ps ss ids s b hb i)) (window-rows e next ps ss ids s a ha i))
        ∙ cut_tests (view_on e) (radius2_on e) (row_on e ids a) (row_on e ids b) (scans_noted e ss ids s.held a b) (noted-at e ss ids s.held a b) g
