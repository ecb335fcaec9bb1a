-- The ids put back into the columns of the held scans, scan by scan. Assumes nothing.
use Prim.Native.Nat.{ℕ, suc, ◌+◌, ◌*◌, ◌≤◌, ◌<◌}
use native.Mathlib.Nat.{add-zero, mod-lt}
use native.Mathlib.Numerals.{add-one}
use native.Mathlib.Omega.{arith}
use mathlib.Core.Path.{◌≡◌, refl, sym, ap, ◌∙◌}
use mathlib.Core.Bool.{Bool, true, false}
use mathlib.Core.List.{List, [], ◌∷◌, ◌++◌, flat_map}
use lib.ListN.{length, take, drop, get_or}
use lib.Seq.{drop-drop}
use lib.Dec.{leb}
use borrow.Author.Tests.{leb-true, leb-false}
use Rattle.bounds.specs.Bounds.{SCANS, ASSOCIATIONS, BODY, DETECTIONS, COLUMN, COLUMNS}
use Rattle.engine.specs.Body.{Body, body, frame_in, associations_in, rows}
use Rattle.engine.proofs.Passing.{length-rows, row_at}
use Rattle.buffers.specs.Buffers.{over}
use Rattle.fgo_spec.specs.Lists.{keep}
use Rattle.fgo_spec.specs.Windows.{Scan, in_windows, window_count}
use Rattle.fgo_spec.proofs.Windows.{detections_cons}
use Rattle.fgo_spec.specs.Gathered.{spread}
use Rattle.fgo_part.specs.Parts.{cells}
use Rattle.fgo_state.specs.Memory.{slot_at, length_in, kind_in, bytes_at, body_at, id_at, scan_in, scans_in}
use Rattle.fgo_state.specs.Contents.{ids_put}
use Rattle.fgo_state.specs.Gathering.{count_in, HeldScans, ScatteredScan, spread_all, Scattered}
use Rattle.fgo_spec.proofs.Rows.{rows_more, rows_same}
use Rattle.fgo_state.proofs.Counts.{associations_few}
use Rattle.fgo_state.proofs.Detections.{found_more}
use Rattle.fgo_state.proofs.GatheringHeld.{found_one, found_count, found_room}
use Rattle.fgo_state.proofs.OtherSlots.{WithinSlot, id_else, scans_else}
use Rattle.fgo_state.proofs.ScatteringScan.{column-cells}
use Rattle.buffers.proofs.Agreeing.{over_told}

-- one scan more
spread_all-more : (ss : List Scan) (s : Scan) (xs : List ℕ) → spread_all (ss ++ (s ∷ [])) xs ≡ spread_all ss xs ++ (record { frame = s.frame; ids = spread s.ids (drop (window_count ss) xs) } ∷ [])
unfolding spread_all
spread_all-more [] s xs = unfold flat_map in unfold keep in refl
spread_all-more (t ∷ ss) s xs =
    ap (λ (l : List Scan). record { frame = t.frame; ids = spread t.ids xs } ∷ l)
    (spread_all-more ss s (drop (in_windows t.ids) xs)
    ∙ ap (λ (l : List ℕ). spread_all ss (drop (in_windows t.ids) xs) ++ (record { frame = s.frame; ids = spread s.ids l } ∷ []))
    (drop-drop (window_count ss) (in_windows t.ids) xs ∙ ap (λ (n : ℕ). drop n xs) (sym (detections_cons t ss))))

-- the ids of one scan more in their column
ids_put-more : (n : ℕ) (ss : List Scan) (s : Scan) (cs : List ℕ) → ids_put n (ss ++ (s ∷ [])) cs ≡ over (COLUMN * slot_at (n + length ss) + 1) s.ids (ids_put n ss cs)
unfolding ids_put
ids_put-more n [] s cs = ap (λ (k : ℕ). over (COLUMN * slot_at k + 1) s.ids cs) (sym (add-zero n))
ids_put-more n (t ∷ ss) s cs =
    let e : suc n + length ss ≡ n + suc (length ss) = omega arith in
    let cs' = over (COLUMN * slot_at n + 1) t.ids cs in
    ids_put-more (suc n) ss s cs' ∙ ap (λ (k : ℕ). over (COLUMN * slot_at k + 1) s.ids (ids_put (suc n) ss cs')) e

as_many : (ss : List Scan) (xs : List ℕ) → length (spread_all ss xs) ≡ length ss
unfolding spread_all
as_many [] xs = refl
as_many (s ∷ ss) xs = ap suc (as_many ss (drop (in_windows s.ids) xs))

-- ---- what putting back the ids of one scan leaves as it was

module _ {n m o : ℕ} {ids cs cs' : List ℕ} (few : m ≤ ASSOCIATIONS) (w : ScatteredScan n m o ids cs cs') where
  kept-cell : (x : ℕ) → (COLUMN * slot_at n < x → x < COLUMN * slot_at n + (1 + m) → ⊥) → get_or cs' x 0 ≡ get_or cs x 0
  kept-cell x d = go (leb x (COLUMN * slot_at n)) refl
    where
      go : (b : Bool) → leb x (COLUMN * slot_at n) ≡ b → get_or cs' x 0 ≡ get_or cs x 0
      go true e = w.before x (leb-true x (COLUMN * slot_at n) e)
      go false e = let f = d (leb-false x (COLUMN * slot_at n) e) in w.after x (omega arith)

  -- every body
  kept-body : (bodies : List ℕ) (l : ℕ) → body_at bodies cs' l ≡ body_at bodies cs l
  unfolding bytes_at
  kept-body bodies l = ap (λ (h : ℕ). body (kind_in h) (take (length_in h) (drop (BODY * slot_at l) bodies))) (kept-cell (COLUMN * slot_at l) (λ a b. omega arith))

  -- every other slot
  in_slot : (bodies : List ℕ) → WithinSlot n bodies cs bodies cs'
  in_slot bodies = record { long = refl; bytes = λ i d. refl; words = λ i d. kept-cell i (λ a b. d (omega arith) (omega arith)) }

  -- and every cell but those of the ids
  ids-over : length cs ≡ COLUMNS → cs' ≡ over (COLUMN * slot_at n + 1) (spread (rows (id_at cs n) 0 m) (drop o ids)) cs
  ids-over wide =
      let a : ℕ = COLUMN * slot_at n + 1 in
      let slot : slot_at n < SCANS = mod-lt n (omega arith) in
      let told : spread (rows (id_at cs n) 0 m) (drop o ids) ≡ cells 0 cs' a m = sym w.column ∙ column-cells cs' n m few in
      let long : length (cells 0 cs' a m) ≡ m = length-rows (λ i. get_or cs' (a + i) 0) 0 m in
      over_told 0 a (cells 0 cs' a m) cs cs' (omega arith) w.long (λ i h. sym (row_at (λ j. get_or cs' (a + j) 0) m i 0 (omega arith)))
      (λ i h. kept-cell i (λ x y. h (omega arith) (omega arith)))
      ∙ ap (λ (g : List ℕ). over a g cs) (sym told)

-- ---- a loop that puts ids back stands at scan k

pub record ScattersHeld (bodies : List ℕ) (first held k p : ℕ) (ids cs cs' : List ℕ) : Type 0 where
  pub place : p ≡ window_count (scans_in bodies cs first k)
  pub long : length cs' ≡ length cs
  pub scans : scans_in bodies cs' first k ≡ spread_all (scans_in bodies cs first k) ids
  pub same : (l : ℕ) → body_at bodies cs' l ≡ body_at bodies cs l
  pub later : (i : ℕ) → k ≤ i → i < held → (j : ℕ) → id_at cs' (first + i) j ≡ id_at cs (first + i) j
  pub put : cs' ≡ ids_put first (spread_all (scans_in bodies cs first k) ids) cs

module _ (bodies : List ℕ) (first : ℕ) (ids cs : List ℕ) {held : ℕ} (h : HeldScans bodies cs first held) where
  pub scatters_held_none : ScattersHeld bodies first held 0 0 ids cs cs
  unfolding rows spread_all ids_put flat_map keep
  scatters_held_none = record { place = refl; long = refl; scans = refl; same = λ l. refl; later = λ i a b j. refl; put = refl }

  module _ {k p m : ℕ} {cs' : List ℕ} (g : ScattersHeld bodies first held k p ids cs cs') (l : k < held) (em : m ≡ associations_in (body_at bodies cs' (first + k))) where
    told : m ≡ associations_in (body_at bodies cs (first + k))
    told = em ∙ ap (λ (b : Body). associations_in b) (g.same (first + k))

    column-same : rows (id_at cs' (first + k)) 0 m ≡ rows (id_at cs (first + k)) 0 m
    column-same = rows_same (id_at cs' (first + k)) (id_at cs (first + k)) 0 m (λ j a b. g.later k (omega arith) l j)

    pub scatters_held_fits : (m ≤ ASSOCIATIONS) × (p + count_in cs' (first + k) m ≤ DETECTIONS)
    scatters_held_fits =
        let b = body_at bodies cs (first + k) in
        (rw told (associations_few b (h.passes k l)), omega (arith, g.place, ap in_windows column-same, ap (count_in cs (first + k)) told, found_room bodies cs first k h l, found_one cs (first + k) b, found_count bodies cs first k))

    few : m ≤ ASSOCIATIONS
    few = scatters_held_fits.0

    -- the scan with its ids anew
    abbrev anew : Scan
    anew = let s = scan_in bodies cs (first + k) in record { frame = s.frame; ids = spread s.ids (drop (window_count (scans_in bodies cs first k)) ids) }

    ids-anew : spread (rows (id_at cs' (first + k)) 0 m) (drop p ids) ≡ anew.ids
    unfolding scan_in
    ids-anew =
        let n : ℕ = first + k in
        ap (λ (t : List ℕ). spread t (drop p ids)) (column-same ∙ ap (rows (id_at cs n) 0) told)
        ∙ ap (λ (i : ℕ). spread (rows (id_at cs n) 0 (associations_in (body_at bodies cs n))) (drop i ids)) g.place

    scan-anew : {cs'' : List ℕ} → ScatteredScan (first + k) m p ids cs' cs'' → scan_in bodies cs'' (first + k) ≡ anew
    unfolding scan_in
    scan-anew {cs''} w =
        let n : ℕ = first + k in
        ap (λ (t : Body). record { frame = frame_in t; ids = rows (id_at cs'' n) 0 (associations_in t) }) (kept-body few w bodies n ∙ g.same n)
        ∙ ap (λ (is : List ℕ). record { frame = frame_in (body_at bodies cs n); ids = is }) (ap (rows (id_at cs'' n) 0) (sym told) ∙ w.column ∙ ids-anew)

    -- one scan more
    scans-anew : spread_all (scans_in bodies cs first k) ids ++ (anew ∷ []) ≡ spread_all (scans_in bodies cs first (k + 1)) ids
    scans-anew =
        sym (spread_all-more (scans_in bodies cs first k) (scan_in bodies cs (first + k)) ids)
        ∙ ap (λ (t : List Scan). spread_all t ids) (sym (ap (scans_in bodies cs first) (add-one k) ∙ rows_more (scan_in bodies cs) first k))

    pub scatters_held_more : length cs ≡ COLUMNS → {q : ℕ} {cs'' : List ℕ} → (q ≡ p + count_in cs' (first + k) m) × ScatteredScan (first + k) m p ids cs' cs'' → ScattersHeld bodies first held (k + 1) q ids cs cs''
    scatters_held_more wide {q} {cs''} r =
        let w = r.1 in
        let n : ℕ = first + k in
        let held-few = h.few in
        let slots = in_slot few w bodies in
        let ss = spread_all (scans_in bodies cs first k) ids in
        let many : length ss ≡ k = as_many (scans_in bodies cs first k) ids ∙ length-rows (scan_in bodies cs) first k in
        let earlier : scans_in bodies cs'' first k ≡ scans_in bodies cs' first k = scans_else slots first k (λ i a b z. omega arith) in
        record {
          place = omega (arith, r.0, g.place, ap in_windows column-same, ap (count_in cs n) told, found_more bodies cs first k);
          long = w.long ∙ g.long;
          scans =
              ap (scans_in bodies cs'' first) (add-one k)
              ∙ rows_more (scan_in bodies cs'') first k
              ∙ ap (λ (t : List Scan). t ++ (scan_in bodies cs'' n ∷ [])) (earlier ∙ g.scans)
              ∙ ap (λ (t : Scan). ss ++ (t ∷ [])) (scan-anew w)
              ∙ scans-anew;
          same = λ i. kept-body few w bodies i ∙ g.same i;
          later = λ i a b j. id_else slots (first + i) (λ z. omega arith) j ∙ g.later i (omega arith) b j;
          put =
              ids-over few w (g.long ∙ wide)
              ∙ ap (λ (is : List ℕ). over (COLUMN * slot_at n + 1) is cs') ids-anew
              ∙ ap (over (COLUMN * slot_at n + 1) anew.ids) g.put
              ∙ sym (ids_put-more first ss anew cs ∙ ap (λ (i : ℕ). over (COLUMN * slot_at (first + i) + 1) anew.ids (ids_put first ss cs)) many)
              ∙ ap (λ (t : List Scan). ids_put first t cs) scans-anew;
        }

  pub scatters_held_all : {k p : ℕ} {cs' : List ℕ} → ScattersHeld bodies first held k p ids cs cs' → k ≡ held → Scattered bodies first held ids cs cs'
  scatters_held_all {cs' = cs'} g e =
      record {
        put = g.put ∙ ap (λ (i : ℕ). ids_put first (spread_all (scans_in bodies cs first i) ids) cs) e;
        scans = ap (scans_in bodies cs' first) (sym e) ∙ g.scans ∙ ap (λ (i : ℕ). spread_all (scans_in bodies cs first i) ids) e;
        same = λ i l. g.same (first + i);
        long = g.long;
      }
