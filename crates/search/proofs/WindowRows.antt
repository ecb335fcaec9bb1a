-- The window of an id, read off the scans as they stand, is its row, read off the gathered ids. Assumes nothing.
use Prim.Native.Nat.{ℕ, zero, suc, ◌+◌, ◌-◌, ◌≤◌, ◌<◌}
use native.Mathlib.Decide.{ℕ_discrete}
use native.Mathlib.Omega.{arith}
use mathlib.Core.Path.{◌≡◌, refl, sym, ap, ◌∙◌}
use mathlib.Core.Bool.{cond}
use mathlib.Core.List.{List, [], ◌∷◌, ◌++◌, map, map-append}
use lib.ListN.{length, get_or}
use lib.Dec.{eqb, ltb}
use borrow.Author.Tests.{eq-eqb, ne_eqb}
use Rattle.bounds.specs.Bounds.{SCANS, DETECTIONS}
use Rattle.engine.specs.declared.config.FgoConfig.{FgoConfig}
use Rattle.engine.specs.declared.types.Association.{Association}
use Rattle.engine.specs.Frame.{Frame, no_association}
use Rattle.cost.specs.Cost.{View, Measurement, measurement_at, measurements}
use Rattle.fgo_spec.specs.Lists.{has, times, up_from}
use Rattle.fgo_spec.specs.Windows.{Scan, Prefix, Detection, detection_of, measure, under, in_scan, window}
use Rattle.fgo_spec.specs.Faithful.{Regular}
use Rattle.fgo_spec.specs.Rule.{All}
use Rattle.fgo_spec.proofs.Counting.{times_here, times_past}
use Rattle.fgo_spec.proofs.Windows.{under_absent}
use Rattle.fgo_spec.specs.Gathered.{column_at, picked, spread, put_back}
use Rattle.search_rows.specs.Rows.{Starts, slot_in, row_entry, row_of}
use Rattle.search.specs.Pass.{Scene, view_on}
use Rattle.search_rows.proofs.Segments.{length-segment, segment_none}
use Rattle.search_rows.proofs.Renamed.{starts_within}
use Rattle.search.proofs.Standing.{HeldScan, HeldFrom, Standing, WindowRow}
use Rattle.search_rows.proofs.RowSlots.{slot_has}
use Rattle.fgo_spec.proofs.Spreads.{Fills, picked-length, spread-has}

-- ---- the gathered ids of a scan

pub column-length : {starts : List ℕ} → Starts starts → (ids : List ℕ) → length ids ≡ DETECTIONS → (k : ℕ) → k < SCANS → length (column_at starts ids k) ≡ get_or starts (suc k) 0 - get_or starts k 0
column-length {starts} s ids e k h = length-segment (get_or starts k 0) (get_or starts (suc k) 0) ids (omega (arith, starts_within s (suc k) h))

-- one id to each detection gathered
held-picked : {e : Scene} {k : ℕ} {s : Scan} → Starts e.starts → HeldScan e k s → (ids : List ℕ) → length ids ≡ DETECTIONS → k < SCANS →
    length (column_at e.starts ids k) ≡ length (picked s.ids s.frame.associations)
held-picked {e} {k} {s} b d ids l h = omega (arith, column-length b ids l k h, d.size)

pub held-fills : {e : Scene} {k : ℕ} {s : Scan} → Starts e.starts → HeldScan e k s → (ids : List ℕ) → length ids ≡ DETECTIONS → k < SCANS → Fills s.ids (column_at e.starts ids k)
held-fills {e} {k} {s} b d ids l h = held-picked b d ids l h ∙ picked-length s.ids s.frame.associations d.complete

-- an id has a place in a scan just where it stands there
pub slot_now : {e : Scene} {k : ℕ} {s : Scan} → Starts e.starts → HeldScan e k s → (ids : List ℕ) → length ids ≡ DETECTIONS → k < SCANS →
    (x : ℕ) → 0 < x → ltb 0 (row_entry e.starts ids x k) ≡ has x (spread s.ids (column_at e.starts ids k))
slot_now {e} {k} {s} b d ids l h x z =
    slot_has x (get_or e.starts k 0) (column_at e.starts ids k) ∙ sym (spread-has x z s.ids (column_at e.starts ids k) (held-fills b d ids l h))

-- a scan with no detections has no place for an id
pub slot_empty : (starts ids : List ℕ) (x k : ℕ) → get_or starts (suc k) 0 ≡ get_or starts k 0 → row_entry starts ids x k ≡ 0
unfolding slot_in
slot_empty starts ids x k e = ap (slot_in x (get_or starts k 0)) (segment_none (get_or starts k 0) (get_or starts (suc k) 0) ids (omega arith))

-- ---- one scan

-- what one entry of a row stands for
abbrev one : View → ℕ → ℕ → List Measurement
one v k zero = []
one v k (suc j) = measurement_at v k j ∷ []

dets_cons : (v : View) (k j : ℕ) (r : List ℕ) → measurements v k (j ∷ r) ≡ one v k j ++ measurements v (suc k) r
unfolding measurements
dets_cons v k zero r = refl
dets_cons v k (suc j) r = refl

module _ (c : FgoConfig) (v : View) (x k : ℕ) (f : Frame) (positive : 0 < x) where
  -- what the scan has under x is what the place of x shows
  scan-slot :
      (n : ℕ) (l : List Association) (is gs : List ℕ) → length gs ≡ length (picked is l) → times x (spread is gs) ≤ 1 →
      ((j : ℕ) → j < length (picked is l) → measurement_at v k (n + j) ≡ measure c (detection_of (v.first + k) f (get_or (picked is l) j no_association))) →
      map (measure c) (under x (v.first + k) f l (spread is gs)) ≡ one v k (slot_in x n gs)
  unfolding under slot_in picked spread
  scan-slot n [] is [] e t d = refl
  scan-slot n [] is (g ∷ gs) e t d = absurd (omega arith)
  scan-slot n (a ∷ l) [] [] e t d = refl
  scan-slot n (a ∷ l) [] (g ∷ gs) e t d = absurd (omega arith)
  scan-slot n (a ∷ l) (zero ∷ is) gs e t d =
      let z : x ≡ 0 → ⊥ = λ q. omega arith in
      rw (ne_eqb x 0 z) (scan-slot n l is gs e (rw (times_past x 0 (spread is gs) z) at t) d)
  scan-slot n (a ∷ l) (suc i ∷ is) [] e t d = absurd (omega arith)
  scan-slot n (a ∷ l) (suc i ∷ is) (g ∷ gs) e t d =
      go (ℕ_discrete x g)
      (λ h. scan-slot (suc n) l is gs (omega arith) h
      (λ j b. (let q : suc n + j ≡ n + suc j = omega arith in ap (measurement_at v k) q) ∙ d (suc j) (omega arith)))
    where
      under_rest : List Detection
      under_rest = under x (v.first + k) f l (spread is gs)

      go : Dec (x ≡ g) → (times x (spread is gs) ≤ 1 → map (measure c) under_rest ≡ one v k (slot_in x (suc n) gs)) →
          map (measure c) (cond (eqb x g) (detection_of (v.first + k) f a ∷ under_rest) under_rest) ≡ one v k (cond (eqb x g) (suc n) (slot_in x (suc n) gs))
      go (yes q) r =
          let z : times x (spread is gs) ≡ 0 = omega (arith, times_here x g (spread is gs) q) in
          let w : n ≡ n + 0 = omega arith in
          rw (eq-eqb x g q)
          (ap (λ (u : List Detection). measure c (detection_of (v.first + k) f a) ∷ map (measure c) u) (under_absent (v.first + k) f x l (spread is gs) z)
          ∙ sym (ap (λ (y : Measurement). y ∷ []) (ap (measurement_at v k) w ∙ d 0 (omega arith))))
      go (no q) r = rw (ne_eqb x g q) (r (rw (times_past x g (spread is gs) q) at t))

-- ---- all scans

module _ (e : Scene) (ids : List ℕ) (begins : Starts e.starts) (long : length ids ≡ DETECTIONS) (x : ℕ) (positive : 0 < x) where
  -- the scans that are not held show nothing
  row-none : (m k : ℕ) → k + m ≡ SCANS → ((j : ℕ) → k ≤ j → j < SCANS → get_or e.starts (suc j) 0 ≡ get_or e.starts j 0) →
      measurements (view_on e) k (map (row_entry e.starts ids x) (up_from k m)) ≡ []
  unfolding measurements up_from
  row-none zero k h z = refl
  row-none (suc m) k h z =
      ap (λ (y : ℕ). measurements (view_on e) k (y ∷ map (row_entry e.starts ids x) (up_from (suc k) m))) (slot_empty e.starts ids x k (z k (omega arith) (omega arith)))
      ∙ row-none m (suc k) (omega arith) (λ j a b. z j (omega arith) b)

  window-from : (ss : List Scan) (m k : ℕ) → k + m ≡ SCANS → length ss ≤ m →
      ((j : ℕ) → k + length ss ≤ j → j < SCANS → get_or e.starts (suc j) 0 ≡ get_or e.starts j 0) →
      HeldFrom e k ss → All Regular (put_back e.starts ids k ss) →
      map (measure e.hall.config) (window x (e.hall.first.0 + k) (put_back e.starts ids k ss)) ≡ measurements (view_on e) k (map (row_entry e.starts ids x) (up_from k m))
  unfolding window put_back up_from
  window-from [] m k h b z d r = sym (row-none m k h (λ j a. z j (omega arith)))
  window-from (s ∷ ss) zero k h b z d r = absurd (omega arith)
  window-from (s ∷ ss) (suc m) k h b z d r =
      let first = e.hall.first.0 in
      let now : Scan = record { frame = s.frame; ids = spread s.ids (column_at e.starts ids k) } in
      let c = e.hall.config in
      let q : suc (first + k) ≡ first + suc k = omega arith in
      let head : map (measure c) (in_scan x (first + k) now) ≡ one (view_on e) k (row_entry e.starts ids x k) =
      scan-slot c (view_on e) x k s.frame positive (get_or e.starts k 0) s.frame.associations s.ids (column_at e.starts ids k)
      (held-picked begins d.0 ids long (omega arith)) (r.0.apart x positive) d.0.dots in
      let tail : map (measure c) (window x (suc (first + k)) (put_back e.starts ids (suc k) ss)) ≡ measurements (view_on e) (suc k) (map (row_entry e.starts ids x) (up_from (suc k) m)) =
      ap (λ (n : ℕ). map (measure c) (window x n (put_back e.starts ids (suc k) ss))) q
      ∙ window-from ss m (suc k) (omega arith) (omega arith) (λ j a. z j (omega arith)) d.1 r.1 in
      map-append (measure c) (in_scan x (first + k) now) (window x (suc (first + k)) (put_back e.starts ids (suc k) ss))
      ∙ (λ i. head i ++ tail i)
      ∙ sym (dets_cons (view_on e) k (row_entry e.starts ids x k) (map (row_entry e.starts ids x) (up_from (suc k) m)))

pub window-rows : (e : Scene) (next : ℕ) (ps : List (ℕ × Prefix)) (ss : List Scan) (ids : List ℕ) → Standing e next ss ids → WindowRow e next ps ss ids
unfolding row_of
window-rows e next ps ss ids s x h =
    let q : e.hall.first.0 ≡ e.hall.first.0 + 0 = omega arith in
    ap (λ (n : ℕ). map (measure e.hall.config) (window x n (put_back e.starts ids 0 ss))) q
    ∙ window-from e ids s.held.starts s.long x h ss SCANS 0 refl s.held.few (λ j a. s.held.empty j (omega arith)) s.held.scans s.regular
