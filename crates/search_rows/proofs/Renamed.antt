-- The gathered ids renamed, scan by scan. Assumes nothing.
use mathlib.Core.Path.{◌≡◌, refl, sym, ap, ◌∙◌, subst}
use mathlib.Core.List.{List, map}
use Prim.Native.Nat.{ℕ, zero, suc, ◌+◌, ◌-◌, ◌≤◌, ◌<◌}
use native.Mathlib.Nat.{not-suc-le-zero}
use native.Mathlib.Numerals.{add-one}
use native.Mathlib.Omega.{arith}
use lib.ListN.{length, get_or}
use Rattle.bounds.specs.Bounds.{SCANS, DETECTIONS}
use Rattle.fgo_spec.specs.Gathered.{column_at}
use Rattle.search_rows.specs.Rows.{Starts}
use Rattle.search_rows.specs.Moves.{retarget, map_over, renamed_from}
use Rattle.search_rows.specs.declared.moves.Targets.{Targets}
use Rattle.search_rows.proofs.Segments.{changed_length, splice_length, splice_before, splice_at, splice_after}

-- ---- where the scans begin

starts_rise : {starts : List ℕ} → Starts starts → (i n : ℕ) → i + n ≤ SCANS → get_or starts i 0 ≤ get_or starts (i + n) 0
starts_rise {starts} s i zero h = let e : i + 0 ≡ i = omega arith in rw e (omega arith)
starts_rise {starts} s i (suc n) h =
    let e : i + suc n ≡ suc (i + n) = omega arith in
    rw e (omega (arith, starts_rise s i n (omega arith), s.rises (i + n) (omega arith)))

pub starts_ordered : {starts : List ℕ} → Starts starts → (i j : ℕ) → i ≤ j → j ≤ SCANS → get_or starts i 0 ≤ get_or starts j 0
starts_ordered {starts} s i j h g =
    let e : i + (j - i) ≡ j = omega arith in
    subst (λ (n : ℕ). get_or starts i 0 ≤ get_or starts n 0) e (starts_rise s i (j - i) (omega arith))

pub starts_within : {starts : List ℕ} → Starts starts → (k : ℕ) → k ≤ SCANS → get_or starts k 0 ≤ DETECTIONS
starts_within s k h = omega (arith, starts_ordered s k SCANS h (omega arith), s.ends)

-- ---- one scan renamed, and all

module _ {starts : List ℕ} (s : Starts starts) (a b : ℕ) (t : ℕ → Targets) where
  abbrev g : ℕ → ℕ → ℕ
  g k = retarget a b (t k)

  abbrev from : ℕ → ℕ
  from k = get_or starts k 0

  abbrev to : ℕ → ℕ
  to k = get_or starts (suc k) 0

  abbrev changed : ℕ → List ℕ → List ℕ
  changed k ids = map (g k) (column_at starts ids k)

  abbrev scan : ℕ → List ℕ → List ℕ
  scan k ids = map_over (g k) (from k) (to k) ids

  reach : (k : ℕ) (ids : List ℕ) → k < SCANS → length ids ≡ DETECTIONS → to k ≤ length ids
  reach k ids h e = omega (arith, starts_within s (suc k) h)

  scan-length : (k : ℕ) (ids : List ℕ) → k < SCANS → length ids ≡ DETECTIONS → length (scan k ids) ≡ DETECTIONS
  scan-length k ids h e = splice_length (from k) (to k) (changed k ids) ids (s.rises k h) (reach k ids h e) (changed_length (g k) (from k) (to k) ids (reach k ids h e)) ∙ e

  -- the other scans stay as they are
  scan-before : (k : ℕ) (ids : List ℕ) (j : ℕ) → k < SCANS → length ids ≡ DETECTIONS → j < k → column_at starts (scan k ids) j ≡ column_at starts ids j
  scan-before k ids j h e d =
      splice_before (from k) (to k) (changed k ids) ids (s.rises k h) (reach k ids h e) (changed_length (g k) (from k) (to k) ids (reach k ids h e))
      (from j) (to j) (starts_ordered s (suc j) k d (omega arith))

  scan-at : (k : ℕ) (ids : List ℕ) → k < SCANS → length ids ≡ DETECTIONS → column_at starts (scan k ids) k ≡ map (g k) (column_at starts ids k)
  scan-at k ids h e = splice_at (from k) (to k) (changed k ids) ids (s.rises k h) (reach k ids h e) (changed_length (g k) (from k) (to k) ids (reach k ids h e))

  scan-after : (k : ℕ) (ids : List ℕ) (j : ℕ) → k < SCANS → length ids ≡ DETECTIONS → k < j → j < SCANS → column_at starts (scan k ids) j ≡ column_at starts ids j
  scan-after k ids j h e d i =
      splice_after (from k) (to k) (changed k ids) ids (s.rises k h) (reach k ids h e) (changed_length (g k) (from k) (to k) ids (reach k ids h e))
      (from j) (to j) (starts_ordered s (suc k) j d (omega arith))

  from-length : (k n : ℕ) (ids : List ℕ) → k + n ≤ SCANS → length ids ≡ DETECTIONS → length (renamed_from starts a b t k n ids) ≡ DETECTIONS
  unfolding renamed_from
  from-length k zero ids h e = e
  from-length k (suc n) ids h e = from-length (suc k) n (scan k ids) (omega arith) (scan-length k ids (omega arith) e)

  from-before : (k n : ℕ) (ids : List ℕ) (j : ℕ) → k + n ≤ SCANS → length ids ≡ DETECTIONS → j < k → column_at starts (renamed_from starts a b t k n ids) j ≡ column_at starts ids j
  unfolding renamed_from
  from-before k zero ids j h e g = refl
  from-before k (suc n) ids j h e g =
      from-before (suc k) n (scan k ids) j (omega arith) (scan-length k ids (omega arith) e) (omega arith) ∙ scan-before k ids j (omega arith) e g

  -- scan k + i of those renamed from k on
  from_at : (k i n : ℕ) (ids : List ℕ) → k + n ≤ SCANS → length ids ≡ DETECTIONS → i < n →
      column_at starts (renamed_from starts a b t k n ids) (k + i) ≡ map (retarget a b (t (k + i))) (column_at starts ids (k + i))
  unfolding renamed_from
  from_at k i zero ids h e g = absurd (not-suc-le-zero g)
  from_at k zero (suc n) ids h e g =
      let q : k + 0 ≡ k = omega arith in
      rw q (from-before (suc k) n (scan k ids) k (omega arith) (scan-length k ids (omega arith) e) (omega arith) ∙ scan-at k ids (omega arith) e)
  from_at k (suc i) (suc n) ids h e g =
      let q : k + suc i ≡ suc k + i = omega arith in
      rw q
      (from_at (suc k) i n (scan k ids) (omega arith) (scan-length k ids (omega arith) e) (omega arith)
      ∙ ap (map (retarget a b (t (suc k + i)))) (scan-after k ids (suc k + i) (omega arith) e (omega arith) (omega arith)))

  pub renamed_length : (ids : List ℕ) → length ids ≡ DETECTIONS → length (renamed_from starts a b t 0 SCANS ids) ≡ DETECTIONS
  renamed_length ids e = from-length 0 SCANS ids (omega arith) e

  -- each scan's ids are renamed by that scan's targets
  pub renamed_column : (ids : List ℕ) → length ids ≡ DETECTIONS → (j : ℕ) → j < SCANS →
      column_at starts (renamed_from starts a b t 0 SCANS ids) j ≡ map (retarget a b (t j)) (column_at starts ids j)
  renamed_column ids e j h =
      let q : 0 + j ≡ j = omega arith in
      subst (λ (i : ℕ). column_at starts (renamed_from starts a b t 0 SCANS ids) i ≡ map (retarget a b (t i)) (column_at starts ids i)) q (from_at 0 j SCANS ids (omega arith) e h)

-- ---- the loop over the scans: what is left to do gives what is to be reached

pub record Renaming (starts : List ℕ) (a b : ℕ) (t : ℕ → Targets) (ids₀ ids : List ℕ) (k : ℕ) : Type 0 where
  pub begins : Starts starts
  pub within : k ≤ SCANS
  pub size : length ids ≡ DETECTIONS
  pub left : renamed_from starts a b t k (SCANS - k) ids ≡ renamed_from starts a b t 0 SCANS ids₀

module _ {starts : List ℕ} {a b : ℕ} {t : ℕ → Targets} {ids₀ : List ℕ} where
  pub renaming_turn : {ids r : List ℕ} {k : ℕ} {u : Targets} → Renaming starts a b t ids₀ ids k → k < SCANS → u ≡ t k →
      r ≡ map_over (retarget a b u) (get_or starts k 0) (get_or starts (k + 1) 0) ids → Renaming starts a b t ids₀ r (k + 1)
  unfolding renamed_from
  renaming_turn {ids} {r} {k} {u} o h f e =
      let q : r ≡ scan o.begins a b t k ids = e ∙ (λ i. map_over (retarget a b (f i)) (get_or starts k 0) (get_or starts (add-one k i) 0) ids) in
      let d : SCANS - k ≡ suc (SCANS - suc k) = omega arith in
      rw (q, add-one k)
      record {
        begins = o.begins;
        within = h;
        size = scan-length o.begins a b t k ids h o.size;
        left = sym (ap (λ (n : ℕ). renamed_from starts a b t k n ids) d) ∙ o.left;
      }

  pub renaming_end : {ids : List ℕ} {k : ℕ} → Renaming starts a b t ids₀ ids k → SCANS ≤ k → ids ≡ renamed_from starts a b t 0 SCANS ids₀
  unfolding renamed_from
  renaming_end {ids} {k} o h =
      let d : SCANS - k ≡ 0 = omega arith in
      sym (ap (λ (n : ℕ). renamed_from starts a b t k n ids) d) ∙ o.left
