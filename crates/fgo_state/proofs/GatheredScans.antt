-- What was gathered of the held scans, scan by scan: where each scan's ids and engine ids stand, and that put back they
-- are the columns. Assumes nothing.
use Prim.Native.Nat.{ℕ, zero, suc, ◌+◌, ◌-◌, ◌≤◌, ◌<◌, zero-le}
use native.Mathlib.Nat.{add-zero, add-suc, suc-add}
use native.Mathlib.Omega.{arith}
use mathlib.Core.Path.{◌≡◌, refl, sym, ap, ◌∙◌}
use mathlib.Core.List.{List, [], ◌∷◌, ◌++◌, map, append_assoc, append-nil, map-append}
use lib.ListN.{length, get_or, take, drop, length-append, length-map}
use lib.Seq.{take_at, drop_at}
use lib.Dec.{ltb}
use borrow.Author.Tests.{lt-ltb}
use Rattle.engine.specs.declared.types.Association.{Association}
use Rattle.engine.specs.Frame.{Frame, engine_of}
use Rattle.engine.specs.Body.{rows}
use Rattle.engine.proofs.Passing.{length-rows}
use Rattle.fgo_spec.specs.Lists.{keep, segment}
use Rattle.fgo_spec.specs.Windows.{Scan, in_windows, window_count}
use Rattle.fgo_spec.proofs.Windows.{detections_cons}
use Rattle.fgo_spec.specs.Gathered.{column_at, picked, spread, put_back}
use Rattle.fgo_spec.proofs.Spreads.{spread_self}
use Rattle.buffers.specs.Buffers.{over}
use Rattle.fgo_state.specs.Gathering.{HeldDetection, gathered_in, gathered_of, gathered, ids_of, engines_of}
use Rattle.fgo_spec.proofs.Rows.{rows_more, rows-first, rows_parts}
use Rattle.fgo_state.proofs.LatestGathered.{Each, engines_in}

-- ---- in one scan

-- the engine ids of those gathered
pub engines_gathered : (n : ℕ) (f : Frame) (l : List Association) (is : List ℕ) → engines_of (gathered_in n f l is) ≡ engines_in is l
unfolding gathered_in picked
engines_gathered n f [] is = refl
engines_gathered n f (a ∷ l) [] = refl
engines_gathered n f (a ∷ l) (zero ∷ is) = engines_gathered n f l is
engines_gathered n f (a ∷ l) (suc i ∷ is) = ap (λ k. engine_of a.track ∷ k) (engines_gathered n f l is)

keep-held : (i : ℕ) (is : List ℕ) → keep (ltb 0) (suc i ∷ is) ≡ suc i ∷ keep (ltb 0) is
unfolding keep
keep-held i is = rw (lt-ltb 0 (suc i) (omega arith))

keep-clutter : (is : List ℕ) → keep (ltb 0) (zero ∷ is) ≡ keep (ltb 0) is
unfolding keep
keep-clutter is = refl

-- their refined ids, of a column that has one for each association
pub ids-gathered : (n : ℕ) (f : Frame) (l : List Association) (is : List ℕ) → length is ≤ length l → ids_of (gathered_in n f l is) ≡ keep (ltb 0) is
unfolding gathered_in
ids-gathered n f [] [] h = unfold keep in refl
ids-gathered n f [] (i ∷ is) h = absurd (omega arith)
ids-gathered n f (a ∷ l) [] h = unfold keep in refl
ids-gathered n f (a ∷ l) (zero ∷ is) h = ids-gathered n f l is (omega arith) ∙ sym (keep-clutter is)
ids-gathered n f (a ∷ l) (suc i ∷ is) h = ap (λ k. suc i ∷ k) (ids-gathered n f l is (omega arith)) ∙ sym (keep-held i is)

-- no more than lie in windows
scan_few : (n : ℕ) (f : Frame) (l : List Association) (is : List ℕ) → length (gathered_in n f l is) ≤ in_windows is
unfolding gathered_in
scan_few n f [] is = zero-le
scan_few n f (a ∷ l) [] = zero-le
scan_few n f (a ∷ l) (zero ∷ is) = rw (keep-clutter is) (scan_few n f l is)
scan_few n f (a ∷ l) (suc i ∷ is) = rw (keep-held i is) (omega (arith, scan_few n f l is))

pub gathered_few : (n : ℕ) (ss : List Scan) → length (gathered n ss) ≤ window_count ss
unfolding gathered
gathered_few n [] = zero-le
gathered_few n (s ∷ ss) = omega (arith, length-append (gathered_of n s) (gathered (suc n) ss), detections_cons s ss, scan_few n s.frame s.frame.associations s.ids, gathered_few (suc n) ss)

-- ---- over the scans

pub put_back_same : (starts ids : List ℕ) (k : ℕ) (ss : List Scan) → Each (λ j s. column_at starts ids j ≡ keep (ltb 0) s.ids) k ss → put_back starts ids k ss ≡ ss
unfolding put_back
put_back_same starts ids k [] h = refl
put_back_same starts ids k (s ∷ ss) h =
    ap (λ is. record { frame = s.frame; ids = is } ∷ put_back starts ids (suc k) ss) (ap (spread s.ids) h.0 ∙ spread_self s.ids)
    ∙ ap (λ l. s ∷ l) (put_back_same starts ids (suc k) ss h.1)

-- something of each of the scans that a function of their numbers gives
pub each_rows : (P : ℕ → Scan → Type 0) (g : ℕ → Scan) (k o n : ℕ) → ((i : ℕ) → i < n → P (k + i) (g (o + i))) → Each P k (rows g o n)
unfolding rows
each_rows P g k o zero h = tt
each_rows P g k o (suc n) h = (rw (add-zero k, add-zero o) at (h 0 (omega arith)), each_rows P g (suc k) (suc o) n (λ i l. rw (add-suc k i, add-suc o i, ← suc-add k i, ← suc-add o i) at (h (suc i) (omega arith))))

gathered-append : (n : ℕ) (ss ts : List Scan) → gathered n (ss ++ ts) ≡ gathered n ss ++ gathered (n + length ss) ts
unfolding gathered
gathered-append n [] ts = ap (λ (k : ℕ). gathered k ts) (sym (add-zero n))
gathered-append n (s ∷ ss) ts = ap (λ l. gathered_of n s ++ l) (gathered-append (suc n) ss ts ∙ ap (λ (k : ℕ). gathered (suc n) ss ++ gathered k ts) (suc-add n (length ss) ∙ sym (add-suc n (length ss)))) ∙ sym (append_assoc (gathered_of n s) (gathered (suc n) ss) (gathered (n + suc (length ss)) ts))

segment_middle : {A : Type 0} (a b c : List A) (x y : ℕ) → x ≡ length a → y ≡ length a + length b → segment x y (a ++ (b ++ c)) ≡ b
segment_middle a b c x y p q = ap (take (y - x)) (drop_at a (b ++ c) x (sym p)) ∙ take_at b c (y - x) (omega arith)

module _ (g : ℕ → Scan) (first : ℕ) where
  -- those of the first k scans
  abbrev found_in : ℕ → List HeldDetection
  found_in k = gathered first (rows g first k)

  abbrev at : ℕ → List HeldDetection
  at k = gathered_of (first + k) (g (first + k))

  -- one scan more
  pub found_more : (k : ℕ) → found_in (suc k) ≡ found_in k ++ at k
  unfolding gathered
  found_more k =
      ap (gathered first) (rows_more g first k)
      ∙ gathered-append first (rows g first k) (g (first + k) ∷ [])
      ∙ ap (λ l. found_in k ++ l) (append-nil (gathered_of (first + length (rows g first k)) (g (first + k))) ∙ ap (λ (n : ℕ). gathered_of (first + n) (g (first + k))) (length-rows g first k))

  -- the scan k, of those held, and what comes after it
  pub rest : ℕ → ℕ → List HeldDetection
  rest held k = gathered (suc (first + k)) (rows g (suc (first + k)) (held - k - 1))

  pub found_split : (held k : ℕ) → k < held → found_in held ≡ found_in k ++ (at k ++ rest held k)
  unfolding gathered rest
  found_split held k h =
      let e : k + (held - k) ≡ held = omega arith in
      ap found_in (sym e)
      ∙ ap (gathered first) (rows_parts g first k (held - k) ∙ ap (λ l. rows g first k ++ l) (rows-first g (first + k) (held - k) (omega arith)))
      ∙ gathered-append first (rows g first k) (g (first + k) ∷ rows g (suc (first + k)) (held - k - 1))
      ∙ ap (λ (n : ℕ). found_in k ++ gathered (first + n) (g (first + k) ∷ rows g (suc (first + k)) (held - k - 1))) (length-rows g first k)

  module _ (held : ℕ) (ts : List ℕ) (starts : (k : ℕ) → k ≤ held → get_or ts k 0 ≡ length (found_in k)) where
    -- where the scan k stands in a list that has something of each of those gathered
    pub column-gathered : (f : HeldDetection → ℕ) (l : List ℕ) (k : ℕ) → k < held → column_at ts (over 0 (map f (found_in held)) l) k ≡ map f (at k)
    unfolding over
    column-gathered f l k h =
        let r = drop (0 + length (map f (found_in held))) l in
        let e : map f (found_in held) ++ r ≡ map f (found_in k) ++ (map f (at k) ++ (map f (rest held k) ++ r)) =
        ap (λ m. m ++ r) (ap (map f) (found_split held k h) ∙ map-append f (found_in k) (at k ++ rest held k) ∙ ap (λ m. map f (found_in k) ++ m) (map-append f (at k) (rest held k)))
        ∙ append_assoc (map f (found_in k)) (map f (at k) ++ map f (rest held k)) r
        ∙ ap (λ m. map f (found_in k) ++ m) (append_assoc (map f (at k)) (map f (rest held k)) r) in
        ap (segment (get_or ts k 0) (get_or ts (suc k) 0)) e
        ∙ segment_middle (map f (found_in k)) (map f (at k)) (map f (rest held k) ++ r) (get_or ts k 0) (get_or ts (suc k) 0)
        (starts k (omega arith) ∙ sym (length-map (found_in k) f))
        (starts (suc k) (omega arith) ∙ ap length (found_more k) ∙ length-append (found_in k) (at k) ∙ ap (λ (n : ℕ). n + length (at k)) (sym (length-map (found_in k) f)) ∙ ap (λ (n : ℕ). length (map f (found_in k)) + n) (sym (length-map (at k) f)))

  -- those before a scan are some of all
  pub found_within : (held k : ℕ) → k < held → length (found_in (suc k)) ≤ length (found_in held)
  found_within held k h = omega (arith, ap length (found_more k) ∙ length-append (found_in k) (at k), ap length (found_split held k h) ∙ length-append (found_in k) (at k ++ rest held k), length-append (at k) (rest held k))
