-- The detections of a row: the scans they lie in, and what a test of scans, a cut or a gap leaves of them. Assumes
-- nothing.
use Prim.Native.Nat.{ℕ, zero, suc, ◌+◌, ◌≤◌, ◌<◌}
use native.Mathlib.Nat.{add-zero, zero-add, le_refl}
use native.Mathlib.Omega.{arith}
use mathlib.Core.Path.{◌≡◌, refl, sym, ap, ◌∙◌, subst}
use mathlib.Core.Bool.{Bool, true, false, cond}
use mathlib.Core.List.{List, [], ◌∷◌, ◌++◌, map, append-nil}
use lib.ListN.{length, get_or, take, drop, take-append-drop}
use lib.Dec.{ltb, leb}
use borrow.Author.Tests.{lt-ltb, le-ltb, le-leb, lt-leb}
use Rattle.cost.specs.Cost.{Measurement, View, measurement_at, measurements}
use Rattle.fgo_spec.specs.Lists.{keep, up_from}
use Rattle.fgo_spec.specs.Rule.{All}
use Rattle.fgo_spec.proofs.All.{All_weaken}
use Rattle.fgo_spec.proofs.Counting.{keep_append, keep_const}

later : (k n : ℕ) → suc k + n ≡ k + suc n
later k n = omega arith

module _ (v : View) where
  -- ---- the scans they lie in

  -- all in scan m or later; all before scan m
  abbrev pub AtLeast : ℕ → List Measurement → Type 0
  AtLeast m l = All (λ (d : Measurement). v.first + m ≤ d.scan) l

  abbrev Below : ℕ → List Measurement → Type 0
  Below m l = All (λ (d : Measurement). d.scan < v.first + m) l

  from_next : (k : ℕ) (l : List Measurement) → AtLeast (suc k) l → AtLeast k l
  from_next k l h = All_weaken (λ (d : Measurement). v.first + suc k ≤ d.scan) (λ (d : Measurement). v.first + k ≤ d.scan) l (λ d g. omega arith) h

  pub dets_from : (k : ℕ) (r : List ℕ) → AtLeast k (measurements v k r)
  unfolding measurements
  dets_from k [] = tt
  dets_from k (zero ∷ r) = from_next k (measurements v (suc k) r) (dets_from (suc k) r)
  dets_from k (suc j ∷ r) = (le_refl (v.first + k), from_next k (measurements v (suc k) r) (dets_from (suc k) r))

  dets-until : (k n : ℕ) (r : List ℕ) → Below (k + n) (measurements v k (take n r))
  unfolding measurements
  dets-until k zero r = tt
  dets-until k (suc n) [] = tt
  dets-until k (suc n) (zero ∷ r) = subst (λ (m : ℕ). Below m (measurements v (suc k) (take n r))) (later k n) (dets-until (suc k) n r)
  dets-until k (suc n) (suc j ∷ r) = (omega arith, subst (λ (m : ℕ). Below m (measurements v (suc k) (take n r))) (later k n) (dets-until (suc k) n r))

  -- they are those of the scans where a test says that the row has one
  pub dets_scans :
      (k : ℕ) (r : List ℕ) (g : ℕ → Bool) → ((i : ℕ) → g (k + i) ≡ ltb 0 (get_or r i 0)) →
      map (λ (d : Measurement). d.scan) (measurements v k r) ≡ map (λ (m : ℕ). v.first + m) (keep g (up_from k (length r)))
  unfolding measurements keep up_from
  dets_scans k [] g h = refl
  dets_scans k (zero ∷ r) g h =
      let p : g k ≡ false = ap g (sym (add-zero k)) ∙ h 0 ∙ le-ltb 0 0 (le_refl 0) in
      rw p (dets_scans (suc k) r g (λ i. ap g (later k i) ∙ h (suc i)))
  dets_scans k (suc j ∷ r) g h =
      let p : g k ≡ true = ap g (sym (add-zero k)) ∙ h 0 ∙ lt-ltb 0 (suc j) (omega arith) in
      rw p (ap (λ (l : List ℕ). (v.first + k) ∷ l) (dets_scans (suc k) r g (λ i. ap g (later k i) ∙ h (suc i))))

  -- ---- a cut

  dets-crossed : (k n : ℕ) (a b : List ℕ) → length a ≡ length b → measurements v k (take n a ++ drop n b) ≡ measurements v k (take n a) ++ measurements v (k + n) (drop n b)
  unfolding measurements
  dets-crossed k zero a b e = ap (λ (m : ℕ). measurements v m b) (sym (add-zero k))
  dets-crossed k (suc n) [] [] e = refl
  dets-crossed k (suc n) [] (y ∷ b) e = absurd (omega arith)
  dets-crossed k (suc n) (x ∷ a) [] e = absurd (omega arith)
  dets-crossed k (suc n) (zero ∷ a) (y ∷ b) e =
      dets-crossed (suc k) n a b (omega arith) ∙ ap (λ (m : ℕ). measurements v (suc k) (take n a) ++ measurements v m (drop n b)) (later k n)
  dets-crossed k (suc n) (suc j ∷ a) (y ∷ b) e =
      ap (λ (l : List Measurement). measurement_at v k j ∷ l)
      (dets-crossed (suc k) n a b (omega arith) ∙ ap (λ (m : ℕ). measurements v (suc k) (take n a) ++ measurements v m (drop n b)) (later k n))

  -- ... of a row that begins with the first scan
  pub dets_cut : (n : ℕ) (a b : List ℕ) → length a ≡ length b → measurements v 0 (take n a ++ drop n b) ≡ measurements v 0 (take n a) ++ measurements v n (drop n b)
  dets_cut n a b e = dets-crossed 0 n a b e ∙ ap (λ (m : ℕ). measurements v 0 (take n a) ++ measurements v m (drop n b)) (zero-add n)

  -- a test that has one answer for the scans before the cut n and one from there on
  keep-dets :
      (g : ℕ → Bool) (p q : Bool) (n : ℕ) (r : List ℕ) → ((m : ℕ) → m < v.first + n → g m ≡ p) → ((m : ℕ) → v.first + n ≤ m → g m ≡ q) →
      keep (λ (d : Measurement). g d.scan) (measurements v 0 r) ≡ cond p (measurements v 0 (take n r)) [] ++ cond q (measurements v n (drop n r)) []
  keep-dets g p q n r h k =
      let t : Measurement → Bool = λ d. g d.scan in
      ap (λ (l : List ℕ). keep t (measurements v 0 l)) (sym (take-append-drop n r))
      ∙ ap (keep t) (dets_cut n r r refl)
      ∙ keep_append t (measurements v 0 (take n r)) (measurements v n (drop n r))
      ∙ (λ i. keep_const p t (measurements v 0 (take n r)) (All_weaken (λ (d : Measurement). d.scan < v.first + (0 + n)) (λ (d : Measurement). g d.scan ≡ p) (measurements v 0 (take n r)) (λ d l. h d.scan (omega arith)) (dets-until 0 n r)) i
      ++ keep_const q t (measurements v n (drop n r)) (All_weaken (λ (d : Measurement). v.first + n ≤ d.scan) (λ (d : Measurement). g d.scan ≡ q) (measurements v n (drop n r)) (λ d l. k d.scan l) (dets_from n (drop n r))) i)

  -- those before the cut n, and those from it on
  pub dets_before : (n : ℕ) (r : List ℕ) → keep (λ (d : Measurement). ltb d.scan (v.first + n)) (measurements v 0 r) ≡ measurements v 0 (take n r)
  dets_before n r =
      keep-dets (λ m. ltb m (v.first + n)) true false n r (λ m h. lt-ltb m (v.first + n) h) (λ m h. le-ltb m (v.first + n) h)
      ∙ append-nil (measurements v 0 (take n r))

  pub dets_onward : (n : ℕ) (r : List ℕ) → keep (λ (d : Measurement). leb (v.first + n) d.scan) (measurements v 0 r) ≡ measurements v n (drop n r)
  dets_onward n r = keep-dets (λ m. leb (v.first + n) m) false true n r (λ m h. lt-leb (v.first + n) m h) (λ m h. le-leb (v.first + n) m h)

  -- ---- the detection of scan n, those before it and those after it

  drop_at : (n : ℕ) (r : List ℕ) → 0 < get_or r n 0 → drop n r ≡ get_or r n 0 ∷ drop (suc n) r
  drop_at n [] h = absurd (omega arith)
  drop_at zero (x ∷ r) h = refl
  drop_at (suc n) (x ∷ r) h = drop_at n r h

  pub dets_at : (n j : ℕ) (r : List ℕ) → get_or r n 0 ≡ suc j → measurements v 0 r ≡ measurements v 0 (take n r) ++ (measurement_at v n j ∷ measurements v (suc n) (drop (suc n) r))
  unfolding measurements
  dets_at n j r e =
      ap (measurements v 0) (sym (take-append-drop n r))
      ∙ dets_cut n r r refl
      ∙ ap (λ (l : List ℕ). measurements v 0 (take n r) ++ measurements v n l) (drop_at n r (omega arith) ∙ ap (λ (x : ℕ). x ∷ drop (suc n) r) e)
