-- What scans have of an id: how renaming changes it, that a regular scan has one detection or none, that a window rises
-- in scan, and that each held association lies in exactly one window or in clutter. Assumes nothing.
use Prim.Native.Nat.{ℕ, suc, ◌+◌, ◌≤◌, ◌<◌, zero-le}
use native.Mathlib.Nat.{le_refl, le_of_eq, lt_irrefl, eq-zero-or-pos, add-zero, zero-add, suc-add, add-suc}
use native.Mathlib.Decide.{ℕ_discrete}
use native.Mathlib.Omega.{arith}
use mathlib.Core.Path.{◌≡◌, refl, sym, ap, ◌∙◌, subst}
use mathlib.Core.Logic.{inl, inr}
use mathlib.Core.Bool.{Bool, true, false, cond}
use mathlib.Core.List.{List, [], ◌∷◌, ◌++◌, map, flat_map, append-nil, append_assoc}
use lib.ListN.{length, length-append, length-map}
use lib.Dec.{T, eqb, ltb}
use borrow.Author.Tests.{eq-eqb, ne_eqb}
use Rattle.engine.specs.declared.types.Association.{Association}
use Rattle.engine.specs.Frame.{Frame}
use Rattle.fgo_spec.specs.Lists.{keep, has, times}
use Rattle.fgo_spec.specs.Windows.{Scan, Detection, detection_of, under, in_scan, window, in_windows, window_count}
use Rattle.fgo_spec.specs.Rule.{All, ColumnRule}
use Rattle.fgo_spec.specs.History.{Rising}
use Rattle.fgo_spec.specs.Faithful.{Regular, held_detections, ids, marked, Parted}
use Rattle.fgo_spec.proofs.All.{All_weaken, All-append}
use Rattle.fgo_spec.proofs.Counting.{bump, count-cons, count-append, keep_append, keep_const, any-count, has-not, times_here, times_past}
use Rattle.fgo_spec.proofs.Renaming.{Renames}

-- ---- a scan's part of a window

module _ (n : ℕ) (f : Frame) where
  pub under-cons :
      (x : ℕ) (a : Association) (l : List Association) (i : ℕ) (is : List ℕ) →
      under x n f (a ∷ l) (i ∷ is) ≡ cond (eqb x i) (detection_of n f a ∷ []) [] ++ under x n f l is
  unfolding under
  under-cons x a l i is = go (eqb x i)
    where
      go : (b : Bool) → cond b (detection_of n f a ∷ under x n f l is) (under x n f l is) ≡ cond b (detection_of n f a ∷ []) [] ++ under x n f l is
      go true = refl
      go false = refl

  pub under_renames : (g : ℕ → ℕ) (x y : ℕ) → Renames g x y → (l : List Association) (is : List ℕ) → under x n f l (map g is) ≡ under y n f l is
  unfolding under
  under_renames g x y h [] is = refl
  under_renames g x y h (a ∷ l) [] = refl
  under_renames g x y h (a ∷ l) (i ∷ is) = rw (h i, under_renames g x y h l is)

  pub under-All : (Q : Detection → Type 0) (x : ℕ) → ((a : Association) → Q (detection_of n f a)) → (l : List Association) (is : List ℕ) → All Q (under x n f l is)
  unfolding under
  under-All Q x q [] is = tt
  under-All Q x q (a ∷ l) [] = tt
  under-All Q x q (a ∷ l) (i ∷ is) = go (eqb x i) (under-All Q x q l is)
    where
      go : (b : Bool) → All Q (under x n f l is) → All Q (cond b (detection_of n f a ∷ under x n f l is) (under x n f l is))
      go true r = (q a, r)
      go false r = r

  -- at most as many observations as the id stands in the column, so none where it does not
  under-length : (x : ℕ) (l : List Association) (is : List ℕ) → length (under x n f l is) ≤ times x is
  unfolding under
  under-length x [] is = zero-le
  under-length x (a ∷ l) [] = zero-le
  under-length x (a ∷ l) (i ∷ is) = rw (count-cons (eqb x) i is) (go (eqb x i) (under-length x l is))
    where
      go : (b : Bool) → length (under x n f l is) ≤ times x is → length (cond b (detection_of n f a ∷ under x n f l is) (under x n f l is)) ≤ bump b (times x is)
      go true h = omega arith
      go false h = h

  pub under_absent : (x : ℕ) (l : List Association) (is : List ℕ) → times x is ≡ 0 → under x n f l is ≡ []
  under_absent x l is h = go (under x n f l is) (under-length x l is)
    where
      go : (ds : List Detection) → length ds ≤ times x is → ds ≡ []
      go [] k = refl
      go (d ∷ ds) k = absurd (omega arith)

  -- one where it stands once and there is an association to each id
  under-once : (x : ℕ) (l : List Association) (is : List ℕ) → length is ≤ length l → times x is ≤ 1 → 0 < times x is → (d : Detection) × (under x n f l is ≡ d ∷ [])
  unfolding under
  under-once x l [] p q h = absurd (unfold keep in (omega arith))
  under-once x [] (i ∷ is) p q h = absurd (omega arith)
  under-once x (a ∷ l) (i ∷ is) p q h = go (ℕ_discrete x i) (under-once x l is (omega arith))
    where
      go :
          Dec (x ≡ i) → (times x is ≤ 1 → 0 < times x is → (d : Detection) × (under x n f l is ≡ d ∷ [])) →
          (d : Detection) × (cond (eqb x i) (detection_of n f a ∷ under x n f l is) (under x n f l is) ≡ d ∷ [])
      go (yes e) r = rw (eq-eqb x i e) (detection_of n f a, ap (λ w. detection_of n f a ∷ w) (under_absent x l is (omega (arith, times_here x i is e))))
      go (no k) r = rw (ne_eqb x i k) (r (rw (times_past x i is k) at q) (rw (times_past x i is k) at h))

-- what a regular scan has of an id: nothing, or one detection
pub data Detected (x n : ℕ) (s : Scan) : Type 0 where
  absent : has x s.ids ≡ false → in_scan x n s ≡ [] → Detected x n s
  once : (d : Detection) → has x s.ids ≡ true → in_scan x n s ≡ d ∷ [] → d.scan ≡ n → Detected x n s

scan_of : (x n : ℕ) (s : Scan) → All (λ d. d.scan ≡ n) (in_scan x n s)
scan_of x n s = under-All n s.frame (λ d. d.scan ≡ n) x (λ a. unfold detection_of in refl) s.frame.associations s.ids

pub detected : (x n : ℕ) (s : Scan) → 0 < x → Regular s → Detected x n s
detected x n s h r = go (has x s.ids) refl
  where
    go : (b : Bool) → has x s.ids ≡ b → Detected x n s
    go false q = absent q (under_absent n s.frame x s.frame.associations s.ids (has-not x s.ids q))
    go true q =
        let u =
        under-once n s.frame x s.frame.associations s.ids (le_of_eq r.complete) (r.apart x h) (any-count (eqb x) s.ids (subst T (sym q) tt)) in
        once u.0 q u.1 (subst (All (λ d. d.scan ≡ n)) u.1 (scan_of x n s)).0

-- ---- windows, scan by scan

pub window-append : (x n : ℕ) (ss ts : List Scan) → window x n (ss ++ ts) ≡ window x n ss ++ window x (n + length ss) ts
unfolding window
window-append x n [] ts = rw (add-zero n)
window-append x n (s ∷ ss) ts =
    ap (λ l. in_scan x n s ++ l) (window-append x (suc n) ss ts ∙ ap (λ k. window x (suc n) ss ++ window x k ts) (suc-add n (length ss) ∙ sym (add-suc n (length ss))))
    ∙ sym (append_assoc (in_scan x n s) (window x (suc n) ss) (window x (n + suc (length ss)) ts))

pub window_snoc : (x n : ℕ) (past : List Scan) (s : Scan) → n ≡ length past → window x 0 (past ++ (s ∷ [])) ≡ window x 0 past ++ in_scan x n s
window_snoc x n past s e = window-append x 0 past (s ∷ []) ∙ ap (λ l. window x 0 past ++ l) last
  where
    one : (k : ℕ) → window x k (s ∷ []) ≡ in_scan x k s
    one k = unfold window in (append-nil (in_scan x k s))

    last : window x (0 + length past) (s ∷ []) ≡ in_scan x n s
    last = one (0 + length past) ∙ ap (λ k. in_scan x k s) (zero-add (length past) ∙ sym e)

-- a window's observations are of scans before k whose frames have a property
module _ (Q : Detection → Type 0) (F : Frame → Type 0) (k : ℕ) (q : (n : ℕ) (f : Frame) (a : Association) → n < k → F f → Q (detection_of n f a)) where
  pub window-All : (x n : ℕ) (ss : List Scan) → n + length ss ≤ k → All (λ s. F s.frame) ss → All Q (window x n ss)
  unfolding window
  window-All x n [] h g = tt
  window-All x n (s ∷ ss) h g =
      All-append Q (in_scan x n s) (window x (suc n) ss)
      (under-All n s.frame Q x (λ a. q n s.frame a (omega arith) g.0) s.frame.associations s.ids)
      (window-All x (suc n) ss (omega arith) g.1)

-- and of scans from its first one on
pub window-from : (x n : ℕ) (ss : List Scan) → All (λ d. n ≤ d.scan) (window x n ss)
unfolding window
window-from x n [] = tt
window-from x n (s ∷ ss) =
    All-append (λ d. n ≤ d.scan) (in_scan x n s) (window x (suc n) ss)
    (All_weaken (λ d. d.scan ≡ n) (λ d. n ≤ d.scan) (in_scan x n s) (λ d e. omega arith) (scan_of x n s))
    (All_weaken (λ d. suc n ≤ d.scan) (λ d. n ≤ d.scan) (window x (suc n) ss) (λ d e. omega arith) (window-from x (suc n) ss))

pub window-length : (x n : ℕ) (ss : List Scan) → All (λ s. times x s.ids ≤ 1) ss → length (window x n ss) ≤ length ss
unfolding window
window-length x n [] h = le_refl 0
window-length x n (s ∷ ss) h =
    let b : times x s.ids ≤ 1 = h.0 in
    let r = window-length x (suc n) ss h.1 in
    omega (arith, length-append (in_scan x n s) (window x (suc n) ss), under-length n s.frame x s.frame.associations s.ids)

-- a test of scans goes through a window scan by scan
pub keep-window : (g : ℕ → Bool) (x n : ℕ) (s : Scan) (ss : List Scan) → keep (λ d. g d.scan) (window x n (s ∷ ss)) ≡ cond (g n) (in_scan x n s) [] ++ keep (λ d. g d.scan) (window x (suc n) ss)
unfolding window
keep-window g x n s ss =
    keep_append (λ d. g d.scan) (in_scan x n s) (window x (suc n) ss)
    ∙ ap (λ w. w ++ keep (λ d. g d.scan) (window x (suc n) ss))
    (keep_const (g n) (λ d. g d.scan) (in_scan x n s)
    (All_weaken (λ d. d.scan ≡ n) (λ d. g d.scan ≡ g n) (in_scan x n s) (λ d e. ap g e) (scan_of x n s)))

pub detections_cons : (s : Scan) (ss : List Scan) → window_count (s ∷ ss) ≡ in_windows s.ids + window_count ss
unfolding flat_map
detections_cons s ss = count-append (ltb 0) s.ids (flat_map (λ s. s.ids) ss)

pub detections_snoc : (ss : List Scan) (s : Scan) → window_count (ss ++ (s ∷ [])) ≡ window_count ss + in_windows s.ids
detections_snoc [] s = detections_cons s [] ∙ unfold keep flat_map in (omega arith)
detections_snoc (r ∷ ss) s = omega (arith, detections_cons r (ss ++ (s ∷ [])), detections_cons r ss, detections_snoc ss s)

-- ---- "rising in scan"

abbrev pub scans : List Detection → List ℕ
scans w = map (λ d. d.scan) w

pub window_rises : (x n : ℕ) (ss : List Scan) → 0 < x → All Regular ss → Rising (scans (window x n ss))
unfolding window
window_rises x n [] h r = unfold Rising in tt
window_rises x n (s ∷ ss) h r = go (detected x n s h r.0) (window_rises x (suc n) ss h r.1)
  where
    cons : (d : Detection) (w : List Detection) → d.scan ≡ n → All (λ e. suc n ≤ e.scan) w → Rising (scans w) → Rising (scans (d ∷ w))
    cons d [] p h u = unfold Rising in tt
    cons d (e ∷ w) p h u = unfold Rising in (let k = h.0 in omega arith, u)

    go : Detected x n s → Rising (scans (window x (suc n) ss)) → Rising (scans (in_scan x n s ++ window x (suc n) ss))
    go (absent q e) u = rw e u
    go (once d q e p) u = rw e (cons d (window x (suc n) ss) p (window-from x (suc n) ss) u)

-- ---- columns by the state rule

pub columns_regular : (next : ℕ) (ss : List Scan) → All (ColumnRule next) ss → All Regular ss
columns_regular next ss h = All_weaken (ColumnRule next) Regular ss (λ s r. record { complete = r.complete; apart = r.apart }) h

-- the next id has no window
pub next_empty : (next n : ℕ) (ss : List Scan) → 0 < next → All (λ s. (x : ℕ) → 0 < x → 0 < times x s.ids → x < next) ss → window next n ss ≡ []
unfolding window
next_empty next n [] h k = refl
next_empty next n (s ∷ ss) h k = λ i. under_absent n s.frame next s.frame.associations s.ids unknown i ++ next_empty next (suc n) ss h k.1 i
  where
    unknown : times next s.ids ≡ 0
    unknown = elim (eq-zero-or-pos (times next s.ids)) [ inl z ↦ z | inr p ↦ absurd (lt_irrefl next (k.0 next h p)) ]

-- ---- each held association lies in exactly one window or in clutter

marked-under : (x n : ℕ) (f : Frame) (l : List Association) (is : List ℕ) → under x n f l is ≡ marked x (map (detection_of n f) l) is
unfolding under marked
marked-under x n f [] is = refl
marked-under x n f (a ∷ l) [] = refl
marked-under x n f (a ∷ l) (i ∷ is) = ap (λ w. cond (eqb x i) (detection_of n f a ∷ w) w) (marked-under x n f l is)

marked_append : (x : ℕ) (ds es : List Detection) (is js : List ℕ) → length is ≡ length ds → marked x (ds ++ es) (is ++ js) ≡ marked x ds is ++ marked x es js
unfolding marked
marked_append x [] es [] js e = refl
marked_append x [] es (i ∷ is) js e = absurd (omega arith)
marked_append x (d ∷ ds) es [] js e = absurd (omega arith)
marked_append x (d ∷ ds) es (i ∷ is) js e = go (eqb x i) (marked_append x ds es is js (omega arith))
  where
    go : (b : Bool) → marked x (ds ++ es) (is ++ js) ≡ marked x ds is ++ marked x es js → cond b (d ∷ marked x (ds ++ es) (is ++ js)) (marked x (ds ++ es) (is ++ js)) ≡ cond b (d ∷ marked x ds is) (marked x ds is) ++ marked x es js
    go true r = ap (λ w. d ∷ w) r
    go false r = r

pub parted : (n : ℕ) (ss : List Scan) → All Regular ss → Parted n ss
unfolding window held_detections flat_map marked
parted n [] r = record { each = refl; windows = λ x. refl }
parted n (s ∷ ss) r =
    let p = parted (suc n) ss r.1 in
    let e : length s.ids ≡ length (map (detection_of n s.frame) s.frame.associations) = r.0.complete ∙ sym (length-map s.frame.associations (detection_of n s.frame)) in
    record {
      each =
          length-append s.ids (ids ss)
          ∙ (λ i. e i + p.each i)
          ∙ sym (length-append (map (detection_of n s.frame) s.frame.associations) (held_detections (suc n) ss));
      windows =
          λ x.
          (λ i. marked-under x n s.frame s.frame.associations s.ids i ++ p.windows x i)
          ∙ sym (marked_append x (map (detection_of n s.frame) s.frame.associations) (held_detections (suc n) ss) s.ids (ids ss) e);
    }
