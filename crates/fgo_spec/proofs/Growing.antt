-- Freezing: the frozen part of an id is what its observations leave, worked out afresh. Assumes nothing.
use Prim.Native.Nat.{ℕ, zero, suc, ◌+◌, ◌-◌, ◌≤◌, ◌<◌}
use native.Mathlib.Nat.{le_refl, le_trans}
use native.Mathlib.Decide.{ℕ_discrete}
use native.Mathlib.Omega.{arith}
use mathlib.Core.Path.{◌≡◌, refl, sym, ap, ◌∙◌, subst}
use mathlib.Core.Bool.{true, cond}
use mathlib.Core.List.{List, [], ◌∷◌, ◌++◌, map, foldl, foldl-append, map-append, append-nil, append_assoc}
use mathlib.Core.Option.{Option, none, some, none-ne-some, some-injective, some-ne-none}
use lib.ListN.{length, drop, length-append, length-drop}
use lib.Seq.{drop-append-le, drop-drop}
use lib.Dec.{eqb, ltb}
use lib.IntN.{ℤ}
use lib.Ieee.{Float}
use Rattle.scalar.specs.F64.{f64}
use borrow.Author.Tests.{eq-eqb, ne_eqb, lt-ltb}
use Rattle.engine.specs.declared.config.FgoConfig.{FgoConfig}
use Rattle.engine.specs.declared.types.Association.{Association}
use Rattle.engine.specs.Config.{density}
use Rattle.engine.specs.Frame.{Frame, ClassLabel}
use Rattle.engine.specs.Body.{time_ok}
use Rattle.kf.specs.declared.filter.Kf.{Kf}
use Rattle.kf.specs.Plain as Plain
use Rattle.kf.specs.Filter.{filter_of, kf_of}
use Rattle.fgo_spec.specs.Lists.{times, find}
use Rattle.fgo_spec.specs.Windows.{Scan, Detection, Prefix, detection_of, under, window, in_windows}
use Rattle.fgo_spec.specs.Freezing.{move_on, start_at, recent, newer, freeze, freeze_one, freeze_all}
use Rattle.fgo_spec.specs.Emitting.{Listed, report}
use Rattle.fgo_spec.specs.History.{observed_of, filter_over, last_of, class_over, afresh}
use Rattle.fgo_spec.specs.Rule.{All, PrefixRule}
use Rattle.fgo_spec.proofs.Counting.{count-cons, bump}
use Rattle.fgo_spec.proofs.Windows.{under-cons, window-All, window-length}
use Rattle.fgo_spec.proofs.Tables.{found_here, found_past, find-put, put-length, Up, up_put}
use Rattle.std.specs.Prelude.{None, Some}

-- ---- what observations make of a frozen part, or of none

unfoldable pub grown : FgoConfig → Option Prefix → List Detection → Option Prefix
grown c p ds = foldl (λ o d. some (freeze c o d)) p ds

pub grown-append : (c : FgoConfig) (p : Option Prefix) (ds es : List Detection) → grown c p (ds ++ es) ≡ grown c (grown c p ds) es
unfolding grown
grown-append c p ds es = foldl-append (λ o d. some (freeze c o d)) p ds es

pub grown_none : (c : FgoConfig) (p : Option Prefix) (ds : List Detection) → grown c p ds ≡ none → (p ≡ none) × (ds ≡ [])
unfolding grown
grown_none c p [] e = (e, refl)
grown_none c p (d ∷ ds) e = absurd (some-ne-none _ (grown_none c (some (freeze c p d)) ds e).0)

-- ---- freezing a scan

module _ (c : FgoConfig) (n : ℕ) (f : Frame) where
  freeze-one :
      (x : ℕ) (ps : List (ℕ × Prefix)) (a : Association) (i : ℕ) → 0 < x →
      find x (freeze_one c n f ps a i) ≡ grown c (find x ps) (cond (eqb x i) (detection_of n f a ∷ []) [])
  unfolding grown
  freeze-one x ps a zero h = rw (ne_eqb x 0 (λ e. omega arith))
  freeze-one x ps a (suc i) h = find-put x (suc i) p ps ∙ go (ℕ_discrete x (suc i))
    where
      p : Prefix
      p = freeze c (find (suc i) ps) (detection_of n f a)

      go : Dec (x ≡ suc i) → find x ((suc i, p) ∷ ps) ≡ grown c (find x ps) (cond (eqb x (suc i)) (detection_of n f a ∷ []) [])
      go (yes e) = found_here x (suc i, p) ps e ∙ rw (eq-eqb x (suc i) e, e)
      go (no g) = found_past x (suc i, p) ps g ∙ rw (ne_eqb x (suc i) g)

  pub freeze-all :
      (x : ℕ) → 0 < x → (l : List Association) (is : List ℕ) (ps : List (ℕ × Prefix)) →
      find x (freeze_all c n f l is ps) ≡ grown c (find x ps) (under x n f l is)
  unfolding freeze_all
  freeze-all x h [] is ps = unfold under grown in refl
  freeze-all x h (a ∷ l) [] ps = unfold under grown in refl
  freeze-all x h (a ∷ l) (i ∷ is) ps =
      freeze-all x h l is (freeze_one c n f ps a i)
      ∙ ap (λ p. grown c p (under x n f l is)) (freeze-one x ps a i h)
      ∙ sym (grown-append c (find x ps) (cond (eqb x i) (detection_of n f a ∷ []) []) (under x n f l is))
      ∙ ap (grown c (find x ps)) (sym (under-cons n f x a l i is))

  -- the table stays in id order, with at most one entry more for each detection
  pub freeze_up : (l : List Association) (is : List ℕ) (ps : List (ℕ × Prefix)) → Up 0 ps → Up 0 (freeze_all c n f l is ps)
  unfolding freeze_all
  freeze_up [] is ps u = u
  freeze_up (a ∷ l) [] ps u = u
  freeze_up (a ∷ l) (i ∷ is) ps u = freeze_up l is (freeze_one c n f ps a i) (one i)
    where
      one : (i : ℕ) → Up 0 (freeze_one c n f ps a i)
      one zero = u
      one (suc i) = up_put 0 (suc i) (freeze c (find (suc i) ps) (detection_of n f a)) ps (omega arith) u

  pub freeze-length : (l : List Association) (is : List ℕ) (ps : List (ℕ × Prefix)) → length (freeze_all c n f l is ps) ≤ length ps + in_windows is
  unfolding freeze_all
  freeze-length [] is ps = omega arith
  freeze-length (a ∷ l) [] ps = omega arith
  freeze-length (a ∷ l) (i ∷ is) ps = le_trans (freeze-length l is (freeze_one c n f ps a i)) (rw (count-cons (ltb 0) i is) (one i))
    where
      one : (i : ℕ) → length (freeze_one c n f ps a i) + in_windows is ≤ length ps + bump (ltb 0 i) (in_windows is)
      one zero = le_refl (length ps + in_windows is)
      one (suc i) = rw (lt-ltb 0 (suc i) (omega arith)) (omega (arith, put-length (suc i) (freeze c (find (suc i) ps) (detection_of n f a)) ps))

-- ---- the last five

-- the last n of a list, and of what its last n and more are
last_last : {A : Type 0} (n : ℕ) (a b : List A) → drop (length (drop (length a - n) a ++ b) - n) (drop (length a - n) a ++ b) ≡ drop (length (a ++ b) - n) (a ++ b)
last_last n a b =
    let k = length a - n in
    ap (λ l. drop (length l - n) l) (sym (drop-append-le k a b (omega arith)))
    ∙ drop-drop (length (drop k (a ++ b)) - n) k (a ++ b)
    ∙ ap (λ j. drop j (a ++ b)) all
  where
    all : length a - n + (length (drop (length a - n) (a ++ b)) - n) ≡ length (a ++ b) - n
    all = rw (length-drop (length a - n) (a ++ b), length-append a b) (omega arith)

five_recent : (a b : List Float) → recent (recent a ++ b) ≡ recent (a ++ b)
five_recent a b = last_last _ a b

-- ---- a frozen part, field by field from its observations

unfoldable pub over : FgoConfig → Detection → List Detection → Prefix
over c d ds =
    record {
      kf = filter_over c d ds;
      last_frame = (last_of d ds).scan;
      last_ns = (last_of d ds).time;
      count = length (d ∷ ds);
      heights = recent (map (λ e. e.z) (d ∷ ds));
      class = class_over None (d ∷ ds);
    }

last_snoc : (d : Detection) (ds : List Detection) (e : Detection) → last_of d (ds ++ (e ∷ [])) ≡ e
last_snoc d [] e = refl
last_snoc d (b ∷ ds) e = last_snoc b ds e

class_snoc : (k : ClassLabel) (ds : List Detection) (e : Detection) → newer e.class (class_over k ds) ≡ class_over k (ds ++ (e ∷ []))
unfolding class_over
class_snoc k [] e = refl
class_snoc k (d ∷ ds) e = class_snoc (newer d.class k) ds e

-- "A track's class is the newest one known": that of the last observation that has one
newer_known : (n : ℕ) (k : ClassLabel) → newer (Some n) k ≡ Some n
newer_known n None = refl
newer_known n (Some m) = refl

newer_unknown : (k : ClassLabel) → newer None k ≡ k
newer_unknown None = refl
newer_unknown (Some n) = refl

pub class_newest :
    (k : ClassLabel) (n : ℕ) (ds : List Detection) (d : Detection) (es : List Detection) → d.class ≡ Some n → All (λ e. e.class ≡ None) es →
    class_over k (ds ++ (d ∷ es)) ≡ Some n
unfolding class_over
class_newest k n (b ∷ ds) d es h u = class_newest (newer b.class k) n ds d es h u
class_newest k n [] d es h u = ap (λ l. class_over l es) (ap (λ l. newer l k) h ∙ newer_known n k) ∙ stays (Some n) es u
  where
    stays : (k : ClassLabel) (es : List Detection) → All (λ e. e.class ≡ None) es → class_over k es ≡ k
    stays k [] u = refl
    stays k (e ∷ es) u = ap (λ l. class_over l es) (ap (λ l. newer l k) u.0 ∙ newer_unknown k) ∙ stays k es u.1

-- the plain filter over observations starts at the first and moves on by each further one
filter-over : (c : FgoConfig) (d : Detection) (ds : List Detection) → filter_over c d ds ≡ foldl (move_on c) (start_at c d) ds
unfolding filter_over
filter-over c d ds = ap kf_of (go (start_at c d) f64.zero ds)
  where
    go : (k : Kf) (n : Float) (ds : List Detection) →
        (foldl (Plain.further f64 (density c)) (record { filter = filter_of k; nll = n }) (map (observed_of c) ds)).filter ≡ filter_of (foldl (move_on c) k ds)
    go k n [] = refl
    go k n (d ∷ ds) = go (move_on c k d) (Plain.further f64 (density c) (record { filter = filter_of k; nll = n }) (observed_of c d)).nll ds

over_first : (c : FgoConfig) (d : Detection) → freeze c none d ≡ over c d []
unfolding freeze over filter_over class_over
over_first c d = λ i. record { kf = start_at c d; last_frame = d.scan; last_ns = d.time; count = 1; heights = d.z ∷ []; class = known d.class i }
  where
    known : (k : ClassLabel) → k ≡ newer k None
    known None = refl
    known (Some n) = refl

over_snoc : (c : FgoConfig) (d : Detection) (ds : List Detection) (e : Detection) → freeze c (some (over c d ds)) e ≡ over c d (ds ++ (e ∷ []))
unfolding freeze over
over_snoc c d ds e =
    let k : move_on c (filter_over c d ds) e ≡ filter_over c d (ds ++ (e ∷ [])) =
    ap (λ k. move_on c k e) (filter-over c d ds) ∙ sym (filter-over c d (ds ++ (e ∷ [])) ∙ foldl-append (move_on c) (start_at c d) ds (e ∷ [])) in
    let l : e ≡ last_of d (ds ++ (e ∷ [])) = sym (last_snoc d ds e) in
    let n : suc (suc (length ds)) ≡ suc (length (ds ++ (e ∷ []))) = rw (length-append ds (e ∷ [])) (omega arith) in
    let z : recent (recent (map (λ e. e.z) (d ∷ ds)) ++ (e.z ∷ [])) ≡ recent (map (λ e. e.z) (d ∷ (ds ++ (e ∷ [])))) =
    five_recent (map (λ e. e.z) (d ∷ ds)) (e.z ∷ []) ∙ ap recent (sym (map-append (λ e. e.z) (d ∷ ds) (e ∷ []))) in
    let m : newer e.class (class_over None (d ∷ ds)) ≡ class_over None (d ∷ (ds ++ (e ∷ []))) = class_snoc None (d ∷ ds) e in
    λ i. record { kf = k i; last_frame = (l i).scan; last_ns = (l i).time; count = n i; heights = z i; class = m i }

grown_some : (c : FgoConfig) (d : Detection) (ds es : List Detection) → grown c (some (over c d ds)) es ≡ some (over c d (ds ++ es))
unfolding grown
grown_some c d ds [] = ap (λ l. some (over c d l)) (sym (append-nil ds))
grown_some c d ds (e ∷ es) =
    ap (λ p. grown c (some p) es) (over_snoc c d ds e) ∙ grown_some c d (ds ++ (e ∷ [])) es ∙ ap (λ l. some (over c d l)) (append_assoc ds (e ∷ []) es)

grown-over : (c : FgoConfig) (d : Detection) (ds : List Detection) → grown c none (d ∷ ds) ≡ some (over c d ds)
unfolding grown
grown-over c d ds = ap (λ p. grown c (some p) ds) (over_first c d) ∙ grown_some c d [] ds

abbrev pub report_of : FgoConfig → ℤ → ℕ → Option Prefix → Option Listed
report_of c now x none = none
report_of c now x (some p) = some (report c now x p)

-- what is reported of a grown part is what a fresh run gives
pub grown-afresh : (c : FgoConfig) (now : ℤ) (x : ℕ) (ds : List Detection) → report_of c now x (grown c none ds) ≡ afresh c now x ds
unfolding report over afresh
grown-afresh c now x [] = unfold grown in refl
grown-afresh c now x (d ∷ ds) = ap (report_of c now x) (grown-over c d ds)

-- ---- the bounds of a frozen part

last_All : (Q : Detection → Type 0) (d : Detection) (ds : List Detection) → All Q (d ∷ ds) → Q (last_of d ds)
last_All Q d [] h = h.0
last_All Q d (e ∷ ds) h = last_All Q e ds h.1

over_rule :
    (c : FgoConfig) (first : ℕ) (d : Detection) (ds : List Detection) → length (d ∷ ds) ≤ first →
    ((last_of d ds).scan < first) × (time_ok (last_of d ds).time ≡ true) → PrefixRule first (over c d ds)
unfolding over
over_rule c first d ds n q =
    let zs = map (λ (e : Detection). e.z) (d ∷ ds) in
    record {
      some_count = omega arith;
      most_count = n;
      some_height = rw (length-drop _ zs) (omega arith);
      most_height = rw (length-drop _ zs) (omega arith);
      earlier = q.0;
      bounded = q.1;
    }

-- a part that grew over scans in which its id stands at most once, and whose times are in bounds
pub grown_rule :
    (c : FgoConfig) (x : ℕ) (ss : List Scan) {p : Prefix} → All (λ s. times x s.ids ≤ 1) ss → All (λ s. time_ok s.frame.time ≡ true) ss →
    grown c none (window x 0 ss) ≡ some p → PrefixRule (length ss) p
unfolding grown
grown_rule c x ss {p} h g e = go (window x 0 ss) refl
  where
    Q : Detection → Type 0
    Q d = (d.scan < length ss) × (time_ok d.time ≡ true)

    go : (w : List Detection) → window x 0 ss ≡ w → PrefixRule (length ss) p
    go [] q = absurd (none-ne-some _ (ap (grown c none) (sym q) ∙ e))
    go (d ∷ ds) q =
        subst (PrefixRule (length ss)) (some-injective _ _ (sym (grown-over c d ds) ∙ ap (grown c none) (sym q) ∙ e))
        (over_rule c (length ss) d ds (subst (λ w. length w ≤ length ss) q (window-length x 0 ss h))
        (last_All Q d ds (subst (All Q) q (window-All Q (λ f. time_ok f.time ≡ true) (length ss) (λ n f a k t. unfold detection_of in (k, t)) x 0 ss (omega arith) g))))
