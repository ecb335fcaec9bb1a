-- Tables of frozen parts in order: what each part is, what is not there, and what one more keeps. Assumes nothing.
use Prim.Native.Nat.{ℕ, zero, suc, ◌+◌, ◌-◌, ◌≤◌, ◌<◌, compare, Ordering}
use mathlib.Core.Path.{◌≡◌, refl, sym, ◌∙◌}
use mathlib.Core.Bool.{Bool, true, false}
use mathlib.Core.List.{List, [], ◌∷◌, ◌++◌}
use mathlib.Core.Option.{Option, none, some}
use native.Mathlib.Nat.{zero-add}
use native.Mathlib.Omega.{arith}
use borrow.Author.Tests.{ltb-true, ltb-false}
use lib.ListN.{length, length-append, length-drop}
use lib.Dec.{ltb, eqb}
use lib.Ieee.{Float}
use Rattle.bounds.specs.Bounds.{HEIGHTS}
use Rattle.engine.specs.declared.config.FgoConfig.{FgoConfig}
use Rattle.engine.specs.Body.{rows}
use Rattle.fgo_spec.specs.Lists.{find, found_if, put, put_by}
use Rattle.fgo_spec.specs.Windows.{Detection, Prefix}
use Rattle.fgo_spec.specs.Freezing.{freeze}
use Rattle.fgo_spec.proofs.Counting.{compare_eq, compare_lt, compare_gt}
use Rattle.fgo_spec.proofs.Tables.{found_past, Up}
use Rattle.fgo_part.specs.Parts.{entry_in, table_in, Rises}
use Rattle.fgo_freeze.specs.Frozen.{Ordered}
use Rattle.fgo_freeze.proofs.Table.{at, at_later, at_front}

-- ---- what is there

pub ordered_at : (g : ℕ → ℕ × Prefix) (b y i n j : ℕ) → Ordered b y (rows g i n) → j < n → (1 ≤ length (g (i + j)).1.heights) × ((g (i + j)).1.count ≤ b)
unfolding rows
ordered_at g b y i zero j o h = absurd (omega arith)
ordered_at g b y i (suc n) zero o h = let e : i + 0 ≡ i = omega arith in rw e (o.1, o.2)
ordered_at g b y i (suc n) (suc j) o h = let e : i + suc j ≡ suc i + j = omega arith in rw e (ordered_at g b (g i).0 (suc i) n j o.3 (omega arith))

pub ordered_find : (b y x : ℕ) (ps : List (ℕ × Prefix)) {p : Prefix} → Ordered b y ps → find x ps ≡ some p → p.count ≤ b
unfolding find
ordered_find b y x [] o e = absurd (let z : ◌≡◌ {A = ℕ} 0 1 = cc in omega arith)
ordered_find b y x (e ∷ ps) {p} o q = by (eqb x e.0) q (ordered_find b e.0 x ps o.3)
  where
    by : (t : Bool) → found_if t e.1 (find x ps) ≡ some p → (find x ps ≡ some p → p.count ≤ b) → p.count ≤ b
    by true q ih = let z : e.1 ≡ p = cc in rw (← z) o.2
    by false q ih = ih q

-- ---- ids rise

pub ordered_up : (b y : ℕ) (ps : List (ℕ × Prefix)) → Ordered b y ps → Up y ps
ordered_up b y [] o = tt
ordered_up b y (e ∷ ps) o = (o.0, ordered_up b e.0 ps o.3)

up_next : (g : ℕ → ℕ × Prefix) (y i n k : ℕ) → Up y (rows g i n) → suc k < n → (g (i + k)).0 < (g (i + suc k)).0
unfolding rows
up_next g y i zero k u h = absurd (omega arith)
up_next g y i (suc zero) k u h = absurd (omega arith)
up_next g y i (suc (suc n)) zero u h =
    let e : i + 0 ≡ i = omega arith in
    let z : i + 1 ≡ suc i = omega arith in
    rw (e, z) u.1.0
up_next g y i (suc (suc n)) (suc k) u h =
    let e : i + suc k ≡ suc i + k = omega arith in
    let z : i + suc (suc k) ≡ suc i + suc k = omega arith in
    rw (e, z) (up_next g (g i).0 (suc i) (suc n) k u.1 (omega arith))

pub up_rises : (y : ℕ) (tracks : List ℕ) (filters : List Float) (n : ℕ) → Up y (table_in tracks filters n) → Rises tracks n
up_rises y tracks filters n u =
    record {
      next =
          λ k h.
          let z : 0 + k ≡ k = zero-add k in
          let w : 0 + suc k ≡ suc k = zero-add (suc k) in
          rw (z, w) at (up_next (entry_in tracks filters) y 0 n k u h);
    }

pub ordered_rises : (b : ℕ) (tracks : List ℕ) (filters : List Float) (n : ℕ) → Ordered b 0 (table_in tracks filters n) → Rises tracks n
ordered_rises b tracks filters n o = up_rises 0 tracks filters n (ordered_up b 0 (table_in tracks filters n) o)

-- ---- what is not there

none_above : (b y x : ℕ) (ps : List (ℕ × Prefix)) → Ordered b y ps → x ≤ y → find x ps ≡ none
unfolding find
none_above b y x [] o h = refl
none_above b y x (e ∷ ps) o h = found_past x e ps (λ (z : x ≡ e.0). omega (arith, o.0)) ∙ none_above b e.0 x ps o.3 (omega (arith, o.0))

module _ (g : ℕ → ℕ × Prefix) (x b : ℕ) where
  abbrev Absent : ℕ → ℕ → ℕ → ℕ → Type 0
  Absent y i n k = (k < n → (g (i + k)).0 ≡ x → ⊥) → find x (rows g i n) ≡ none

  absent_by : (y i n k : ℕ) (t : Bool) → ltb (g i).0 x ≡ t → k ≡ at g x i (suc n) → Ordered b y (rows g i (suc n)) → Absent (g i).0 (suc i) n (at g x (suc i) n) → Absent y i (suc n) k
  unfolding rows
  absent_by y i n k true l e o ih q =
      let p = ltb-true (g i).0 x l in
      let z : k ≡ suc (at g x (suc i) n) = e ∙ at_later g x i n p in
      let m : i + k ≡ suc i + at g x (suc i) n = omega arith in
      found_past x (g i) (rows g (suc i) n) (λ (u : x ≡ (g i).0). omega arith) ∙ ih (λ h v. q (omega arith) (rw m v))
  absent_by y i n k false l e o ih q =
      let p = ltb-false (g i).0 x l in
      let z : k ≡ 0 = e ∙ at_front g x i n p in
      let m : i + k ≡ i = omega arith in
      let ne : (g i).0 ≡ x → ⊥ = λ (v : (g i).0 ≡ x). q (omega arith) (rw m v) in
      found_past x (g i) (rows g (suc i) n) (λ (u : x ≡ (g i).0). ne (sym u)) ∙ none_above b (g i).0 x (rows g (suc i) n) o.3 p

  pub absent : (y i n k : ℕ) → k ≡ at g x i n → Ordered b y (rows g i n) → Absent y i n k
  unfolding rows find
  absent y i zero k e o q = refl
  absent y i (suc n) k e o q = absent_by y i n k (ltb (g i).0 x) refl e o (absent (g i).0 (suc i) n (at g x (suc i) n) refl o.3) q

-- ---- one more

pub ordered_more : (b d y : ℕ) (ps : List (ℕ × Prefix)) → b ≤ d → Ordered b y ps → Ordered d y ps
ordered_more b d y [] h o = tt
ordered_more b d y (e ∷ ps) h o = (o.0, o.1, omega (arith, o.2), ordered_more b d e.0 ps h o.3)

module _ (b x : ℕ) (a : Prefix) (tall : 1 ≤ length a.heights) (few : a.count ≤ suc b) where
  pub ordered_put : (y : ℕ) (ps : List (ℕ × Prefix)) → Ordered b y ps → y < x → Ordered (suc b) y (put x a ps)
  unfolding put
  ordered_put y [] o h = (h, tall, few, tt)
  ordered_put y (e ∷ ps) o h = by (compare x e.0) refl (ordered_put e.0 ps o.3)
    where
      more : Ordered (suc b) e.0 ps
      more = ordered_more b (suc b) e.0 ps (omega arith) o.3

      by : (c : Ordering) → compare x e.0 ≡ c → (e.0 < x → Ordered (suc b) e.0 (put x a ps)) → Ordered (suc b) y (put_by c (x, a) e ps (put x a ps))
      by Ordering.lt q later = (h, tall, few, (compare_lt x e.0 q, o.1, omega (arith, o.2), more))
      by Ordering.eq q later = (h, tall, few, rw (compare_eq x e.0 q) more)
      by Ordering.gt q later = (o.0, o.1, omega (arith, o.2), later (compare_gt x e.0 q))

-- no part goes
pub put-grows : (x : ℕ) (a : Prefix) (ps : List (ℕ × Prefix)) → length ps ≤ length (put x a ps)
unfolding put
put-grows x a [] = omega arith
put-grows x a (e ∷ ps) = by (compare x e.0) (put-grows x a ps)
  where
    by : (c : Ordering) → length ps ≤ length (put x a ps) → suc (length ps) ≤ length (put_by c (x, a) e ps (put x a ps))
    by Ordering.lt h = omega arith
    by Ordering.eq h = omega arith
    by Ordering.gt h = omega arith

-- ---- a part that was frozen

abbrev Most : ℕ → Option Prefix → Type 0
Most b none = Unit {0}
Most b (some p) = p.count ≤ b

pub most_found : (b y x : ℕ) (ps : List (ℕ × Prefix)) → Ordered b y ps → Most b (find x ps)
most_found b y x ps o = by (find x ps) refl
  where
    by : (q : Option Prefix) → find x ps ≡ q → Most b q
    by none e = tt
    by (some p) e = ordered_find b y x ps o e

-- it has a height
pub frozen_tall : (c : FgoConfig) (o : Option Prefix) (d : Detection) → 1 ≤ length (freeze c o d).heights
unfolding freeze
frozen_tall c none d = omega arith
frozen_tall c (some p) d =
    let l = p.heights ++ (d.z ∷ []) in
    let n : length l ≡ length p.heights + 1 = length-append p.heights (d.z ∷ []) in
    omega (arith, length-drop (length l - HEIGHTS) l)

pub frozen_fits : (c : FgoConfig) (b : ℕ) (o : Option Prefix) (d : Detection) → Most b o → (1 ≤ length (freeze c o d).heights) × ((freeze c o d).count ≤ suc b)
unfolding freeze
frozen_fits c b none d m = (frozen_tall c none d, omega arith)
frozen_fits c b (some p) d m = (frozen_tall c (some p) d, omega arith)
