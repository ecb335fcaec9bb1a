-- Two rows within extents that lie far apart are close in no scan. A difference keeps the order of what it is made of,
-- and so does a square: of any two detections of the rows the difference of one coordinate is at least the gap, and
-- their squared distance at least its square. Assumes nothing.
use Rattle.std.proofs.Common.{◌≡◌, ℕ, zero, suc, ◌+◌, ◌-◌, ◌<◌, Bool, true, false, ◌||◌, T, List, [], ◌∷◌, get_or, map, ◌⊎◌, refl, subst, inl, inr, arith}
use lib.Ieee.{Float, binary64, lt, le, of_bits}
use lib.Dec.{eqb-suc-zero}
use lib.Ieee.Fits.{mul-fits, and_l, and_r}
use Rattle.bounds.specs.Bounds.{SCANS}
use Rattle.std.specs.Float.{NotNan, ◌≤ᶠ◌, float_zero}
use Rattle.std.proofs.lemmas.Float.{lt_irrefl, le_of_lt, lt_of_le_of_lt, le_of_not-lt, le_trans, le_left, le_right, T_from_true, T_from_false}
use Rattle.scalar.proofs.Monotone.{add_numbers, sub_numbers, mul_numbers, sub_mono, square_mono, square_not_negative, square_flip, le_add_left, le_add_right}
use Rattle.cost.specs.Cost.{dot_at}
use Rattle.fgo_spec.specs.Lists.{any, up_from}
use Rattle.fgo_spec.specs.Searching.{◌⊕◌, ◌⊖◌, square}
use Rattle.kf.specs.declared.filter.Dot.{Dot}
use Rattle.search_neighbours.specs.declared.extent.Extent.{Extent}
use Rattle.search_neighbours.specs.declared.extent.Span.{Span}
use Rattle.search_neighbours.specs.Extents.{InSpan, Encloses, is_wide, are_apart, is_far}
use Rattle.search_neighbours.specs.Near.{near_slots, close_at, close_scans, any_close}

-- a test that leads to an absurdity fails
pub fails_if : (b : Bool) → (T b → ⊥) → b ≡ false
fails_if true h = absurd (h tt)
fails_if false h = refl

or_split : (a b : Bool) → T (a || b) → T a ⊎ T b
or_split true b t = inl tt
or_split false b t = inr t

zero_is : of_bits binary64 0 ≡ float_zero
unfolding of_bits
zero_is = refl

-- ---- v is low or above, w is high or below, and the gap between low and high is wide
module _ (radius2 low high v w : Float) (wide : T (is_wide radius2 (low ⊖ high))) (from : lt v low ≡ false) (to : lt high w ≡ false) where
  no_less : NotNan (v ⊖ w) → radius2 ≤ᶠ square (v ⊖ w)
  no_less h =
      let gap = low ⊖ high in
      let some : float_zero ≤ᶠ gap = subst (λ z. z ≤ᶠ gap) zero_is (and_l (le (of_bits binary64 0) gap) (le radius2 (square gap)) wide) in
      let there = le_right float_zero gap some in
      let ends = sub_numbers binary64 low high there in
      let both = sub_numbers binary64 v w h in
      let below = le_of_not-lt v low both.0 ends.0 (T_from_false (lt v low) from) in
      let above = le_of_not-lt high w ends.1 both.1 (T_from_false (lt high w) to) in
      le_trans radius2 (square gap) (square (v ⊖ w)) (and_r (le (of_bits binary64 0) gap) (le radius2 (square gap)) wide)
      (square_mono binary64 gap (v ⊖ w) some (sub_mono binary64 low v high w below above there h))

  -- so no sum of its square and another is below radius²
  apart : (u : Float) → (lt (square (v ⊖ w) ⊕ square u) radius2 ≡ false) × (lt (square u ⊕ square (v ⊖ w)) radius2 ≡ false)
  apart u =
      let d = v ⊖ w in
      let a = square d ⊕ square u in
      let b = square u ⊕ square d in (
        fails_if (lt a radius2) (λ t.
            let o = le_left a radius2 (le_of_lt a radius2 t) in
            let n = add_numbers binary64 (square d) (square u) o in
            let more = le_add_right binary64 (square d) (square u) (mul-fits binary64 d d) (square_not_negative binary64 u (mul_numbers binary64 u u n.1).0) o in
            lt_irrefl radius2 (lt_of_le_of_lt radius2 a radius2 (le_trans radius2 (square d) a (no_less (mul_numbers binary64 d d n.0).0) more) t)),
        fails_if (lt b radius2) (λ t.
            let o = le_left b radius2 (le_of_lt b radius2 t) in
            let n = add_numbers binary64 (square u) (square d) o in
            let more = le_add_left binary64 (square u) (square d) (square_not_negative binary64 u (mul_numbers binary64 u u n.0).0) (mul-fits binary64 d d) o in
            lt_irrefl radius2 (lt_of_le_of_lt radius2 b radius2 (le_trans radius2 (square d) b (no_less (mul_numbers binary64 d d n.1).0) more) t)),
      )

-- ---- v and w lie in spans that are apart
apart_in : (radius2 : Float) (s t : Span) (v w : Float) → T (are_apart radius2 s t) → InSpan s v → InSpan t w
    → (u : Float) → (lt (square (v ⊖ w) ⊕ square u) radius2 ≡ false) × (lt (square u ⊕ square (v ⊖ w)) radius2 ≡ false)
apart_in radius2 s t v w e p q u = elim (or_split (is_wide radius2 (s.low ⊖ t.high)) (is_wide radius2 (t.low ⊖ s.high)) e) [
  | inl l ↦ apart radius2 s.low t.high v w l p.low q.high u
  | inr r ↦ rw (square_flip binary64 v w) (apart radius2 t.low s.high w v r q.low p.high u)
]

-- ---- entries of two rows, by where their detections lie
module _ (radius2 : Float) (dots : List Dot) (e f : Extent) (far : is_far radius2 e f ≡ true) where
  abbrev Lies : Extent → ℕ → Type 0
  Lies e i = (0 < i → InSpan e.x (dot_at dots (i - 1)).x) × (0 < i → InSpan e.y (dot_at dots (i - 1)).y)

  not_near : (i j : ℕ) → Lies e i → Lies f j → near_slots radius2 dots i j ≡ false
  unfolding near_slots
  not_near zero j p q = refl
  not_near (suc i) zero p q = rw (eqb-suc-zero i) refl
  not_near (suc i) (suc j) p q = rw (eqb-suc-zero i, eqb-suc-zero j) (elim (or_split (are_apart radius2 e.x f.x) (are_apart radius2 e.y f.y) (T_from_true _ far)) [
    | inl x ↦ (apart_in radius2 e.x f.x _ _ x (p.0 (omega arith)) (q.0 (omega arith)) _).0
    | inr y ↦ (apart_in radius2 e.y f.y _ _ y (p.1 (omega arith)) (q.1 (omega arith)) _).1
  ])

  -- ---- the rows
  module _ (a b : List ℕ) (mine : Encloses dots a e) (other : Encloses dots b f) where
    at : (k l : ℕ) → near_slots radius2 dots (get_or a k 0) (get_or b l 0) ≡ false
    at k l = not_near (get_or a k 0) (get_or b l 0) (mine.x k, mine.y k) (other.x l, other.y l)

    not_close_at : (k : ℕ) → close_at radius2 dots a b k ≡ false
    unfolding close_at
    not_close_at k = rw (at k k, at k (k + 1), at (k + 1) k) refl

    none : (ks : List ℕ) → any_close (map (close_at radius2 dots a b) ks) ≡ false
    unfolding any
    none [] = refl
    none (k ∷ ks) = rw (not_close_at k) (none ks)

    pub none_close : any_close (close_scans radius2 dots a b) ≡ false
    unfolding close_scans
    none_close = none (up_from 0 SCANS)
