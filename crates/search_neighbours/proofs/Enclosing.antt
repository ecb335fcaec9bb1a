-- The extent of a row holds its detections: it grows with each, and keeps those that it holds. So rows whose extents
-- lie far apart are close in no scan. Assumes nothing.
use mathlib.Core.List.{foldl-append}
use Rattle.std.proofs.Common.{◌≡◌, ℕ, zero, suc, ◌+◌, ◌-◌, ◌<◌, ◌≤◌, Bool, true, false, cond, ltb, T, List, [], ◌∷◌, get_or, take, length, sym, refl, ap, ◌∙◌, subst, arith, add-one, get_or-take, length-take-le, below_more}
use Rattle.std.proofs.lemmas.List.{take_more, take_all}
use Rattle.std.proofs.lemmas.Bool.{cond-true, cond-false, lt-ltb}
use native.Mathlib.Decide.{dec_lt}
use lib.Ieee.{Float, lt}
use lib.ListN.{get_or-eq_default}
use Rattle.std.proofs.lemmas.Float.{lt_irrefl, lt_trans, T_from_true}
use Rattle.cost.specs.Cost.{dot_at}
use Rattle.kf.specs.declared.filter.Dot.{Dot}
use Rattle.search_neighbours.specs.declared.extent.Extent.{Extent}
use Rattle.search_neighbours.specs.declared.extent.Span.{Span}
use Rattle.search_neighbours.specs.Extents.{InSpan, Encloses, widened, with_dot, nowhere, with_entry, extent_in, is_far}
use Rattle.search_neighbours.specs.Near.{close_scans, any_close}
use Rattle.search_neighbours.proofs.Far.{fails_if, none_close}

module _ (s : Span) (v : Float) where
  widened_holds : InSpan (widened s v) v
  widened_holds = record { low = down (lt v s.low) refl; high = up (lt s.high v) refl }
    where
      none : lt v v ≡ false
      none = fails_if (lt v v) (lt_irrefl v)

      down : (b : Bool) → lt v s.low ≡ b → lt v (cond b v s.low) ≡ false
      down true e = none
      down false e = e

      up : (b : Bool) → lt s.high v ≡ b → lt (cond b v s.high) v ≡ false
      up true e = none
      up false e = e

  widened_keeps : (u : Float) → InSpan s u → InSpan (widened s v) u
  widened_keeps u p = record { low = down (lt v s.low) refl; high = up (lt s.high v) refl }
    where
      down : (b : Bool) → lt v s.low ≡ b → lt u (cond b v s.low) ≡ false
      down true e = fails_if (lt u v) (λ t. subst T p.low (lt_trans u v s.low t (T_from_true (lt v s.low) e)))
      down false e = p.low

      up : (b : Bool) → lt s.high v ≡ b → lt (cond b v s.high) u ≡ false
      up true e = fails_if (lt v u) (λ t. subst T p.high (lt_trans s.high v u (T_from_true (lt s.high v) e) t))
      up false e = p.high

-- what holds of the first n entries of a row that are there, and of the next, if it is, holds of the first n + 1
each_more : (P : ℕ → Type 0) (row : List ℕ) (n : ℕ) → n < length row → ((k : ℕ) → 0 < get_or (take n row) k 0 → P (get_or (take n row) k 0))
    → (0 < get_or row n 0 → P (get_or row n 0)) → (k : ℕ) → 0 < get_or (take (n + 1) row) k 0 → P (get_or (take (n + 1) row) k 0)
each_more P row n h old new k = go (dec_lt k (n + 1))
  where
    read : (k : ℕ) → k < n + 1 → 0 < get_or row k 0 → P (get_or row k 0)
    read = below_more (λ (k : ℕ). 0 < get_or row k 0 → P (get_or row k 0)) n (λ k g. subst (λ x. 0 < x → P x) (get_or-take n row k 0 g) (old k)) new

    go : Dec (k < n + 1) → 0 < get_or (take (n + 1) row) k 0 → P (get_or (take (n + 1) row) k 0)
    go (yes g) = subst (λ x. 0 < x → P x) (sym (get_or-take (n + 1) row k 0 g)) (read k g)
    go (no g) = λ p. absurd (omega (arith, p, get_or-eq_default (take (n + 1) row) 0 {n = k} (omega (arith, g, length-take-le (n + 1) row (omega arith)))))

module _ {dots : List Dot} (row : List ℕ) {n : ℕ} {e : Extent} (o : Encloses dots (take n row) e) (h : n < length row) where
  enclosing_more : Encloses dots (take (n + 1) row) (with_dot e (dot_at dots (get_or row n 0 - 1)))
  enclosing_more =
      let d = dot_at dots (get_or row n 0 - 1) in
      record {
        x = each_more (λ i. InSpan (widened e.x d.x) (dot_at dots (i - 1)).x) row n h (λ k p. widened_keeps e.x d.x _ (o.x k p)) (λ p. widened_holds e.x _);
        y = each_more (λ i. InSpan (widened e.y d.y) (dot_at dots (i - 1)).y) row n h (λ k p. widened_keeps e.y d.y _ (o.y k p)) (λ p. widened_holds e.y _);
      }

  enclosing_none : get_or row n 0 ≡ 0 → Encloses dots (take (n + 1) row) e
  enclosing_none z =
      record {
        x = each_more (λ i. InSpan e.x (dot_at dots (i - 1)).x) row n h o.x (λ p. absurd (omega arith));
        y = each_more (λ i. InSpan e.y (dot_at dots (i - 1)).y) row n h o.y (λ p. absurd (omega arith));
      }

-- ---- the extent of a row's first entries, with one entry more
module _ (dots : List Dot) (row : List ℕ) (n : ℕ) (h : n < length row) where
  extent_more : extent_in dots (take (n + 1) row) ≡ with_entry dots (extent_in dots (take n row)) (get_or row n 0)
  unfolding extent_in
  extent_more = ap (extent_in dots) (take_more row n 0 h) ∙ foldl-append (with_entry dots) nowhere (take n row) (get_or row n 0 ∷ [])

  pub extent_with : 0 < get_or row n 0 → extent_in dots (take (n + 1) row) ≡ with_dot (extent_in dots (take n row)) (dot_at dots (get_or row n 0 - 1))
  extent_with p = extent_more ∙ cond-true (ltb 0 (get_or row n 0)) _ _ (lt-ltb 0 _ p)

  pub extent_without : get_or row n 0 ≡ 0 → extent_in dots (take (n + 1) row) ≡ extent_in dots (take n row)
  extent_without z = extent_more ∙ cond-false (ltb 0 (get_or row n 0)) _ _ (rw z refl)

-- ---- the extent of a row holds its detections
module _ (dots : List Dot) (row : List ℕ) where
  first_more : (n : ℕ) → n < length row → Encloses dots (take n row) (extent_in dots (take n row)) → Dec (0 < get_or row n 0) → Encloses dots (take (n + 1) row) (extent_in dots (take (n + 1) row))
  first_more n h o (yes p) = rw (extent_with dots row n h p) (enclosing_more row o h)
  first_more n h o (no p) = let z : get_or row n 0 ≡ 0 = omega (arith, p) in rw (extent_without dots row n h z) (enclosing_none row o h z)

  holds_first : (n : ℕ) → n ≤ length row → Encloses dots (take n row) (extent_in dots (take n row))
  holds_first zero h = record { x = λ k p. absurd (omega (arith, p, none k)); y = λ k p. absurd (omega (arith, p, none k)) }
    where
      none : (k : ℕ) → get_or (take 0 row) k 0 ≡ 0
      none k = get_or-eq_default (take 0 row) 0 {n = k} (omega (arith, length-take-le 0 row (omega arith)))
  holds_first (suc n) h = subst (λ m. Encloses dots (take m row) (extent_in dots (take m row))) (add-one n) (first_more n (omega (arith, h)) (holds_first n (omega (arith, h))) (dec_lt 0 (get_or row n 0)))

  pub encloses : Encloses dots row (extent_in dots row)
  encloses = subst (λ r. Encloses dots r (extent_in dots r)) (take_all (length row) row (omega arith)) (holds_first (length row) (omega arith))

-- ---- rows whose extents lie far apart are close in no scan
pub far_rows : (radius2 : Float) (dots : List Dot) (a b : List ℕ) → is_far radius2 (extent_in dots a) (extent_in dots b) ≡ true → any_close (close_scans radius2 dots a b) ≡ false
far_rows radius2 dots a b far = none_close radius2 dots (extent_in dots a) (extent_in dots b) far a b (encloses dots a) (encloses dots b)
