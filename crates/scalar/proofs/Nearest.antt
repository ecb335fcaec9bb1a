-- Rounding to 53 digits keeps a fraction on its side of a number that has 53, if it lies less than half a unit of that
-- number beyond it. Nothing here is about roots. Assumes nothing.
use Rattle.std.proofs.Common.{◌≡◌, ℕ, suc, ◌+◌, ◌*◌, ◌/◌, ◌%◌, ◌^◌, ◌<◌, ◌≤◌, Bool, true, false, leb, sym, refl, ap, ◌∙◌, subst, inl, inr, le_trans, le_of_eq, lt_of_lt_of_le, le_of_suc-le-suc, lt_of_le_of_lt, mul-le-mul_right, mod-lt, mul_assoc, mul_comm, div-lt_iff_lt-mul, add-mul, lt_of_mul-lt-mul_right, eq-or-lt_of_le, mul-pos, div-add-mod', le-div_iff_mul-le, add-one, arith, pow_pos, pow_mono, pow-add, ne_eqb, le-leb, leb-false, leb-true}
use Prim.Native.Nat.{compare, Ordering}
use lib.Dec.{is_le, compare_is_eq}
use lib.Ieee.{nearest, size}
use lib.Ieee.Digits.{size-lt, size-le, size_reaches}
use lib.Ieee.Fits.{nearest-le}
use lib.Ieee.Nearest.{closest, nearest-ge}
use lib.Ieee.Order.{drop, kept}
use borrow.Author.Tests.{lt-leb}
use Rattle.scalar.proofs.Positive.{not_yes, not_no, pow_lt_back}

-- ---- a / b to the nearest whole number
stays : (w x b : ℕ) → x < b → nearest w (compare x b) ≡ w
stays w x b h = go (compare x b) (le-leb x b (omega arith)) (ne_eqb x b (λ (e : x ≡ b). omega arith))
  where
    go : (o : Ordering) → is_le o ≡ true → compare_is_eq o ≡ false → nearest w o ≡ w
    go Ordering.lt a e = refl
    go Ordering.eq a e = not_no e
    go Ordering.gt a e = not_yes a

rises : (w x b : ℕ) → b < x → nearest w (compare x b) ≡ suc w
rises w x b h = go (compare x b) (lt-leb x b h)
  where
    go : (o : Ordering) → is_le o ≡ false → nearest w o ≡ suc w
    go Ordering.lt a = not_no a
    go Ordering.eq a = not_no a
    go Ordering.gt a = refl

one_more_lem : (w b : ℕ) → (w + 1) * b ≡ w * b + b
one_more_lem w b = let e : (w + 1) * b ≡ w * b + 1 * b = add-mul w 1 b in omega arith

-- a / b below w + 1/2
closest_le : (a b w : ℕ) → 0 < b → 2 * a < 2 * (w * b) + b → closest a b ≤ w
closest_le a b w B h = elim (eq-or-lt_of_le within) [
  | inl e ↦
      let x : w * b + a % b ≡ a = subst (λ (z : ℕ). z * b + a % b ≡ a) e (div-add-mod' a b) in
      le_of_eq (stays (a / b) (a % b * 2) b (omega arith) ∙ e)
  | inr l ↦ le_trans (nearest-le (a / b) (compare (a % b * 2) b)) l
]
  where
    within : a / b ≤ w
    within = le_of_suc-le-suc (subst (λ (z : ℕ). a / b < z) (add-one w) ((div-lt_iff_lt-mul B).1 (omega (arith, one_more_lem w b))))

-- a / b above w - 1/2
closest_ge : (a b w : ℕ) → 0 < b → 2 * (w * b) < 2 * a + b → w ≤ closest a b
closest_ge a b w B h = go (leb w (a / b)) refl
  where
    go : (t : Bool) → leb w (a / b) ≡ t → w ≤ closest a b
    go true e = le_trans (leb-true w (a / b) e) (nearest-ge (a / b) (compare (a % b * 2) b))
    go false e =
        let l : a / b < w = leb-false w (a / b) e in
        let r : a % b < b = mod-lt a B in
        let x : a / b * b + a % b ≡ a = div-add-mod' a b in
        let y : (a / b + 1) * b ≤ w * b = mul-le-mul_right b (omega arith) in
        let m : b < a % b * 2 = omega (arith, one_more_lem (a / b) b) in
        let z : w < a / b + 2 = lt_of_mul-lt-mul_right b (omega (arith, add-mul (a / b) 2 b)) in
        subst (λ (v : ℕ). w ≤ v) (sym (rises (a / b) (a % b * 2) b m)) (omega arith)

-- ---- `kept` and `drop`: the fraction n / c, in units of the smallest value, rounds to kept * 2 ^ drop of them
turn : (j c d : ℕ) → 2 ^ j * (c * 2 ^ d) ≡ 2 ^ (j + d) * c
turn j c d = ap (λ (x : ℕ). 2 ^ j * x) (mul_comm c (2 ^ d)) ∙ sym (mul_assoc (2 ^ j) (2 ^ d) c) ∙ ap (λ (x : ℕ). x * c) (sym (pow-add 2 j d))

-- 53 digits at one unit reach where 52 at a larger one begin
carry : (d k : ℕ) → d < k → 2 ^ 53 * 2 ^ d ≤ 2 ^ 52 * 2 ^ k
carry d k h = le_trans (le_of_eq (sym (pow-add 2 53 d))) (le_trans (pow_mono (omega arith)) (le_of_eq (pow-add 2 52 k)))

module _ (n c r k : ℕ) (C : 0 < c) where
  -- n / c is below 2 ^ 53 * 2 ^ k and below (r + 1/2) * 2 ^ k
  pub rounds_down : 2 ^ 52 ≤ r → n < 2 ^ 53 * (c * 2 ^ k) → 2 * n < 2 * (r * (c * 2 ^ k)) + c * 2 ^ k → kept 53 n c * 2 ^ drop 53 n c ≤ r * 2 ^ k
  rounds_down R h g =
      let d = drop 53 n c in
      let short : size (n / c) ≤ 53 + k = size-le (n / c) (53 + k) ((div-lt_iff_lt-mul C).1 (subst (λ (x : ℕ). n < x) (turn 53 c k) h)) in
      let under : n < 2 ^ 53 * (c * 2 ^ d) = subst (λ (x : ℕ). n < x) (sym (turn 53 c d)) ((div-lt_iff_lt-mul C).0 (lt_of_lt_of_le (size-lt (n / c)) (pow_mono (omega arith)))) in
      elim (eq-or-lt_of_le {n = d} {m = k} (omega arith)) [
        | inl e ↦ subst (λ (x : ℕ). closest n (c * 2 ^ x) * 2 ^ x ≤ r * 2 ^ k) (sym e) (mul-le-mul_right (2 ^ k) (closest_le n (c * 2 ^ k) r (mul-pos C (pow_pos k)) g))
        | inr l ↦
            le_trans (mul-le-mul_right (2 ^ d) (closest_le n (c * 2 ^ d) (2 ^ 53) (mul-pos C (pow_pos d)) (omega arith)))
            (le_trans (carry d k l) (mul-le-mul_right (2 ^ k) R))
      ]

  -- n / c is at least 2 ^ 52 * 2 ^ k and above (r - 1/2) * 2 ^ k
  pub rounds_up : r ≤ 2 ^ 53 → 2 ^ 52 * (c * 2 ^ k) ≤ n → 2 * (r * (c * 2 ^ k)) < 2 * n + c * 2 ^ k → r * 2 ^ k ≤ kept 53 n c * 2 ^ drop 53 n c
  rounds_up R h g =
      let d = drop 53 n c in
      let long : 52 + k < size (n / c) = pow_lt_back (52 + k) (size (n / c)) (lt_of_le_of_lt ((le-div_iff_mul-le C).1 (subst (λ (x : ℕ). x ≤ n) (turn 52 c k) h)) (size-lt (n / c))) in
      let over : 2 ^ 52 * (c * 2 ^ d) ≤ n = subst (λ (x : ℕ). x ≤ n) (sym (turn 52 c d)) ((le-div_iff_mul-le C).0 (size_reaches (n / c) (52 + d) (omega arith))) in
      elim (eq-or-lt_of_le {n = k} {m = d} (omega arith)) [
        | inl e ↦ subst (λ (x : ℕ). r * 2 ^ k ≤ closest n (c * 2 ^ x) * 2 ^ x) e (mul-le-mul_right (2 ^ k) (closest_ge n (c * 2 ^ k) r (mul-pos C (pow_pos k)) g))
        | inr l ↦
            le_trans (mul-le-mul_right (2 ^ k) R)
            (le_trans (carry k d l) (mul-le-mul_right (2 ^ d) (closest_ge n (c * 2 ^ d) (2 ^ 52) (mul-pos C (pow_pos d)) (omega (arith, mul-pos C (pow_pos d))))))
      ]
