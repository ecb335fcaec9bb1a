-- The law of the root: `root_of` of a positive f64 is its real root rounded to the nearest, ties to even. Assumes
-- nothing.
use Rattle.std.proofs.Common.{◌≡◌, ℕ, ◌+◌, ◌-◌, ◌*◌, ◌/◌, ◌%◌, ◌^◌, ◌<◌, ◌≤◌, Bool, true, false, cond, T, ltb, sym, ap, ◌∙◌, subst, le_trans, le_of_eq, lt_of_lt_of_le, lt_of_le_of_lt, mul-le-mul_right, mul_assoc, mul_comm, add-mul, mul-lt-mul_of_pos_right, mul-pos, zero-mul, le_of_mul-le-mul_right, mul_left_comm, arith, lit<, ltb→lt, pow_pos, pow-add, lt-ltb}
use native.Mathlib.Nat.{mul-mul-mul_comm}
use lib.Count.{count_leading_zeros}
use lib.Pow.{pow-lt}
use lib.Ieee.{Float, nan, inf, fin, binary64, fits, odd, units, round, le, lt, of_bits, up, down}
use lib.Ieee.Exact.{HasValue, odd_sign}
use lib.Ieee.Fits.{odd-fits, round_is, up_pos}
use lib.Ieee.Order.{drop, kept, le_of_values}
use lib.Ieee.Positive.{num, den, den_pos, positive, value→cross}
use lib.Ieee.Scale.{grid, overflow, round_val}
use Rattle.scalar.specs.declared.digits.Digits.{Digits}
use Rattle.scalar.specs.declared.digits.Digits.TheVariants.{Finite, Infinite, Zero, Other}
use Rattle.scalar.specs.Digits.{IsFinite, nil, digits_of, Falls}
use Rattle.scalar.specs.Root.{root_of, near_root, NearestRoot}
use Rattle.scalar.proofs.Positive.{Shift, shift, full, falls, not_no}
use Rattle.scalar.proofs.NotPositive.{zero_of}
use Rattle.scalar.proofs.RootDigits.{sq_even, sq_odd}
use Rattle.scalar.proofs.Floor.{IsNear, near_law, sq_next, sq_le, sq_lt}
use Rattle.scalar.proofs.RootScale.{brought, gather, parity, once_or_twice}
use Rattle.scalar.proofs.Nearest.{rounds_down, rounds_up}

-- ---- P / u stands beside the root of n: on its side of c / 2, if that root does
module _ (P n u c : ℕ) where
  four-times : n * (u * u) * 4 ≡ 4 * n * (u * u)
  four-times = mul_comm (n * (u * u)) 4 ∙ sym (mul_assoc 4 n (u * u))

  root-lt : 0 < u → P * P ≤ n * (u * u) → 4 * n < c * c → 2 * P < c * u
  root-lt U h g =
      sq_lt (2 * P) (c * u)
      (subst (λ (x : ℕ). 2 * P * (2 * P) < x) (mul-mul-mul_comm c c u u)
      (lt_of_le_of_lt (omega (arith, sq_even P, four-times)) (mul-lt-mul_of_pos_right g (mul-pos U U))))

  root-gt : 0 < u → n * (u * u) ≤ P * P → c * c < 4 * n → c * u < 2 * P
  root-gt U h g =
      sq_lt (c * u) (2 * P)
      (subst (λ (x : ℕ). x < 2 * P * (2 * P)) (mul-mul-mul_comm c c u u)
      (lt_of_lt_of_le (mul-lt-mul_of_pos_right g (mul-pos U U)) (omega (arith, sq_even P, four-times))))

  root_ge : n * (u * u) ≤ P * P → c * c ≤ 4 * n → c * u ≤ 2 * P
  root_ge h g =
      sq_le (c * u) (2 * P)
      (subst (λ (x : ℕ). x ≤ 2 * P * (2 * P)) (mul-mul-mul_comm c c u u)
      (le_trans (mul-le-mul_right (u * u) g) (omega (arith, sq_even P, four-times))))

-- ---- a fraction beside the root of n * 4 ^ k units rounds to the same side of r * 2 ^ k units
module _ (n r k : ℕ) (many : 2 ^ 104 ≤ n) (few : n < 2 ^ 106) (v : IsNear n r) where
  over : 4 * n < (2 * r + 1) * (2 * r + 1)
  over = omega (arith, v.above, sq_odd r)

  least : 2 ^ 52 ≤ r
  least = omega (arith, sq_lt (2 ^ 53) (2 * r + 1) (omega (arith, over)))

  less_one : r ≡ r - 1 + 1
  less_one = omega (arith, least)

  under : (2 * (r - 1) + 1) * (2 * (r - 1) + 1) < 4 * n
  under = omega (arith, v.below (omega arith), sq_next (r - 1), ap (λ (x : ℕ). x * x) less_one, less_one, sq_odd (r - 1))

  most : r ≤ 2 ^ 53
  most = omega (arith, sq_lt (2 * (r - 1) + 1) (2 ^ 54) (omega (arith, under)))

  root-down : (P c : ℕ) → 0 < c → P * P ≤ n * (c * 2 ^ k * (c * 2 ^ k)) → kept 53 P c * 2 ^ drop 53 P c ≤ r * 2 ^ k
  root-down P c C h =
      let u = c * 2 ^ k in
      let U : 0 < u = mul-pos C (pow_pos k) in
      rounds_down P c r k C least (omega (arith, root-lt P n u (2 ^ 54) U h (omega arith)))
      (omega (arith, root-lt P n u (2 * r + 1) U h over, add-mul (2 * r) 1 u, mul_assoc 2 r u))

  root-up : (P c : ℕ) → 0 < c → n * (c * 2 ^ k * (c * 2 ^ k)) ≤ P * P → r * 2 ^ k ≤ kept 53 P c * 2 ^ drop 53 P c
  root-up P c C h =
      let u = c * 2 ^ k in
      let U : 0 < u = mul-pos C (pow_pos k) in
      let e : r * u ≡ (r - 1) * u + 1 * u = ap (λ (x : ℕ). x * u) less_one ∙ add-mul (r - 1) 1 u in
      rounds_up P c r k C most (omega (arith, root_ge P n u (2 ^ 53) h (omega arith)))
      (omega (arith, root-gt P n u (2 * (r - 1) + 1) U h under, add-mul (2 * (r - 1)) 1 u, mul_assoc 2 (r - 1) u))

-- ---- p / c beside the root of a / d, in whole numbers: a / d is x / L, and n * K² is x * L
module _ (p c a d x n L K : ℕ) (D : 0 < d) (value : a * L ≡ x * d) (scale : n * (K * K) ≡ x * L) where
  left : p * p * d * (L * L) ≡ p * L * (p * L) * d
  left = simp (mul_assoc, mul_comm, mul_left_comm)

  right : a * (c * c) * (L * L) ≡ n * (c * K * (c * K)) * d
  right =
      let v : a * L * (L * (c * c)) ≡ x * d * (L * (c * c)) = ap (λ (z : ℕ). z * (L * (c * c))) value in
      let w : n * (K * K) * (d * (c * c)) ≡ x * L * (d * (c * c)) = ap (λ (z : ℕ). z * (d * (c * c))) scale in
      let e1 : a * (c * c) * (L * L) ≡ a * L * (L * (c * c)) = simp (mul_assoc, mul_comm, mul_left_comm) in
      let e2 : x * d * (L * (c * c)) ≡ x * L * (d * (c * c)) = simp (mul_assoc, mul_comm, mul_left_comm) in
      let e3 : n * (c * K * (c * K)) * d ≡ n * (K * K) * (d * (c * c)) = simp (mul_assoc, mul_comm, mul_left_comm) in
      e1 ∙ v ∙ e2 ∙ sym w ∙ sym e3

  to_below : p * p * d ≤ a * (c * c) → p * L * (p * L) ≤ n * (c * K * (c * K))
  to_below h = le_of_mul-le-mul_right (le_trans (le_of_eq (sym left)) (le_trans (mul-le-mul_right (L * L) h) (le_of_eq right))) D

  to-above : a * (c * c) ≤ p * p * d → n * (c * K * (c * K)) ≤ p * L * (p * L)
  to-above h = le_of_mul-le-mul_right (le_trans (le_of_eq (sym right)) (le_trans (mul-le-mul_right (L * L) h) (le_of_eq left))) D

-- ---- a value against what `round` gives, which may be an infinity
under_infinity : (x : Float) (a c : ℕ) → HasValue x false a c → T (le x (inf false))
unfolding le
under_infinity nan a c v = absurd v
under_infinity (inf s) a c v = absurd v
under_infinity (fin s m e) a c v = tt

at_most_units : (x : Float) (a q k : ℕ) → HasValue x false a (2 ^ 1074) → a ≤ q * 2 ^ k → T (le x (units binary64 false q k))
unfolding units
at_most_units x a q k v h = go (ltb (q * 2 ^ k) (overflow binary64))
  where
    go : (b : Bool) → T (le x (cond b (odd 54 false q k 1074) (inf false)))
    go true = le_of_values x (odd 54 false q k 1074) a (2 ^ 1074) (q * 2 ^ k) (2 ^ 1074) (pow_pos 1074) (pow_pos 1074) v (odd_sign 54 false q k 1074) (mul-le-mul_right (2 ^ 1074) h)
    go false = under_infinity x a (2 ^ 1074) v

-- ---- the law, from the digits
law : (a : Float) (q y : ℕ) → IsFinite a q y → NearestRoot a
law a q y f =
    let z = count_leading_zeros 64 q in
    let s = z - 11 in
    let sh : Shift q z = shift q f.some f.few in
    let i = y + (52 - s) in
    let k = i / 2 + 485 in
    let n = q * 2 ^ s * (1 + i % 2) * 2 ^ 52 in
    let r = near_root 53 n in
    let twice = once_or_twice (q * 2 ^ s) (i % 2) (omega arith) in
    let many : 2 ^ 104 ≤ n = omega (arith, sh.least, twice) in
    let few : n < 2 ^ 106 = omega (arith, sh.most, twice) in
    let near : IsNear n r = near_law 53 n few in
    let is : root_of a ≡ odd 54 false r k 1074 = ap root_of f.is ∙ brought f.some f.few (full y sh) in
    let top : r ≤ 2 ^ 53 = most n r k many few near in
    let small : r * 2 ^ k < overflow binary64 = lt_of_le_of_lt (mul-le-mul_right (2 ^ k) top) (subst (λ (x : ℕ). x < overflow binary64) (pow-add 2 53 k) (pow-lt {j = 2098} (omega (arith, f.low)))) in
    let value : num a * 2 ^ 1074 ≡ q * 2 ^ y * den a = value→cross a (q * 2 ^ y) (2 ^ 1074) (subst (λ (x : Float). HasValue x false (q * 2 ^ y) (2 ^ 1074)) (sym f.is) (odd_sign 53 false q y 1074)) in
    let answer : HasValue (root_of a) false (r * 2 ^ k) (2 ^ 1074) = subst (λ (x : Float). HasValue x false (r * 2 ^ k) (2 ^ 1074)) (sym is) (odd_sign 54 false r k 1074) in
    let sum : s + i % 2 + 52 + (k + k) ≡ y + 1074 = omega (arith, sh.under) in
    let scale : n * (2 ^ k * 2 ^ k) ≡ q * 2 ^ y * 2 ^ 1074 =
    ap (λ (x : ℕ). q * 2 ^ s * x * 2 ^ 52 * (2 ^ k * 2 ^ k)) (sym (parity i)) ∙ ap (λ (x : ℕ). q * 2 ^ s * 2 ^ (i % 2) * 2 ^ 52 * x) (sym (pow-add 2 k k))
    ∙ gather q s (i % 2) 52 (k + k) ∙ ap (λ (x : ℕ). q * 2 ^ x) sum ∙ ap (λ (x : ℕ). q * x) (pow-add 2 y 1074) ∙ sym (mul_assoc q (2 ^ y) (2 ^ 1074)) in
    record {
      held = subst (λ (x : Float). T (fits binary64 x)) (sym is) (odd-fits binary64 54 false r k (lt_of_le_of_lt top (lit< tt)) top small);
      below = λ p c C h.
          let g = root-down n r k many few near (p * 2 ^ 1074) c C (to_below p c (num a) (den a) (q * 2 ^ y) n (2 ^ 1074) (2 ^ k) (den_pos a) value scale h) in
          le_of_values (round binary64 false p c) (root_of a) (grid binary64 p c) (2 ^ 1074) (r * 2 ^ k) (2 ^ 1074) (pow_pos 1074) (pow_pos 1074) (round_val binary64 p c (lt_of_le_of_lt g small)) answer (mul-le-mul_right (2 ^ 1074) g);
      above = λ p c C h.
          let g = root-up n r k many few near (p * 2 ^ 1074) c C (to-above p c (num a) (den a) (q * 2 ^ y) n (2 ^ 1074) (2 ^ k) (den_pos a) value scale h) in
          subst (λ (x : Float). T (le (root_of a) x)) (sym (round_is binary64 false p c)) (at_most_units (root_of a) (r * 2 ^ k) (kept 53 (p * 2 ^ 1074) c) (drop 53 (p * 2 ^ 1074) c) answer g);
    }

above_nil : (a : Float) → T (positive a) → lt nil a ≡ true
unfolding lt of_bits
above_nil nan p = absurd p
above_nil (inf s) p = absurd p
above_nil (fin true m e) p = absurd p
above_nil (fin false m e) p = lt-ltb (0 * down e) (m * up e * 1) (omega (arith, mul-pos (ltb→lt 0 m p) (up_pos e), zero-mul (down e)))

pub root_nearest : (a : Float) → T (fits binary64 a) → T (positive a) → NearestRoot a
root_nearest a h p = go (digits_of a) (falls a h)
  where
    go : (d : Digits) → Falls a d → NearestRoot a
    go (Finite q y) f = law a q y f
    go Infinite e = absurd (subst (λ (x : Float). T (positive x)) e p)
    go Zero e = absurd (zero_of (λ (x : Float). T (positive x) → ⊥) (elim [ true ↦ λ x p. p | false ↦ λ x p. p ]) a e p)
    go Other f = not_no (sym (above_nil a p) ∙ f.0)
