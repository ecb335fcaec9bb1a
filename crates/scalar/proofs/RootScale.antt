-- From the digits of a positive f64 to those of its root. Assumes nothing.
use Rattle.std.proofs.Common.{◌≡◌, ℕ, zero, suc, ◌+◌, ◌-◌, ◌*◌, ◌/◌, ◌%◌, ◌^◌, ◌<◌, ◌≤◌, Bool, false, cond, not, T, leb, ℤ, sym, refl, ap, ◌∙◌, subst, inl, inr, lt_irrefl, mul-le-mul_right, mul_assoc, mul_comm, lt_of_mul-lt-mul_right, eq-or-lt_of_le, mul-lt-mul_of_pos_right, mul_right_comm, le_of_mul-le-mul_right, mul-div_cancel, arith, lit<, pow_pos, pow-add, le-ltb, ne_eqb, le-leb}
use lib.Ieee.{Float, fin, binary64, up, down, minus, size, odd, of_bits, nan_bits}
use lib.Ieee.Digits.{minus_val}
use lib.Ieee.Fits.{down_pos}
use borrow.Author.Tests.{lt-leb}
use lib.Ieee.Bits.{nan_bits_above}
use Rattle.scalar.specs.Digits.{Full}
use Rattle.scalar.proofs.Positive.{oddly, odd_shift, size_exact}
use Rattle.scalar.proofs.Floor.{near_is, root_big}
use Rattle.scalar.specs.Root.{root_of, near_root}

-- the digit where the root's parity stands: 2 ^ p for p = 0 or 1
pub parity : (i : ℕ) → 2 ^ (i % 2) ≡ 1 + i % 2
parity i = go (i % 2) (omega arith)
  where
    go : (p : ℕ) → p < 2 → 2 ^ p ≡ 1 + p
    go zero h = refl
    go (suc zero) h = refl
    go (suc (suc p)) h = absurd (lt_irrefl 0 (omega arith))

-- ---- the definition, at a number of x smallest values with i + 1 digits
units : (m a l : ℕ) → m * up (minus a l) * 2 ^ l / down (minus a l) ≡ m * 2 ^ a
units m a l = ap (λ (x : ℕ). x / down (minus a l)) (minus_val m a l) ∙ mul-div_cancel (m * 2 ^ a) (down_pos (minus a l))

abbrev pub root_at : ℕ → ℕ → Float
root_at x i = odd 54 false (near_root 53 (x * 2 ^ (104 + i % 2) / 2 ^ i)) (i / 2 + 485) 1074

root_fin : (m : ℕ) (e : ℤ) → 0 < m → root_of (fin false m e) ≡ root_at (m * up e * 2 ^ 1074 / down e) (size (m * up e * 2 ^ 1074 / down e) - 1)
unfolding root_of
root_fin zero e h = absurd (lt_irrefl 0 h)
root_fin (suc m) e h = refl

root_odd : (q y : ℕ) → 0 < q → q < 2 ^ 53 → root_of (odd 53 false q y 1074) ≡ root_at (q * 2 ^ y) (size (q * 2 ^ y) - 1)
root_odd q y h k =
    let o = oddly 53 q h k in
    let m = o.part in
    let z = o.zeros in
    let e1 : odd 53 false q y 1074 ≡ fin false m (minus (y + z) 1074) = ap (λ (x : ℕ). odd 53 false x y 1074) (sym o.is) ∙ odd_shift 53 false m z y 1074 o.odd_part o.few in
    let x : m * up (minus (y + z) 1074) * 2 ^ 1074 / down (minus (y + z) 1074) ≡ q * 2 ^ y =
    units m (y + z) 1074 ∙ ap (λ (w : ℕ). m * w) (pow-add 2 y z ∙ mul_comm (2 ^ y) (2 ^ z)) ∙ sym (mul_assoc m (2 ^ z) (2 ^ y)) ∙ ap (λ (w : ℕ). w * 2 ^ y) o.is in
    ap root_of e1 ∙ root_fin m (minus (y + z) 1074) (omega (arith, o.odd_part)) ∙ ap (λ (w : ℕ). root_at w (size w - 1)) x

-- ---- with 53 digits q * 2 ^ s
length_is : (q y s : ℕ) → Full q y (q * 2 ^ s) (y + (52 - s)) → s < 53 → size (q * 2 ^ y) - 1 ≡ y + (52 - s)
length_is q y s f under =
    let i = y + (52 - s) in
    let turn : q * 2 ^ y * 2 ^ s ≡ q * 2 ^ s * 2 ^ y = mul_right_comm q (2 ^ y) (2 ^ s) in
    let a : 52 + y ≡ i + s = omega (arith, under) in
    let b : 53 + y ≡ suc i + s = omega (arith, under) in
    let lo : 2 ^ i * 2 ^ s ≤ q * 2 ^ y * 2 ^ s = subst (λ (x : ℕ). 2 ^ i * 2 ^ s ≤ x) (sym turn) (subst (λ (x : ℕ). x ≤ q * 2 ^ s * 2 ^ y) (sym (pow-add 2 52 y) ∙ ap (λ (x : ℕ). 2 ^ x) a ∙ pow-add 2 i s) (mul-le-mul_right (2 ^ y) f.least)) in
    let hi : q * 2 ^ y * 2 ^ s < 2 ^ suc i * 2 ^ s = subst (λ (x : ℕ). x < 2 ^ suc i * 2 ^ s) (sym turn) (subst (λ (x : ℕ). q * 2 ^ s * 2 ^ y < x) (sym (pow-add 2 53 y) ∙ ap (λ (x : ℕ). 2 ^ x) b ∙ pow-add 2 (suc i) s) (mul-lt-mul_of_pos_right f.most (pow_pos y))) in
    let z : size (q * 2 ^ y) ≡ suc i = size_exact i (q * 2 ^ y) (le_of_mul-le-mul_right lo (pow_pos s)) (lt_of_mul-lt-mul_right (2 ^ s) hi) in
    omega arith

-- powers of two gathered
pub gather : (q a b c d : ℕ) → q * 2 ^ a * 2 ^ b * 2 ^ c * 2 ^ d ≡ q * 2 ^ (a + b + c + d)
gather q a b c d =
    ap (λ (x : ℕ). x * 2 ^ c * 2 ^ d) (mul_assoc q (2 ^ a) (2 ^ b) ∙ ap (λ (x : ℕ). q * x) (sym (pow-add 2 a b)))
    ∙ ap (λ (x : ℕ). x * 2 ^ d) (mul_assoc q (2 ^ (a + b)) (2 ^ c) ∙ ap (λ (x : ℕ). q * x) (sym (pow-add 2 (a + b) c)))
    ∙ mul_assoc q (2 ^ (a + b + c)) (2 ^ d)
    ∙ ap (λ (x : ℕ). q * x) (sym (pow-add 2 (a + b + c) d))

square_is : (q y s p : ℕ) → s < 53 → q * 2 ^ y * 2 ^ (104 + p) / 2 ^ (y + (52 - s)) ≡ q * 2 ^ s * 2 ^ p * 2 ^ 52
square_is q y s p h =
    let i = y + (52 - s) in
    let even : s + p + 52 + i ≡ y + (104 + p) = omega arith in
    let top : q * 2 ^ y * 2 ^ (104 + p) ≡ q * 2 ^ s * 2 ^ p * 2 ^ 52 * 2 ^ i =
    mul_assoc q (2 ^ y) (2 ^ (104 + p)) ∙ ap (λ (x : ℕ). q * x) (sym (pow-add 2 y (104 + p)) ∙ ap (λ (x : ℕ). 2 ^ x) (sym even)) ∙ sym (gather q s p 52 i) in
    ap (λ (x : ℕ). x / 2 ^ i) top ∙ mul-div_cancel (q * 2 ^ s * 2 ^ p * 2 ^ 52) (pow_pos i)

brought-up : (q y s : ℕ) → 0 < q → q < 2 ^ 53 → Full q y (q * 2 ^ s) (y + (52 - s)) → s < 53
    → root_of (odd 53 false q y 1074) ≡ odd 54 false (near_root 53 (q * 2 ^ s * (1 + (y + (52 - s)) % 2) * 2 ^ 52)) ((y + (52 - s)) / 2 + 485) 1074
brought-up q y s h k f under =
    let i = y + (52 - s) in
    root_odd q y h k ∙ ap (root_at (q * 2 ^ y)) (length_is q y s f under)
    ∙ ap (λ (n : ℕ). odd 54 false (near_root 53 n) (i / 2 + 485) 1074) (square_is q y s (i % 2) under ∙ ap (λ (w : ℕ). q * 2 ^ s * w * 2 ^ 52) (parity i))

pub brought : {q y d e : ℕ} → 0 < q → q < 2 ^ 53 → Full q y d e
    → root_of (odd 53 false q y 1074) ≡ odd 54 false (near_root 53 (d * (1 + e % 2) * 2 ^ 52)) (e / 2 + 485) 1074
brought {q} {y} {d} {e} h k f =
    let g : Full q y (q * 2 ^ f.up) (y + (52 - f.up)) = rw (f.digits, f.exponent) at f in
    rw (f.digits, f.exponent) (brought-up q y f.up h k g f.under)

-- ---- the pattern of r * 2 ^ (k - 1074), r of 53 digits or 2 ^ 53
fields_at : (b x t : ℕ) → b < 0x8000_0000_0000_0000 → b % 0x8000_0000_0000_0000 / 0x10_0000_0000_0000 ≡ suc x → suc x < 2047 → b % 0x10_0000_0000_0000 ≡ t → of_bits binary64 b ≡ odd 53 false (0x10_0000_0000_0000 + t) x 1074
unfolding of_bits
fields_at b x t h e l f = rw (lt-leb 0x8000_0000_0000_0000 b h, e, f, ne_eqb (suc x) 2047 (λ (g : suc x ≡ 2047). lt_irrefl 2047 (omega arith)))

wider : (r k : ℕ) → 0 < r → r < 2 ^ 53 → odd 53 false r k 1074 ≡ odd 54 false r k 1074
wider r k h g =
    let o = oddly 53 r h g in
    ap (λ (x : ℕ). odd 53 false x k 1074) (sym o.is) ∙ odd_shift 53 false o.part o.zeros k 1074 o.odd_part o.few
    ∙ sym (ap (λ (x : ℕ). odd 54 false x k 1074) (sym o.is) ∙ odd_shift 54 false o.part o.zeros k 1074 o.odd_part (omega (arith, o.few)))

carried : (k : ℕ) → k < 2000 → of_bits binary64 (k * 0x10_0000_0000_0000 + 0x20_0000_0000_0000) ≡ odd 54 false 0x20_0000_0000_0000 k 1074
carried k h =
    let b : k + 1 + 52 ≡ k + 53 = omega arith in
    fields_at (k * 0x10_0000_0000_0000 + 0x20_0000_0000_0000) (k + 1) 0 (omega arith) (omega arith) (omega arith) (omega arith)
    ∙ odd_shift 53 false 1 52 (k + 1) 1074 refl (lit< tt)
    ∙ ap (λ (x : ℕ). fin false 1 (minus x 1074)) b
    ∙ sym (odd_shift 54 false 1 53 k 1074 refl (lit< tt))

pub pattern_is : (r k : ℕ) → 2 ^ 52 ≤ r → r ≤ 2 ^ 53 → k < 2000 → of_bits binary64 (k * 0x10_0000_0000_0000 + r) ≡ odd 54 false r k 1074
pattern_is r k lo hi h = elim (eq-or-lt_of_le hi) [
  | inl e ↦ subst (λ (x : ℕ). of_bits binary64 (k * 0x10_0000_0000_0000 + x) ≡ odd 54 false x k 1074) (sym e) (carried k h)
  | inr l ↦
      let w : 0x10_0000_0000_0000 + (r - 0x10_0000_0000_0000) ≡ r = omega arith in
      fields_at (k * 0x10_0000_0000_0000 + r) k (r - 0x10_0000_0000_0000) (omega arith) (omega arith) (omega arith) (omega arith)
      ∙ ap (λ (x : ℕ). odd 53 false x k 1074) w ∙ wider r k (omega arith) l
]

-- ---- the whole number whose root is taken: the digits once, or twice where the exponent is odd
abbrev pub scaled : ℕ → ℕ → ℕ
scaled d e = d * (1 + e % 2)

pub once_or_twice : (a p : ℕ) → p < 2 → (a ≤ a * (1 + p)) × (a * (1 + p) ≤ 2 * a)
once_or_twice a zero h = (omega arith, omega arith)
once_or_twice a (suc zero) h = (omega arith, omega arith)
once_or_twice a (suc (suc p)) h = absurd (lt_irrefl 0 (omega arith))

pub scaled-lt : {q y d e : ℕ} → Full q y d e → scaled d e < 0x40_0000_0000_0000
scaled-lt {q} {y} {d} {e} f = omega (arith, f.most, once_or_twice d (e % 2) (omega arith))

scaled-ge : {q y d e : ℕ} → Full q y d e → 0x10_0000_0000_0000 ≤ scaled d e
scaled-ge {q} {y} {d} {e} f = omega (arith, f.least, once_or_twice d (e % 2) (omega arith))

pub exponent-lt : {q y d e : ℕ} → Full q y d e → y < 2046 → e < 2098
exponent-lt f h = omega (arith, f.exponent)

-- what the root's digits are known to be
pub record Found (q y d e s rem : ℕ) : Type 0 where
  pub plus : 0 < q
  pub few : q < 2 ^ 53
  pub low : y < 2046
  pub full : Full q y d e
  pub whole : s * s + rem ≡ scaled d e * 0x10_0000_0000_0000
  pub rest : rem ≤ 2 * s
  pub under : s < 0x20_0000_0000_0000

module _ {q y d e s rem : ℕ} (f : Found q y d e s rem) where
  lead : 0x10_0000_0000_0000 ≤ s
  lead = root_big (scaled d e * 0x10_0000_0000_0000) s rem f.whole f.rest (omega (arith, scaled-ge f.full))

  near : near_root 53 (scaled d e * 0x10_0000_0000_0000) ≡ cond (leb rem s) s (s + 1)
  near = near_is 53 (scaled d e * 0x10_0000_0000_0000) s rem (omega (arith, scaled-lt f.full)) f.whole f.rest

  abbrev pub base : ℕ
  base = (e / 2 + 485) * 0x10_0000_0000_0000

  small : e / 2 + 485 < 2000
  small = omega (arith, exponent-lt f.full f.low)

  is : root_of (odd 53 false q y 1074) ≡ odd 54 false (cond (leb rem s) s (s + 1)) (e / 2 + 485) 1074
  is = brought f.plus f.few f.full ∙ ap (λ (n : ℕ). odd 54 false n (e / 2 + 485) 1074) near

  pub down_is : rem ≤ s → of_bits binary64 (base + s) ≡ root_of (odd 53 false q y 1074)
  down_is h =
      pattern_is s (e / 2 + 485) lead (omega (arith, f.under)) small
      ∙ sym (is ∙ ap (λ (b : Bool). odd 54 false (cond b s (s + 1)) (e / 2 + 485) 1074) (le-leb rem s h))

  pub up_is : s < rem → of_bits binary64 (base + (s + 1)) ≡ root_of (odd 53 false q y 1074)
  up_is h =
      pattern_is (s + 1) (e / 2 + 485) (omega (arith, lead)) (omega (arith, f.under)) small
      ∙ sym (is ∙ ap (λ (b : Bool). odd 54 false (cond b s (s + 1)) (e / 2 + 485) 1074) (lt-leb rem s h))

pub no_nan : (b : ℕ) → b < 0x7ff0_0000_0000_0000 → T (not (nan_bits binary64 b))
no_nan b h = subst (λ (t : Bool). T (not t)) (sym (nan_bits_above binary64 b ∙ le-ltb 0x7ff0_0000_0000_0000 (b % 0x8000_0000_0000_0000) (omega arith))) tt
