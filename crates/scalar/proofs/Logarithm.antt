-- What the proofs of the logarithm cite: how a positive f64 falls into m · 2^e, from its digits. Assumes nothing.
use Rattle.std.proofs.Common.{◌≡◌, ℕ, zero, suc, ◌+◌, ◌-◌, ◌*◌, ◌/◌, ◌%◌, ◌^◌, ◌<◌, ◌≤◌, Bool, true, false, cond, not, T, ltb, leb, ℤ, pos, negsuc, ◌+ℤ◌, sym, refl, ap, ◌∙◌, subst, lt_of_le_of_lt, lt_irrefl, mul-le-mul_right, mul_assoc, lt_of_mul-lt-mul_right, one-mul, le_of_mul-le-mul_right, arith, leb→le, pow_pos, pow-add, ltb-false, ltb-true, le-ltb, lt-ltb, le-leb, leb-false, leb-true}
use lib.IntN.{sub_ℕ}
use lib.Dec.{nleb→lt}
use lib.Ieee.{Float, inf, fin, binary64, minus, size, odd, of_bits, lt, eq, mul, nan_bits}
use lib.Ieee.Bits.{nan_bits_above}
use borrow.Author.Tests.{lt-leb}
use Rattle.scalar.specs.Ln.{ln_of, ln_scaled, ln_near, root_two, half}
use Rattle.scalar.specs.Digits.{nil, Full}
use Rattle.scalar.proofs.Positive.{oddly, odd_shift, pow_lt_back, size_exact}
use Rattle.scalar.proofs.NotPositive.{zero_of, none_of}

-- ---- exponents
minus_up : (j : ℕ) → j < 53 → minus (1022 + j) 1074 ≡ minus 0 (52 - j)
minus_up j h = go (leb 1074 (1022 + j)) refl
  where
    go : (b : Bool) → leb 1074 (1022 + j) ≡ b → cond b (pos (1022 + j - 1074)) (negsuc (1074 - suc (1022 + j))) ≡ minus 0 (52 - j)
    go true e = let w : 1074 ≤ 1022 + j = leb-true _ _ e in rw (le-leb (52 - j) 0 (omega arith)) (ap pos (omega arith))
    go false e = let w : 1022 + j < 1074 = leb-false _ _ e in rw (lt-leb (52 - j) 0 (omega arith)) (ap negsuc (omega arith))

minus-add : (p l d : ℕ) → minus p l +ℤ pos d ≡ sub_ℕ (p + d) l
minus-add p l d = go (leb l p) (leb→le l p) (nleb→lt l p)
  where
    turn : p < l → (b : Bool) → ltb (p + d) l ≡ b → sub_ℕ d (suc (l - suc p)) ≡ cond b (negsuc (l - suc (p + d))) (pos (p + d - l))
    turn h true e = let w : p + d < l = ltb-true _ _ e in rw (lt-ltb d (suc (l - suc p)) (omega arith)) (ap negsuc (omega arith))
    turn h false e = let w : l ≤ p + d = ltb-false _ _ e in rw (le-ltb d (suc (l - suc p)) (omega arith)) (ap pos (omega arith))

    go : (b : Bool) → (T b → l ≤ p) → (T (not b) → p < l) → cond b (pos (p - l)) (negsuc (l - suc p)) +ℤ pos d ≡ sub_ℕ (p + d) l
    go true y n = let h : l ≤ p = y tt in rw (le-ltb (p + d) l (omega arith)) (ap pos (omega arith))
    go false y n = turn (n tt) (ltb (p + d) l) refl

-- ---- the digits of a positive number, brought to 53
ln_at : (n : ℕ) (e : ℤ) → 0 < n → ln_of (fin false n e) ≡ ln_scaled (fin false n (minus 0 (size n - 1))) (e +ℤ pos (size n - 1))
unfolding ln_of
ln_at zero e h = absurd (lt_irrefl 0 h)
ln_at (suc n) e h = refl

scaled : (q y sh : ℕ) → 0 < q → q < 2 ^ 53 → sh < 53 → 2 ^ 52 ≤ q * 2 ^ sh → q * 2 ^ sh < 2 ^ 53
    → ln_of (odd 53 false q y 1074) ≡ ln_scaled (odd 53 false (q * 2 ^ sh) 1022 1074) (sub_ℕ (y + (52 - sh)) 1074)
scaled q y sh qp ql sl lo hi =
    let o = oddly 53 q qp ql in
    let m = o.part in
    let i = o.zeros in
    let mp : 0 < m = omega (arith, o.odd_part) in
    let whole : m * 2 ^ (i + sh) ≡ q * 2 ^ sh = ap (λ (x : ℕ). m * x) (pow-add 2 i sh) ∙ sym (mul_assoc m (2 ^ i) (2 ^ sh)) ∙ ap (λ (x : ℕ). x * 2 ^ sh) o.is in
    let jl : i + sh < 53 = pow_lt_back (i + sh) 53 (lt_of_le_of_lt (subst (λ (x : ℕ). x ≤ m * 2 ^ (i + sh)) (one-mul (2 ^ (i + sh))) (mul-le-mul_right (2 ^ (i + sh)) mp)) (subst (λ (x : ℕ). x < 2 ^ 53) (sym whole) hi)) in
    let split : (a : ℕ) → i + sh ≤ a → 2 ^ a ≡ 2 ^ (a - (i + sh)) * 2 ^ (i + sh) = λ a g. let b : a ≡ a - (i + sh) + (i + sh) = omega arith in ap (λ (x : ℕ). 2 ^ x) b ∙ pow-add 2 (a - (i + sh)) (i + sh) in
    let more : 53 - (i + sh) ≡ suc (52 - (i + sh)) = omega arith in
    let sz : size m ≡ suc (52 - (i + sh)) =
    size_exact (52 - (i + sh)) m
    (le_of_mul-le-mul_right (subst (λ (x : ℕ). x ≤ m * 2 ^ (i + sh)) (split 52 (omega arith)) (subst (λ (x : ℕ). 2 ^ 52 ≤ x) (sym whole) lo)) (pow_pos (i + sh)))
    (lt_of_mul-lt-mul_right (2 ^ (i + sh)) (subst (λ (x : ℕ). m * 2 ^ (i + sh) < x) (split 53 (omega arith) ∙ ap (λ (x : ℕ). 2 ^ x * 2 ^ (i + sh)) more) (subst (λ (x : ℕ). x < 2 ^ 53) (sym whole) hi))) in
    let d : size m - 1 ≡ 52 - (i + sh) = omega arith in
    let back : y + i + (52 - (i + sh)) ≡ y + (52 - sh) = omega arith in
    let e1 : odd 53 false q y 1074 ≡ fin false m (minus (y + i) 1074) = ap (λ (x : ℕ). odd 53 false x y 1074) (sym o.is) ∙ odd_shift 53 false m i y 1074 o.odd_part o.few in
    let e2 : odd 53 false (q * 2 ^ sh) 1022 1074 ≡ fin false m (minus (1022 + (i + sh)) 1074) = ap (λ (x : ℕ). odd 53 false x 1022 1074) (sym whole) ∙ odd_shift 53 false m (i + sh) 1022 1074 o.odd_part jl in
    ap ln_of e1
    ∙ ln_at m (minus (y + i) 1074) mp
    ∙ ap (λ (x : ℕ). ln_scaled (fin false m (minus 0 x)) (minus (y + i) 1074 +ℤ pos x)) d
    ∙ ap (λ (x : ℤ). ln_scaled (fin false m x) (minus (y + i) 1074 +ℤ pos (52 - (i + sh)))) (sym (minus_up (i + sh) jl))
    ∙ ap (λ (x : Float). ln_scaled x (minus (y + i) 1074 +ℤ pos (52 - (i + sh)))) (sym e2)
    ∙ ap (ln_scaled (odd 53 false (q * 2 ^ sh) 1022 1074)) (minus-add (y + i) 1074 (52 - (i + sh)) ∙ ap (λ (x : ℕ). sub_ℕ x 1074) back)

-- 53 digits under the exponent's field of 1
pub of_one : (q : ℕ) → 2 ^ 52 ≤ q → q < 2 ^ 53 → of_bits binary64 (q + 0x3fe0_0000_0000_0000) ≡ odd 53 false q 1022 1074
unfolding of_bits
of_one q lo hi =
    let b = q + 0x3fe0_0000_0000_0000 in
    let x : b % 0x8000_0000_0000_0000 / 0x10_0000_0000_0000 ≡ 1023 = omega arith in
    let t : b % 0x10_0000_0000_0000 ≡ q - 0x10_0000_0000_0000 = omega arith in
    let w : 0x10_0000_0000_0000 + (q - 0x10_0000_0000_0000) ≡ q = omega arith in
    rw (lt-leb (2 ^ 63) b (omega arith), x, t) (ap (λ (n : ℕ). odd 53 false n 1022 1074) w)

-- no pattern of 53 digits under the exponent's field of 1 is a NaN's
pub one_no_nan : (d : ℕ) → d < 2 ^ 53 → T (not (nan_bits binary64 (d + 0x3fe0_0000_0000_0000)))
one_no_nan d h =
    let b = d + 0x3fe0_0000_0000_0000 in
    subst (λ (t : Bool). T (not t)) (sym (nan_bits_above binary64 b ∙ le-ltb 0x7ff0_0000_0000_0000 (b % 0x8000_0000_0000_0000) (omega arith))) tt

pub brought : {q y d e : ℕ} → 0 < q → q < 2 ^ 53 → Full q y d e → ln_of (odd 53 false q y 1074) ≡ ln_scaled (of_bits binary64 (d + 0x3fe0_0000_0000_0000)) (sub_ℕ e 1074)
brought {q} {y} {d} {e} h k f =
    scaled q y f.up h k f.under (rw f.digits at f.least) (rw f.digits at f.most)
    ∙ (λ i. ln_scaled (odd 53 false (sym f.digits i) 1022 1074) (sub_ℕ (sym f.exponent i) 1074))
    ∙ ap (λ (m : Float). ln_scaled m (sub_ℕ e 1074)) (sym (of_one d f.least f.most))

sub_add : (p l d : ℕ) → sub_ℕ p l +ℤ pos d ≡ sub_ℕ (p + d) l
sub_add p l d = ap (λ (e : ℤ). e +ℤ pos d) (same (ltb p l) refl) ∙ minus-add p l d
  where
    same : (b : Bool) → ltb p l ≡ b → cond b (negsuc (l - suc p)) (pos (p - l)) ≡ minus p l
    same true e = rw (lt-leb l p (ltb-true _ _ e))
    same false e = rw (le-leb l p (ltb-false _ _ e))

pub above : (m : Float) (k : ℕ) → lt root_two m ≡ true → ln_scaled m (sub_ℕ k 1074) ≡ ln_near (mul binary64 m half) (sub_ℕ (k + 1) 1074)
unfolding ln_scaled
above m k e = rw (e, sub_add k 1074 1)

pub not_above : (m : Float) (k : ℕ) → lt root_two m ≡ false → ln_scaled m (sub_ℕ k 1074) ≡ ln_near m (sub_ℕ k 1074)
unfolding ln_scaled
not_above m k e = rw e

pub zero_is : (a : Float) → eq a nil ≡ true → ln_of a ≡ of_bits binary64 0xfff0_0000_0000_0000
unfolding ln_of of_bits
zero_is = zero_of (λ a. ln_of a ≡ of_bits binary64 0xfff0_0000_0000_0000) (λ s x. refl)

pub none_is : (a : Float) → lt nil a ≡ false → eq a nil ≡ false → ln_of a ≡ of_bits binary64 0x7ff8_0000_0000_0000
unfolding ln_of of_bits
none_is = none_of (λ a. ln_of a ≡ of_bits binary64 0x7ff8_0000_0000_0000) refl refl (λ m x. refl)

pub top_is : ln_of (inf false) ≡ inf false
unfolding ln_of
top_is = refl
