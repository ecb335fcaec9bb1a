-- The binary digits of a positive f64: how its pattern says them, and how they are brought to 53. Assumes nothing.
use Rattle.std.proofs.Common.{◌≡◌, ℕ, zero, suc, ◌+◌, ◌-◌, ◌*◌, ◌/◌, ◌%◌, ◌^◌, ◌<◌, ◌≤◌, Bool, true, false, cond, not, T, eqb, leb, ℤ, sym, refl, ap, ◌∙◌, subst, lt_of_lt_of_le, le_of_suc-le-suc, lt_of_le_of_lt, lt_irrefl, mul-le-mul_right, zero-lt-suc, mul_assoc, div-lt_iff_lt-mul, le_antisymm, mul-lt-mul_of_pos_right, mul-pos, pow-suc, lt_of_not-le, mul-one, mul-div_cancel, arith, lit≤, pow_pos, pow_mono, pow-add, ne_eqb, eqb-true}
use lib.Count.{count_trailing_zeros, count_leading_zeros, leading_top}
use lib.Bits.{shifted_half, shifted_even}
use lib.Ieee.{Float, nan, inf, fin, binary64, fits, minus, size, odd, of_fields, of_bits, to_bits, lt, eq, up, is_nan}
use lib.Ieee.Bits.{of_bits-to_bits}
use lib.Ieee.Fits.{up_pos}
use lib.Ieee.Digits.{size-lt, size-le}
use borrow.Author.Tests.{eqb-false}
use Rattle.scalar.specs.declared.digits.Digits.TheVariants.{Finite, Infinite, Zero, Other}
use Rattle.scalar.specs.Digits.{nil, exponent_field, digits_field, digits_in, digits_of, Falls, Full}

-- ---- an odd number with i zeros after it
none : (i : ℕ) → i < 0 → ⊥
none i h = omega arith

tz_shift : (d m i : ℕ) → m % 2 ≡ 1 → i < d → count_trailing_zeros d (m * 2 ^ i) ≡ i
unfolding count_trailing_zeros
tz_shift zero m i o h = absurd (none i h)
tz_shift (suc d) m zero o h = rw (mul-one m, o)
tz_shift (suc d) m (suc i) o h = rw (shifted_even m i, shifted_half m i) (ap suc (tz_shift d m i o (le_of_suc-le-suc h)))

odd_pos : (d : ℕ) (s : Bool) (q k l : ℕ) → 0 < q → odd d s q k l ≡ fin s (q / 2 ^ count_trailing_zeros d q) (minus (k + count_trailing_zeros d q) l)
unfolding odd
odd_pos d s zero k l h = absurd (lt_irrefl 0 h)
odd_pos d s (suc q) k l h = refl

pub odd_shift : (d : ℕ) (s : Bool) (m i k l : ℕ) → m % 2 ≡ 1 → i < d → odd d s (m * 2 ^ i) k l ≡ fin s m (minus (k + i) l)
odd_shift d s m i k l o h =
    odd_pos d s (m * 2 ^ i) k l (mul-pos (omega arith) (pow_pos i))
    ∙ ap (λ (t : ℕ). fin s (m * 2 ^ i / 2 ^ t) (minus (k + t) l)) (tz_shift d m i o h)
    ∙ ap (λ (x : ℕ). fin s x (minus (k + i) l)) (mul-div_cancel m (pow_pos i))

-- a number above 0 is an odd one with zeros after it
pub record Oddly (d q : ℕ) : Type 0 where
  pub part : ℕ
  pub zeros : ℕ
  pub is : part * 2 ^ zeros ≡ q
  pub odd_part : part % 2 ≡ 1
  pub few : zeros < d

pub oddly : (d q : ℕ) → 0 < q → q < 2 ^ d → Oddly d q
oddly zero q h k = absurd (lt_irrefl 0 (lt_of_lt_of_le h (le_of_suc-le-suc k)))
oddly (suc d) q h k = go (q % 2) refl (λ (e : q % 2 ≡ 0). oddly d (q / 2) (omega arith) ((div-lt_iff_lt-mul (zero-lt-suc 1)).1 (subst (λ (x : ℕ). q < x) (pow-suc 2 d) k)))
  where
    go : (r : ℕ) → q % 2 ≡ r → (q % 2 ≡ 0 → Oddly d (q / 2)) → Oddly (suc d) q
    go zero e ih =
        let o = ih e in
        let w : o.part * 2 ^ suc o.zeros ≡ o.part * 2 ^ o.zeros * 2 = rw pow-suc (sym (mul_assoc o.part (2 ^ o.zeros) 2)) in
        record { part = o.part; zeros = suc o.zeros; is = w ∙ ap (λ (x : ℕ). x * 2) o.is ∙ omega arith; odd_part = o.odd_part; few = omega (arith, o.few) }
    go (suc r) e ih = record { part = q; zeros = 0; is = mul-one q; odd_part = omega arith; few = zero-lt-suc d }

pub pow_lt_back : (i p : ℕ) → 2 ^ i < 2 ^ p → i < p
pow_lt_back i p h = lt_of_not-le (λ (g : p ≤ i). lt_irrefl (2 ^ i) (lt_of_lt_of_le h (pow_mono g)))

pub size_exact : (a n : ℕ) → 2 ^ a ≤ n → n < 2 ^ suc a → size n ≡ suc a
size_exact a n lo hi = le_antisymm (size-le n (suc a) hi) (pow_lt_back a (size n) (lt_of_le_of_lt lo (size-lt n)))

-- ---- the shift that brings a number below 2^53 to 53 digits: z is the count of its leading zeros among 64
pub record Shift (q z : ℕ) : Type 0 where
  pub zeros : 11 ≤ z
  pub under : z - 11 < 53
  pub least : 2 ^ 52 ≤ q * 2 ^ (z - 11)
  pub most : q * 2 ^ (z - 11) < 2 ^ 53

shift_at : (q z j : ℕ) → z + suc j ≡ 64 → j < 53 → 2 ^ j ≤ q → q < 2 ^ suc j → Shift q z
shift_at q z j e jl lo hi =
    let w : z - 11 ≡ 52 - j = omega arith in
    let a : 52 ≡ j + (52 - j) = omega arith in
    let b : 53 ≡ suc j + (52 - j) = omega arith in
    record {
      zeros = omega arith;
      under = omega arith;
      least = subst (λ (x : ℕ). x ≤ q * 2 ^ (z - 11)) (sym (ap (λ (x : ℕ). 2 ^ x) a ∙ pow-add 2 j (52 - j))) (rw w (mul-le-mul_right (2 ^ (52 - j)) lo));
      most = subst (λ (x : ℕ). q * 2 ^ (z - 11) < x) (sym (ap (λ (x : ℕ). 2 ^ x) b ∙ pow-add 2 (suc j) (52 - j))) (rw w (mul-lt-mul_of_pos_right hi (pow_pos (52 - j))));
    }

pub shift : (q : ℕ) → 0 < q → q < 2 ^ 53 → Shift q (count_leading_zeros 64 q)
shift q h k =
    let (j, e, lo, hi) = leading_top 64 q h (lt_of_lt_of_le k (lit≤ tt)) in
    shift_at q (count_leading_zeros 64 q) j e (pow_lt_back j 53 (lt_of_le_of_lt lo k)) lo hi

pub full : {q z : ℕ} (y : ℕ) → Shift q z → Full q y (q * 2 ^ (z - 11)) (y + (52 - (z - 11)))
full {q} {z} y s = record { up = z - 11; under = s.under; digits = refl; exponent = refl; least = s.least; most = s.most }

-- ---- which case a number is
pub not_yes : {A : Type 0} → false ≡ true → A
not_yes e = absurd (subst T (sym e) tt)

pub not_no : {A : Type 0} → true ≡ false → A
not_no e = absurd (subst T e tt)

pub some : (m : ℕ) (e : ℤ) → 0 < suc m * up e * 1
some m e = mul-pos (mul-pos (zero-lt-suc m) (up_pos e)) (zero-lt-suc 0)

-- ---- what the fields of a number above 0 say
at_top : (s : Bool) (t : ℕ) (a : Float) → of_fields binary64 s 2047 t ≡ a → lt nil a ≡ true → a ≡ inf false
unfolding of_fields of_bits lt
at_top s t a e p = sym e ∙ go (eqb t 0) s (subst (λ (v : Float). lt nil v ≡ true) (sym e) p)
  where
    go : (b s : Bool) → lt nil (cond b (inf s) nan) ≡ true → cond b (inf s) nan ≡ inf false
    go true true p = not_yes p
    go true false p = refl
    go false s p = not_yes p

at_zero : (s : Bool) (t : ℕ) (a : Float) → of_fields binary64 s 0 t ≡ a → lt nil a ≡ true → (0 < t) × (a ≡ odd 53 false t 0 1074)
unfolding of_fields of_bits lt odd
at_zero s t a e p = subst (λ (v : Float). (0 < t) × (v ≡ odd 53 false t 0 1074)) e (go s t (subst (λ (v : Float). lt nil v ≡ true) (sym e) p))
  where
    go : (s : Bool) (t : ℕ) → lt nil (odd 53 s t 0 1074) ≡ true → (0 < t) × (odd 53 s t 0 1074 ≡ odd 53 false t 0 1074)
    go true zero p = not_yes p
    go true (suc t) p = not_yes p
    go false zero p = not_yes p
    go false (suc t) p = (zero-lt-suc t, refl)

at_mid : (s : Bool) (x t : ℕ) (a : Float) → of_fields binary64 s x t ≡ a → lt nil a ≡ true → (x ≡ 2047 → ⊥) → (x ≡ 0 → ⊥) → a ≡ odd 53 false (0x10_0000_0000_0000 + t) (x - 1) 1074
unfolding of_fields of_bits lt
at_mid s zero t a e p n z = absurd (z refl)
at_mid s (suc x) t a e p n z =
    let q = 0x10_0000_0000_0000 + t in
    let here : odd 53 s q x 1074 ≡ a = rw (ne_eqb (suc x) 2047 n) at e in
    let sign : (s : Bool) → lt nil (fin s (q / 2 ^ count_trailing_zeros 53 q) (minus (x + count_trailing_zeros 53 q) 1074)) ≡ true → s ≡ false = elim [ true ↦ λ p. not_yes p | false ↦ λ p. refl ] in
    let plus : s ≡ false = sign s (subst (λ (v : Float). lt nil v ≡ true) (sym (sym (odd_pos 53 s q x 1074 (omega arith)) ∙ here)) p) in
    sym here ∙ ap (λ (b : Bool). odd 53 b q x 1074) plus ∙ ap (λ (y : ℕ). odd 53 false q y 1074) (omega arith)

-- ---- a number by the fields of its pattern
sign : ℕ → Bool
sign b = leb 0x8000_0000_0000_0000 b

by_fields : (a : Float) → T (fits binary64 a) → of_fields binary64 (sign (to_bits binary64 a)) (exponent_field (to_bits binary64 a)) (digits_field (to_bits binary64 a)) ≡ a
unfolding of_bits sign
by_fields a h = of_bits-to_bits binary64 a h

with_field : (a : Float) (x : ℕ) → T (fits binary64 a) → exponent_field (to_bits binary64 a) ≡ x → of_fields binary64 (sign (to_bits binary64 a)) x (digits_field (to_bits binary64 a)) ≡ a
with_field a x h e = rw e at (by_fields a h)

module _ (a : Float) (held : T (fits binary64 a)) (p : lt nil a ≡ true) where
  -- the greatest exponent's field is that of +∞
  pub field_top : exponent_field (to_bits binary64 a) ≡ 2047 → a ≡ inf false
  field_top e = at_top (sign (to_bits binary64 a)) (digits_field (to_bits binary64 a)) a (with_field a 2047 held e) p

  pub field-zero : exponent_field (to_bits binary64 a) ≡ 0 → (0 < digits_field (to_bits binary64 a)) × (a ≡ odd 53 false (digits_field (to_bits binary64 a)) 0 1074)
  field-zero e = at_zero (sign (to_bits binary64 a)) (digits_field (to_bits binary64 a)) a (with_field a 0 held e) p

  pub field_mid : (exponent_field (to_bits binary64 a) ≡ 2047 → ⊥) → (exponent_field (to_bits binary64 a) ≡ 0 → ⊥)
      → a ≡ odd 53 false (0x10_0000_0000_0000 + digits_field (to_bits binary64 a)) (exponent_field (to_bits binary64 a) - 1) 1074
  field_mid n z = at_mid (sign (to_bits binary64 a)) (exponent_field (to_bits binary64 a)) (digits_field (to_bits binary64 a)) a (by_fields a held) p n z

  -- what a pattern says of a number above 0 is so
  pub falls_in : Falls a (digits_in (to_bits binary64 a))
  unfolding digits_in
  falls_in = go (eqb (exponent_field b) 2047) (eqb (exponent_field b) 0) refl refl
    where
      b : ℕ
      b = to_bits binary64 a

      go : (t z : Bool) → eqb (exponent_field b) 2047 ≡ t → eqb (exponent_field b) 0 ≡ z
          → Falls a (cond t Infinite (cond z (Finite (digits_field b) 0) (Finite (0x10_0000_0000_0000 + digits_field b) (exponent_field b - 1))))
      go true z e f = field_top (eqb-true _ _ e)
      go false true e f = let d = field-zero (eqb-true _ _ f) in record { is = d.1; some = d.0; few = omega arith; low = omega arith }
      go false false e f =
          let n = eqb-false (exponent_field b) 2047 e in
          let u = eqb-false (exponent_field b) 0 f in
          record { is = field_mid n u; some = omega arith; few = omega arith; low = omega (arith, n, u) }

-- ---- the kind of a float is what it says
pub falls : (a : Float) → T (fits binary64 a) → Falls a (digits_of a)
unfolding digits_of
falls a h = go (lt nil a) (eq a nil) refl refl
  where
    go : (p z : Bool) → lt nil a ≡ p → eq a nil ≡ z → Falls a (cond p (digits_in (to_bits binary64 a)) (cond z Zero Other))
    go true z e f = falls_in a h e
    go false true e f = f
    go false false e f = (e, f)
