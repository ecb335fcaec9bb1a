-- Floats that are not positive: what holds of every zero, or of the NaN, of −∞ and of every number below 0, holds of a
-- float that tests say is such. Assumes nothing.
use Rattle.std.proofs.Common.{◌≡◌, ℕ, zero, suc, ◌*◌, Bool, true, false, ◌&&◌, eqb, ℤ, refl, lt_irrefl, zero-mul, arith, ltb-false, eqb-true}
use lib.Ieee.{Float, nan, inf, fin, up, down, lt, eq, of_bits}
use Rattle.scalar.specs.Digits.{nil}
use Rattle.scalar.proofs.Positive.{some, not_yes, not_no}

module _ (P : Float → Type 0) where
  -- either zero
  pub zero_of : ((s : Bool) (x : ℤ) → P (fin s zero x)) → (a : Float) → eq a nil ≡ true → P a
  unfolding of_bits eq
  zero_of z nan e = not_yes e
  zero_of z (inf s) e = not_yes e
  zero_of z (fin s zero x) e = z s x
  zero_of z (fin s (suc m) x) e = absurd (differ (eqb-true _ _ (left (eqb (suc m * up x * 1) (0 * down x)) _ e)))
    where
      left : (p q : Bool) → (p && q) ≡ true → p ≡ true
      left true q e = refl
      left false q e = e

      differ : suc m * up x * 1 ≡ 0 * down x → ⊥
      differ h = omega (arith, some m x, h, zero-mul (down x))

  -- neither positive nor a zero
  pub none_of : P nan → P (inf true) → ((m : ℕ) (x : ℤ) → P (fin true (suc m) x)) → (a : Float) → lt nil a ≡ false → eq a nil ≡ false → P a
  unfolding of_bits eq lt
  none_of n i b nan e f = n
  none_of n i b (inf true) e f = i
  none_of n i b (inf false) e f = not_no e
  none_of n i b (fin true zero x) e f = not_no (rw (zero-mul (up x), zero-mul (down x)) at f)
  none_of n i b (fin false zero x) e f = not_no (rw (zero-mul (up x), zero-mul (down x)) at f)
  none_of n i b (fin true (suc m) x) e f = b m x
  none_of n i b (fin false (suc m) x) e f = absurd (lt_irrefl 0 (omega (arith, some m x, ltb-false (0 * down x) (suc m * up x * 1) e, zero-mul (down x))))
