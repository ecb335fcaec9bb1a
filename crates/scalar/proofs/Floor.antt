-- The root of a whole number, rounded down and to the nearest. Assumes nothing.
use Rattle.std.proofs.Common.{◌≡◌, ℕ, zero, suc, ◌+◌, ◌-◌, ◌*◌, ◌/◌, ◌^◌, ◌<◌, ◌≤◌, Bool, true, false, cond, leb, refl, lt_irrefl, add-mul, mul-le-mul, le_antisymm, pow-suc, lt_of_not-le, mul-add, arith, leb-false, leb-true}
use Rattle.scalar.specs.Root.{floor_root, near_root}
use Rattle.scalar.proofs.RootDigits.{sq_even, sq_odd}

pub record IsFloor (n s : ℕ) : Type 0 where
  pub low : s * s ≤ n
  pub high : n < s * s + 2 * s + 1

pub sq_next : (s : ℕ) → (s + 1) * (s + 1) ≡ s * s + 2 * s + 1
sq_next s =
    let a : (s + 1) * (s + 1) ≡ s * (s + 1) + 1 * (s + 1) = add-mul s 1 (s + 1) in
    let b : s * (s + 1) ≡ s * s + s * 1 = mul-add s s 1 in
    omega arith

pub floor_is : (k n : ℕ) → n < 4 ^ k → IsFloor n (floor_root k n)
unfolding floor_root
floor_is zero n h = record { low = omega arith; high = omega arith }
floor_is (suc k) n h = go (floor_root k (n / 4)) (floor_is k (n / 4) (omega (arith, pow-suc 4 k)))
  where
    go : (t : ℕ) → IsFloor (n / 4) t → IsFloor n (cond (leb ((2 * t + 1) * (2 * t + 1)) n) (2 * t + 1) (2 * t))
    go t f = pick (leb ((2 * t + 1) * (2 * t + 1)) n) refl
      where
        pick : (b : Bool) → leb ((2 * t + 1) * (2 * t + 1)) n ≡ b → IsFloor n (cond b (2 * t + 1) (2 * t))
        pick true e = record { low = leb-true _ _ e; high = omega (arith, f.high, sq_odd t) }
        pick false e = record { low = omega (arith, f.low, sq_even t); high = omega (arith, leb-false ((2 * t + 1) * (2 * t + 1)) n e, sq_odd t, sq_even t) }

pub sq_lt : (x y : ℕ) → x * x < y * y → x < y
sq_lt x y h = lt_of_not-le (λ (g : y ≤ x). lt_irrefl (y * y) (omega (arith, mul-le-mul g g)))

pub sq_le : (x y : ℕ) → x * x ≤ y * y → x ≤ y
sq_le x y h = omega (arith, sq_lt x (y + 1) (omega (arith, sq_next y)))

at_most : (n s t : ℕ) → IsFloor n s → IsFloor n t → s ≤ t
at_most n s t a b = omega (arith, sq_lt s (t + 1) (omega (arith, sq_next t, a.low, b.high)))

pub floor_unique : (n s t : ℕ) → IsFloor n s → IsFloor n t → s ≡ t
floor_unique n s t a b = le_antisymm (at_most n s t a b) (at_most n t s b a)

less : (n q rem : ℕ) → q * q + rem ≡ n → n - q * q ≡ rem
less n q rem e = omega arith

pub near_is : (k n q rem : ℕ) → n < 4 ^ k → q * q + rem ≡ n → rem ≤ 2 * q → near_root k n ≡ cond (leb rem q) q (q + 1)
unfolding near_root
near_is k n q rem h e g =
    let s : floor_root k n ≡ q = floor_unique n (floor_root k n) q (floor_is k n h) (record { low = omega arith; high = omega arith }) in
    rw (s, less n q rem e)

-- a root of 105 digits or more has 53 or more
pub root_big : (n q rem : ℕ) → q * q + rem ≡ n → rem ≤ 2 * q → 2 ^ 104 ≤ n → 2 ^ 52 ≤ q
root_big n q rem e g h = omega (arith, sq_lt (2 ^ 52) (q + 1) (omega (arith, sq_next q)))

-- what `near_root` is: (r - 1/2)² < n < (r + 1/2)², multiplied out in whole numbers. So no whole number is as near to
-- the root as r, and there is no tie
pub record IsNear (n r : ℕ) : Type 0 where
  pub below : 0 < n → r * r < n + r
  pub above : n ≤ r * r + r

pub near_law : (k n : ℕ) → n < 4 ^ k → IsNear n (near_root k n)
unfolding near_root
near_law k n h = go (floor_root k n) (floor_is k n h)
  where
    go : (s : ℕ) → IsFloor n s → IsNear n (cond (leb (n - s * s) s) s (s + 1))
    go s f = pick (leb (n - s * s) s) refl
      where
        pick : (b : Bool) → leb (n - s * s) s ≡ b → IsNear n (cond b s (s + 1))
        pick true e = record { below = λ p. zero_or s f p; above = omega (arith, leb-true (n - s * s) s e, f.low) }
          where
            zero_or : (s : ℕ) → IsFloor n s → 0 < n → s * s < n + s
            zero_or zero f p = omega arith
            zero_or (suc s) f p = omega (arith, f.low)
        pick false e = record { below = λ p. omega (arith, leb-false (n - s * s) s e, sq_next s); above = omega (arith, f.high, sq_next s) }
