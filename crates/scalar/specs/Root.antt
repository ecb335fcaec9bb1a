-- Document 01, "Arithmetic": "Root: IEEE 754, nearest, ties to even." Definitions only.
use Rattle.std.specs.Prelude.{ℕ, zero, suc, ◌+◌, ◌-◌, ◌*◌, ◌/◌, ◌%◌, ◌^◌, ◌<◌, ◌≤◌, false, cond, T, nat_le, Float}
use Rattle.std.specs.Float.{nan, inf, fin, binary64}
use Rattle.std.specs.Float.Ieee.{up, down, size, odd, round, le, fits}
use Rattle.std.specs.Float.Ieee.Positive.{num, den}

-- the greatest s with s * s ≤ n, for an n below 4 ^ k
unfoldable pub floor_root : ℕ → ℕ → ℕ
floor_root zero n = 0
floor_root (suc k) n = let s = 2 * floor_root k (n / 4) in cond (nat_le ((s + 1) * (s + 1)) n) (s + 1) s

-- the whole number nearest to the root of an n below 4 ^ k: no root of a whole number lies half way between two
unfoldable pub near_root : ℕ → ℕ → ℕ
unfolding floor_root
near_root k n = let s = floor_root k n in cond (nat_le (n - s * s) s) s (s + 1)

-- m * 2 ^ e is x of the smallest values, 2 ^ -1074 each, and x has i + 1 binary digits.
-- n is x times a power of 4, with 105 or 106 digits: so its root has 53, and rounding that root to a whole number
-- rounds to the format.
unfoldable pub root_of : Float → Float
unfolding near_root
root_of nan = nan
root_of (inf s) = cond s nan (inf false)
root_of (fin s zero e) = fin s zero e
root_of (fin s (suc m) e) =
    let x = suc m * up e * 2 ^ 1074 / down e in
    let i = size x - 1 in
    let n = x * 2 ^ (104 + i % 2) / 2 ^ i in
    cond s nan (odd 54 false (near_root 53 n) (i / 2 + 485) 1074)

-- The answer is the real root of a = num a / den a, rounded as IEEE 754 rounds: it is an f64, every fraction p / q at
-- or below the root rounds to at most the answer, and every one at or above it to at least the answer. Fractions come
-- as near to the root as one likes, so no other f64 is such.
pub record NearestRoot (a : Float) : Type 0 where
  pub held : T (fits binary64 (root_of a))
  pub below : (p q : ℕ) → 0 < q → p * p * den a ≤ num a * (q * q) → T (le (round binary64 false p q) (root_of a))
  pub above : (p q : ℕ) → 0 < q → num a * (q * q) ≤ p * p * den a → T (le (root_of a) (round binary64 false p q))
