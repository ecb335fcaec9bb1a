-- The kinds of a float for a function of positive numbers. Definitions only.
use Rattle.std.specs.Prelude.{◌≡◌, ℕ, ◌+◌, ◌-◌, ◌*◌, ◌/◌, ◌%◌, ◌^◌}
use Rattle.std.specs.Prelude.{◌≤◌, ◌<◌, true, false, cond, ◌==◌, from_bits, to_bits, Float}
use Rattle.std.specs.Float.{binary64, inf}
use Rattle.std.specs.Float.Ieee.{odd, lt, eq}
use Rattle.scalar.specs.declared.digits.Digits.{Digits}
use Rattle.scalar.specs.declared.digits.Digits.TheVariants.{Finite, Infinite, Zero, Other}

-- +0.0
abbrev pub nil : Float
nil = from_bits binary64 0

-- the exponent in a pattern
abbrev pub exponent_field : ℕ → ℕ
exponent_field b = b % 0x8000_0000_0000_0000 / 0x10_0000_0000_0000

-- the digits in a pattern, without the first one, which only normal numbers have
abbrev pub digits_field : ℕ → ℕ
digits_field b = b % 0x10_0000_0000_0000

-- by the pattern of a float above 0: with exponent 2047 it is +∞, with 0 it has no first digit; else it has one, and y
-- is the exponent less 1
unfoldable pub digits_in : ℕ → Digits
digits_in b =
    cond (exponent_field b == 2047) Infinite
    (cond (exponent_field b == 0) (Finite (digits_field b) 0)
    (Finite (0x10_0000_0000_0000 + digits_field b) (exponent_field b - 1)))

-- the kind of a float, with the digits of one above 0
unfoldable pub digits_of : Float → Digits
digits_of a = cond (lt nil a) (digits_in (to_bits binary64 a)) (cond (eq a nil) Zero Other)

-- ---- what the kinds say

-- q · 2^(y - 1074), as the library writes it
abbrev pub scaled : ℕ → ℕ → Float
scaled q y = odd 53 false q y 1074

-- a is q · 2^(y - 1074), above 0 and finite
pub record IsFinite (a : Float) (q y : ℕ) : Type 0 where
  pub is : a ≡ scaled q y
  pub some : 0 < q
  pub few : q < 2 ^ 53
  pub low : y < 2046

-- what each kind says of a
abbrev pub Falls : Float → Digits → Type 0
Falls a (Finite q y) = IsFinite a q y
Falls a Infinite = a ≡ inf false
Falls a Zero = eq a nil ≡ true
Falls a Other = (lt nil a ≡ false) × (eq a nil ≡ false)

-- d · 2^(e - 1126) is q · 2^(y - 1074), with 53 binary digits: q is moved up by so many places, and the exponent down
-- by as many
pub record Full (q y d e : ℕ) : Type 0 where
  pub up : ℕ
  pub under : up < 53
  pub digits : d ≡ q * 2 ^ up
  pub exponent : e ≡ y + (52 - up)
  pub least : 2 ^ 52 ≤ d
  pub most : d < 2 ^ 53
