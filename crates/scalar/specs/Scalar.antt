-- Document 01, "Arithmetic" and "records": small things on f64 and i64. Definitions only.
use Rattle.std.specs.Prelude.{ℕ, Bool, true, false, ℤ, from_bits, to_bits, Float}
use Rattle.std.specs.Float.{nan, inf, fin, binary64}
use Rattle.std.specs.Float.Ieee.{of_int, mul}
use Rattle.std.proofs.Common.{to_z, of_z}
use Rattle.std.specs.Int.{w64}

-- "finite": neither a NaN nor an infinity
unfoldable pub finite : Float → Bool
finite nan = false
finite (inf s) = false
finite (fin s m e) = true

-- "Nanoseconds go to the nearest f64, ties to even, then times 1e-9"
abbrev pub seconds_of : ℤ → Float
seconds_of n = mul binary64 (of_int binary64 n) (from_bits binary64 0x3e11_2e0b_e826_d695)

-- the pattern of an f64: "All NaNs compare equal here", and all are written 7ff8000000000000
abbrev pub bits_of : Float → ℕ
bits_of x = to_bits binary64 x

-- "times and ages in two's complement"
abbrev pub word : ℤ → ℕ
word z = of_z w64 z

-- the signed number of a word in two's complement
abbrev pub signed : ℕ → ℤ
signed b = to_z w64 b
