-- Document 01, "Arithmetic", the logarithm: each operation rounded once, in the order written. Definitions only.
use Rattle.std.specs.Prelude.{ℕ, zero, suc, ◌-◌, true, false, cond, List, [], ◌∷◌, map, ℤ, pos, ◌+ℤ◌, from_bits, Float}
use Rattle.std.specs.List.{fold}
use Rattle.std.specs.Float.{nan, inf, fin, binary64}
use Rattle.std.specs.Float.Ieee.{add, sub, mul, div, lt, of_int, round, size, minus}

-- "the reciprocals (each the f64 nearest 1/n)"
unfoldable pub reciprocal : ℕ → Float
reciprocal n = round binary64 false 1 n

-- "n = 19, 17, .., 1"
unfoldable pub odds_down : List ℕ
odds_down = 19 ∷ 17 ∷ 15 ∷ 13 ∷ 11 ∷ 9 ∷ 7 ∷ 5 ∷ 3 ∷ 1 ∷ []

-- "s = s·w + 1/n"
abbrev pub series_step : Float → Float → Float → Float
series_step w s r = add binary64 (mul binary64 s w) r

-- "s = 1/21; for n = 19, 17, .., 1: s = s·w + 1/n"
unfoldable pub ln_series : Float → Float
unfolding reciprocal odds_down
ln_series w = fold (series_step w) (reciprocal 21) (map reciprocal odds_down)

-- 1.4142135623730951
abbrev pub root_two : Float
root_two = from_bits binary64 0x3ff6_a09e_667f_3bcd

-- 0.6931471805599453
abbrev pub ln_two : Float
ln_two = from_bits binary64 0x3fe6_2e42_fefa_39ef

-- 1
abbrev pub one : Float
one = from_bits binary64 0x3ff0_0000_0000_0000

-- 2
abbrev pub two : Float
two = from_bits binary64 0x4000_0000_0000_0000

-- a half
abbrev pub half : Float
half = from_bits binary64 0x3fe0_0000_0000_0000

-- "f = (m − 1)/(m + 1), w = f·f": "Answer e·0.6931471805599453 + (2·f)·s"
unfoldable pub ln_near : Float → ℤ → Float
unfolding ln_series
ln_near m e =
    let f = div binary64 (sub binary64 m one) (add binary64 m one) in
    let w = mul binary64 f f in
    add binary64 (mul binary64 (of_int binary64 e) ln_two) (mul binary64 (mul binary64 two f) (ln_series w))

-- "a = m·2^e, 1 ≤ m < 2; if m > 1.4142135623730951, halve m, add 1 to e"
unfoldable pub ln_scaled : Float → ℤ → Float
unfolding ln_near
ln_scaled m e = cond (lt root_two m) (ln_near (mul binary64 m half) (e +ℤ pos 1)) (ln_near m e)

-- "NaN for NaN or below 0, −∞ for either 0, +∞ for +∞. Else a = m·2^e, 1 ≤ m < 2": n · 2^e is n / 2^d times 2^(e + d),
-- where n has d + 1 digits
unfoldable pub ln_of : Float → Float
unfolding ln_scaled
ln_of nan = nan
ln_of (inf s) = cond s nan (inf false)
ln_of (fin s zero e) = inf true
ln_of (fin s (suc n) e) = let d = size (suc n) - 1 in cond s nan (ln_scaled (fin false (suc n) (minus 0 d)) (e +ℤ pos d))
