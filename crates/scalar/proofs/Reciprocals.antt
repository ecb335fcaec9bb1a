-- A quotient of two whole numbers is their fraction, rounded once. So 1/n, divided, is the f64 nearest 1/n. Assumes
-- nothing.
use Rattle.std.proofs.Common.{◌≡◌, ℕ, zero, suc, ◌*◌, ◌^◌, ◌<◌, ◌≤◌, Bool, true, false, cond, ◌&&◌, T, eqb, leb, ltb, List, [], ◌∷◌, map, pos, refl, sym, ap, ◌∙◌, subst, lt_irrefl, mul-pos, zero-mul, mul-one, true≢false, ne_eqb, leb→le, ltb→lt, arith}
use Rattle.std.specs.List.{fold}
use lib.Ieee.{Float, nan, inf, fin, binary64, up, down, of_bits, of_int, div, round}
use lib.Ieee.Back.{round_whole}
use lib.Ieee.Exact.{HasValue}
use lib.Ieee.Fits.{up_pos, down_pos, and_l, and_r}
use lib.Ieee.Scale.{round_same}
use Rattle.scalar.specs.Ln.{reciprocal, odds_down, one, series_step, ln_series}

-- where a · u / e is m and b · v / d is n, (a · u / e) / (b · v / d) is m / n
crosswise : (a u e b v d m n : ℕ) → a * u * 1 ≡ m * e → b * v * 1 ≡ n * d → a * u * d * n ≡ m * (b * v * e)
crosswise a u e b v d m n p q =
    let above : a * u * d * n ≡ m * e * d * n = ap (λ z. z * d * n) (sym (mul-one (a * u)) ∙ p) in
    let under : m * (b * v * e) ≡ m * (n * d * e) = ap (λ z. m * (z * e)) (sym (mul-one (b * v)) ∙ q) in
    above ∙ omega arith ∙ sym under

-- x / y, where x is the whole number m and y the whole number n
whole_quotient : (x y : Float) (m n : ℕ) → 0 < n → HasValue x false m 1 → HasValue y false n 1 → div binary64 x y ≡ round binary64 false m n
unfolding div
whole_quotient (fin false a e) (fin false (suc b) d) m n N v w =
    ap (λ t. cond t (cond (eqb a 0) nan (inf false)) (round binary64 false (a * up e * down d) (suc b * up d * down e))) (ne_eqb (suc b) 0 (λ (z : suc b ≡ 0). omega arith))
    ∙ round_same binary64 false (a * up e * down d) (suc b * up d * down e) m n (mul-pos (mul-pos (omega arith) (up_pos d)) (down_pos e)) N (crosswise a (up e) (down e) (suc b) (up d) (down d) m n v.1 w.1)
whole_quotient (fin false a e) (fin false zero d) m n N v w = absurd (lt_irrefl 0 (subst (λ z. 0 < z) (sym w.1 ∙ ap (λ z. z * 1) (zero-mul (up d)) ∙ zero-mul 1) (mul-pos N (down_pos d))))
whole_quotient nan y m n N v w = absurd v
whole_quotient (inf s) y m n N v w = absurd v
whole_quotient (fin true a e) y m n N v w = absurd (true≢false v.0)
whole_quotient (fin false a e) nan m n N v w = absurd w
whole_quotient (fin false a e) (inf t) m n N v w = absurd w
whole_quotient (fin false a e) (fin true b d) m n N v w = absurd (true≢false w.0)

one_is : HasValue one false 1 1
unfolding of_bits
one_is = (refl, refl)

-- 1/n, as the code divides
abbrev quotient : ℕ → Float
quotient n = div binary64 one (of_int binary64 (pos n))

quotient_is : (n : ℕ) → 0 < n → n ≤ 2 ^ 53 → quotient n ≡ reciprocal n
unfolding reciprocal of_int
quotient_is n N h = whole_quotient one (round binary64 false n 1) 1 n N one_is (round_whole binary64 false n h)

-- whole numbers that are floats, none of them 0
abbrev divisors : List ℕ → Bool
divisors [] = true
divisors (n ∷ ns) = ltb 0 n && leb n (2 ^ 53) && divisors ns

quotients_are : (ns : List ℕ) → T (divisors ns) → map quotient ns ≡ map reciprocal ns
quotients_are [] t = refl
quotients_are (n ∷ ns) t =
    let whole : T (ltb 0 n && leb n (2 ^ 53)) = and_l (ltb 0 n && leb n (2 ^ 53)) (divisors ns) t in
    let head : quotient n ≡ reciprocal n = quotient_is n (ltb→lt 0 n (and_l (ltb 0 n) (leb n (2 ^ 53)) whole)) (leb→le n (2 ^ 53) (and_r (ltb 0 n) (leb n (2 ^ 53)) whole)) in
    let tail : map quotient ns ≡ map reciprocal ns = quotients_are ns (and_r (ltb 0 n && leb n (2 ^ 53)) (divisors ns) t) in
    λ i. head i ∷ tail i

-- ---- the series
pub series_is : (w : Float) → fold (series_step w) (quotient 21) (map quotient odds_down) ≡ ln_series w
unfolding ln_series odds_down
series_is w =
    let start : quotient 21 ≡ reciprocal 21 = quotient_is 21 (omega arith) (omega arith) in
    ap (fold (series_step w) (quotient 21)) (quotients_are odds_down tt) ∙ ap (λ s. fold (series_step w) s (map reciprocal odds_down)) start
