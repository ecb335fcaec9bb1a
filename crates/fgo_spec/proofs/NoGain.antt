-- "A swap that leaves a's window equal is skipped": it can never win, so leaving its cut out changes nothing. Costs may
-- be infinite or NaN. Assumes nothing.
use Prim.Native.Nat.{ℕ, zero, suc, ◌+◌, ◌-◌, ◌*◌, ◌/◌, ◌%◌, ◌^◌, ◌<◌, compare}
use native.Mathlib.Nat.{mul-pos, zero-mul, le_refl, sub_self}
use native.Mathlib.Omega.{arith}
use mathlib.Core.Path.{◌≡◌, refl, sym, ap, ◌∙◌}
use mathlib.Core.Bool.{Bool, true, false, cond, ◌&&◌, ◌||◌, false≢true}
use mathlib.Core.List.{List, [], ◌∷◌, ◌++◌, map, foldl, append_cancel_left}
use lib.Dec.{ltb, eqb}
use lib.IntN.{ℤ, pos}
use lib.Ieee.{Float, nan, inf, fin, binary64, prec, emax, low, up, down, size, span, climb, nearest, round, units, odd, neg, sum, add, sub, lt, le, eq, of_bits, of_fields}
use lib.Ieee.Fits.{round_is, down_pos}
use lib.Ieee.Scale.{round_same}
use borrow.Author.Tests.{ltb-true, lt-ltb, le-ltb, eqb-true}
use Rattle.engine.specs.declared.config.FgoConfig.{FgoConfig}
use Rattle.std.specs.Prelude.{Option, Some, None}
use Rattle.fgo_spec.specs.declared.moves.PairMove.{PairMove}
use Rattle.fgo_spec.specs.Lists.{keep, cons_if, find}
use Rattle.fgo_spec.specs.Windows.{Scan, Prefix, window, price}
use Rattle.fgo_spec.specs.Searching.{Pair, pair_gain, best_gain, wins, better_pair, swapped, track_cost, try_swap, pair_candidates, best_of_pair}
use Rattle.fgo_spec.specs.Faithful.{before, from}
use Rattle.fgo_spec.proofs.Cutting.{parts, swap_says}

-- a float that is below 0, or −0.0
data Negative : Float → Type 0 where
  infinite : Negative (inf true)
  finite : {m : ℕ} {e : ℤ} → Negative (fin true m e)

-- rounding keeps the sign
odd_negative : (d q k l : ℕ) → Negative (odd d true q k l)
unfolding odd
odd_negative d zero k l = finite
odd_negative d (suc q) k l = finite

units_negative : (q k : ℕ) → Negative (units binary64 true q k)
unfolding units
units_negative q k = go (ltb (q * 2 ^ k) (2 ^ (low binary64 + suc (emax binary64))))
  where
    go : (b : Bool) → Negative (cond b (odd (suc (prec binary64)) true q k (low binary64)) (inf true))
    go true = odd_negative (suc (prec binary64)) q k (low binary64)
    go false = infinite

round_negative : (a c : ℕ) → Negative (round binary64 true a c)
round_negative a c =
    let n = a * 2 ^ low binary64 in
    let k = size (n / c) - prec binary64 in
    let u = c * 2 ^ k in
    rw (round_is binary64 true a c) (units_negative (nearest (n / u) (compare (n % u * 2) u)) k)

-- 0 / c is 0
round_zero : (c : ℕ) → 0 < c → round binary64 false 0 c ≡ fin false 0 (pos 0)
round_zero c h = round_same binary64 false 0 c 0 1 h (omega arith) (omega arith) ∙ unfold round units odd size span climb in refl

-- 1e-9, as it is written
abbrev pub tiny : Float
tiny = of_bits binary64 0x3e11_2e0b_e826_d695

abbrev pub nought : Float
nought = of_bits binary64 0

none_above : (a b : ℕ) (t : Bool) → b ≡ 0 → (ltb a b || (eqb a b && t)) ≡ true → a ≡ 0
none_above a b t z h = go (ltb a b) refl (eqb a b) refl h
  where
    go : (p : Bool) → ltb a b ≡ p → (q : Bool) → eqb a b ≡ q → (p || (q && t)) ≡ true → a ≡ 0
    go true u q v k = let l = ltb-true a b u in absurd (omega arith)
    go false u true v k = eqb-true a b v ∙ z
    go false u false v k = absurd (false≢true k)

-- a best gain of 0.0 or below, less 1e-9, is negative
less : (best : Float) → le best nought ≡ true → Negative (sub binary64 best tiny)
unfolding sub add sum neg of_bits of_fields odd le lt eq
less nan h = absurd (false≢true h)
less (inf true) h = infinite
less (inf false) h = absurd (false≢true h)
less (fin true m e) h = round_negative (m * up e * 4835703278458516698824704 + 4835703278458517 * down e) (down e * 4835703278458516698824704)
less (fin false m e) h =
    let z : m * up e * 1 ≡ 0 = none_above (m * up e * 1) (0 * down e) true (zero-mul (down e)) h in
    let k = down_pos e in
    let a : m * up e ≡ 0 = omega arith in
    rw (lt-ltb (m * up e * 4835703278458516698824704) (4835703278458517 * down e) (rw a (omega arith)))
    (round_negative (4835703278458517 * down e - m * up e * 4835703278458516698824704) (down e * 4835703278458516698824704))

-- nothing that is 0 or NaN is below a negative number, and what is below one is 0.0 or below
no_lower : (y : Float) → Negative y → (lt nan y ≡ false) × (lt (fin false 0 (pos 0)) y ≡ false)
unfolding lt
no_lower nan n = elim n [ ]
no_lower (inf true) infinite = (refl, refl)
no_lower (inf false) n = elim n [ ]
no_lower (fin true m e) finite = (refl, refl)
no_lower (fin false m e) n = elim n [ ]

below_nought : (y : Float) → Negative y → le y nought ≡ true
unfolding le lt eq of_bits of_fields odd
below_nought nan n = elim n [ ]
below_nought (inf true) infinite = refl
below_nought (inf false) n = elim n [ ]
below_nought (fin false m e) n = elim n [ ]
below_nought (fin true m e) finite = go (m * up e * 1) (0 * down e) (zero-mul (down e))
  where
    go : (a b : ℕ) → b ≡ 0 → (ltb 0 (a + b) || (eqb a b && (false || eqb a 0))) ≡ true
    go zero b z = rw (z)
    go (suc a) b z = rw (lt-ltb 0 (suc a + b) (omega arith))

lower : (d y : Float) → Negative y → lt d y ≡ true → le d nought ≡ true
unfolding lt
lower nan y n h = absurd (false≢true h)
lower (inf true) y n h = below_nought (inf true) infinite
lower (inf false) nan n h = elim n [ ]
lower (inf false) (inf true) infinite h = absurd (false≢true h)
lower (inf false) (inf false) n h = elim n [ ]
lower (inf false) (fin false m e) n h = elim n [ ]
lower (inf false) (fin true m e) finite h = absurd (false≢true h)
lower (fin true m e) y n h = below_nought (fin true m e) finite
lower (fin false m e) nan n h = elim n [ ]
lower (fin false m e) (inf true) infinite h = absurd (false≢true h)
lower (fin false m e) (inf false) n h = elim n [ ]
lower (fin false m e) (fin false k g) n h = elim n [ ]
lower (fin false m e) (fin true k g) finite h = absurd (false≢true h)

-- a number less itself is 0.0, or NaN where it is not finite
data Nothing : Float → Type 0 where
  zero_is : Nothing (fin false 0 (pos 0))
  nan_is : Nothing nan

itself : (x : Float) → Nothing (sub binary64 x x)
unfolding sub add sum neg
itself nan = nan_is
itself (inf true) = nan_is
itself (inf false) = nan_is
itself (fin true m e) = rw (le-ltb (m * up e * down e) (m * up e * down e) (le_refl (m * up e * down e)), sub_self (m * up e * down e), round_zero (down e * down e) (mul-pos (down_pos e) (down_pos e))) zero_is
itself (fin false m e) = rw (le-ltb (m * up e * down e) (m * up e * down e) (le_refl (m * up e * down e)), sub_self (m * up e * down e), round_zero (down e * down e) (mul-pos (down_pos e) (down_pos e))) zero_is

-- no gain wins against a best of 0.0 or below
gains_nothing : (d best : Float) → Nothing d → le best nought ≡ true → wins d best ≡ false
gains_nothing (fin false zero e) best zero_is h = (no_lower (sub binary64 best tiny) (less best h)).1
gains_nothing (inf s) best n h = elim n [ ]
gains_nothing (fin false (suc m) e) best n h = elim n [ ]
gains_nothing (fin true m e) best n h = elim n [ ]
gains_nothing nan best nan_is h = (no_lower (sub binary64 best tiny) (less best h)).0

-- a number less itself does not
pub nothing_wins : (x best : Float) → le best nought ≡ true → wins (sub binary64 x x) best ≡ false
nothing_wins x best h = gains_nothing (sub binary64 x x) best (itself x) h

-- the best so far is of gain 0.0 or below
pub best_below : (best : Option PairMove) (m : PairMove) → le (best_gain pair_gain best) nought ≡ true → le (best_gain pair_gain (better_pair best m)) nought ≡ true
best_below best m h = go (wins (pair_gain m) (best_gain pair_gain best)) refl
  where
    go : (b : Bool) → wins (pair_gain m) (best_gain pair_gain best) ≡ b → le (best_gain pair_gain (cond b (Some m) best)) nought ≡ true
    go true q = lower (pair_gain m) (sub binary64 (best_gain pair_gain best) tiny) (less (best_gain pair_gain best) h) q
    go false q = h

pub start : le nought nought ≡ true
unfolding le lt eq of_bits of_fields odd
start = refl

module _ (c : FgoConfig) (n : ℕ) (ps : List (ℕ × Prefix)) (ss : List Scan) where
  -- "The base is the old cost of a plus the old cost of b"
  abbrev pub base : ℕ → ℕ → Float
  base a b = add binary64 (track_cost c n ps a ss) (track_cost c n ps b ss)

  module _ (a b : ℕ) (apart : a ≡ b → ⊥) where
    -- a swap that leaves a's window equal leaves b's equal too
    both_equal : (f : ℕ) → window a n (swapped c n ps a b f ss) ≡ window a n ss → window b n (swapped c n ps a b f ss) ≡ window b n ss
    both_equal f e =
        let s = swap_says c n ps a b f nought ss apart in
        let t : from f (window b n ss) ≡ from f (window a n ss) =
        append_cancel_left (before f (window a n ss)) (from f (window b n ss)) (from f (window a n ss)) (sym s.first ∙ e ∙ sym (parts f a n ss)) in
        s.second ∙ ap (λ w. before f (window b n ss) ++ w) (sym t) ∙ parts f b n ss

    same-gain : (f : ℕ) → window a n (swapped c n ps a b f ss) ≡ window a n ss → pair_gain (try_swap c n ps a b ss (base a b) f) ≡ sub binary64 (base a b) (base a b)
    unfolding try_swap track_cost
    same-gain f e = λ i. sub binary64 (add binary64 (price c (find a ps) (e i)) (price c (find b ps) (both_equal f e i))) (base a b)

    -- "A swap that leaves a's window equal" never wins
    pub never_wins : (f : ℕ) → window a n (swapped c n ps a b f ss) ≡ window a n ss → (best : Float) → le best nought ≡ true → wins (pair_gain (try_swap c n ps a b ss (base a b) f)) best ≡ false
    never_wins f e best h = rw (same-gain f e) (nothing_wins (base a b) best h)

    -- such cuts may be left out
    module _ (g : ℕ → Bool) (idle : (f : ℕ) → g f ≡ false → window a n (swapped c n ps a b f ss) ≡ window a n ss) where
      fewer : (fs : List ℕ) (rest : List PairMove) (best : Option PairMove) → le (best_gain pair_gain best) nought ≡ true → foldl better_pair best (map (try_swap c n ps a b ss (base a b)) (keep g fs) ++ rest) ≡ foldl better_pair best (map (try_swap c n ps a b ss (base a b)) fs ++ rest)
      unfolding keep
      fewer [] rest best h = refl
      fewer (f ∷ fs) rest best h = go (g f) refl (fewer fs rest)
        where
          try : ℕ → PairMove
          try = try_swap c n ps a b ss (base a b)

          go : (k : Bool) → g f ≡ k → ((best : Option PairMove) → le (best_gain pair_gain best) nought ≡ true → foldl better_pair best (map try (keep g fs) ++ rest) ≡ foldl better_pair best (map try fs ++ rest)) → foldl better_pair best (map try (cons_if k f (keep g fs)) ++ rest) ≡ foldl better_pair (better_pair best (try f)) (map try fs ++ rest)
          go true q r = r (better_pair best (try f)) (best_below best (try f) h)
          go false q r = rw (never_wins f (idle f q) (best_gain pair_gain best) h) (r best h)

  -- a pair's best move is the same where cuts are left out at which a swap would leave a's window equal
  pub same_best : (p : Pair) → (p.a ≡ p.b → ⊥) → (g : ℕ → Bool) → ((f : ℕ) → g f ≡ false → window p.a n (swapped c n ps p.a p.b f ss) ≡ window p.a n ss) → best_of_pair c n ps ss (record { a = p.a; b = p.b; cuts = keep g p.cuts }) ≡ best_of_pair c n ps ss p
  unfolding best_of_pair pair_candidates
  same_best p apart g idle = fewer p.a p.b apart g idle p.cuts _ None start
