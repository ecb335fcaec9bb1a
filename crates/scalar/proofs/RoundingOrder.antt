-- Rounding keeps the order: of two numbers the larger rounds to a value that is no smaller, negative ones too. Assumes
-- nothing.
use Rattle.std.proofs.Common.{◌≡◌, ℕ, zero, suc, ◌+◌, ◌-◌, ◌*◌, ◌^◌, ◌<◌, ◌≤◌, Bool, true, false, cond, T, ltb, eqb, ℤ, pos, sym, refl, ap, ◌∙◌, subst, inl, inr, mul-pos, eqb→eq, ltb→lt, arith, eq-zero-or-pos, ltb-true, ltb-false, add_comm, ◌&&◌}
use lib.Ieee.{Float, nan, inf, fin, Format, binary32, binary64, below, level, prec, emax, low, up, down, odd, units, round, neg, sum, lt, eq, le}
use lib.Ieee.Fits.{and_l, and_r, round_is}
use lib.Ieee.Order.{round_mono}
use lib.Ieee.Positive.{den}
use Rattle.std.specs.Float.{◌≤ᶠ◌, float_zero}
use Rattle.std.proofs.lemmas.Float.{le_of_lt, le_of_eq, lt-or-eq, le_trans, eq_flip}

-- ---- what is below comes above with the signs turned
lt-neg : (x y : Float) → lt (neg y) (neg x) ≡ lt x y
unfolding lt neg
lt-neg nan nan = refl
lt-neg nan (inf t) = refl
lt-neg nan (fin t n d) = refl
lt-neg (inf s) nan = refl
lt-neg (inf true) (inf true) = refl
lt-neg (inf true) (inf false) = refl
lt-neg (inf false) (inf true) = refl
lt-neg (inf false) (inf false) = refl
lt-neg (inf true) (fin t n d) = refl
lt-neg (inf false) (fin t n d) = refl
lt-neg (fin s m e) nan = refl
lt-neg (fin s m e) (inf true) = refl
lt-neg (fin s m e) (inf false) = refl
lt-neg (fin true m e) (fin true n d) = refl
lt-neg (fin true m e) (fin false n d) = ap (ltb 0) (add_comm (n * up d * down e) (m * up e * down d))
lt-neg (fin false m e) (fin true n d) = refl
lt-neg (fin false m e) (fin false n d) = refl

eq-neg : (x y : Float) → eq (neg x) (neg y) ≡ eq x y
unfolding eq neg
eq-neg nan y = refl
eq-neg (inf s) nan = refl
eq-neg (inf true) (inf true) = refl
eq-neg (inf true) (inf false) = refl
eq-neg (inf false) (inf true) = refl
eq-neg (inf false) (inf false) = refl
eq-neg (inf s) (fin t n d) = refl
eq-neg (fin s m e) nan = refl
eq-neg (fin s m e) (inf t) = refl
eq-neg (fin true m e) (fin true n d) = refl
eq-neg (fin true m e) (fin false n d) = refl
eq-neg (fin false m e) (fin true n d) = refl
eq-neg (fin false m e) (fin false n d) = refl

pub neg_anti : (x y : Float) → x ≤ᶠ y → neg y ≤ᶠ neg x
neg_anti x y h = elim (lt-or-eq x y h) [
  | inl l ↦ le_of_lt (neg y) (neg x) (subst T (sym (lt-neg x y)) l)
  | inr q ↦ le_of_eq (neg y) (neg x) (subst T (sym (eq-neg y x)) (eq_flip x y q))
]

-- ---- rounding with a sign
neg-odd : (d q k l : ℕ) → neg (odd d false q k l) ≡ odd d true q k l
unfolding neg odd
neg-odd d zero k l = refl
neg-odd d (suc q) k l = refl

neg-units : (f : Format) (q k : ℕ) → neg (units f false q k) ≡ units f true q k
unfolding units neg
neg-units f q k = go (ltb (q * 2 ^ k) (2 ^ (low f + suc (emax f))))
  where
    go : (b : Bool) → neg (cond b (odd (suc (prec f)) false q k (low f)) (inf false)) ≡ cond b (odd (suc (prec f)) true q k (low f)) (inf true)
    go true = neg-odd (suc (prec f)) q k (low f)
    go false = refl

pub neg-round : (f : Format) (a c : ℕ) → neg (round f false a c) ≡ round f true a c
neg-round f a c = ap neg (round_is f false a c) ∙ neg-units f _ _ ∙ sym (round_is f true a c)

nothing : (f : Format) (s : Bool) → round f s 0 1 ≡ fin s 0 (pos 0)
unfolding round
nothing binary32 true = refl
nothing binary32 false = refl
nothing binary64 true = refl
nothing binary64 false = refl

-- ---- a number with a sign is the difference of two that have none
abbrev pub plus : Bool → ℕ → ℕ
plus true a = 0
plus false a = a

abbrev pub minus : Bool → ℕ → ℕ
minus true a = a
minus false a = 0

module _ (f : Format) where
  pub not_negative : (a b : ℕ) → 0 < b → float_zero ≤ᶠ round f false a b
  not_negative a b B = subst (λ z. z ≤ᶠ round f false a b) (nothing f false) (round_mono f 0 1 a b (omega arith) B (omega arith))

  pub not_positive : (a b : ℕ) → 0 < b → round f true a b ≤ᶠ fin true 0 (pos 0)
  unfolding neg
  not_positive a b B = subst (λ z. z ≤ᶠ fin true 0 (pos 0)) (neg-round f a b) (neg_anti _ _ (not_negative a b B))

  zeros : (s t : Bool) → fin s 0 (pos 0) ≤ᶠ fin t 0 (pos 0)
  unfolding le
  zeros true true = tt
  zeros true false = tt
  zeros false true = tt
  zeros false false = tt

  pub signed_mono : (s : Bool) (a b : ℕ) (t : Bool) (c d : ℕ) → 0 < b → 0 < d → plus s a * d + minus t c * b ≤ plus t c * b + minus s a * d → round f s a b ≤ᶠ round f t c d
  signed_mono false a b false c d B D h = round_mono f a b c d B D (omega arith)
  signed_mono true a b true c d B D h =
      subst (λ z. z ≤ᶠ round f true c d) (neg-round f a b) (subst (λ z. neg (round f false a b) ≤ᶠ z) (neg-round f c d) (neg_anti _ _ (round_mono f c d a b D B (omega arith))))
  signed_mono true a b false c d B D h = le_trans _ _ _ (not_positive a b B) (le_trans _ _ _ (zeros true false) (not_negative c d D))
  signed_mono false a b true c d B D h =
      le_trans _ _ _ (subst (λ z. round f false a b ≤ᶠ z) (nothing f false) (round_mono f a b 0 1 B (omega arith) (omega (arith, none a d D (omega arith)))))
      (le_trans _ _ _ (zeros false true)
      (subst (λ z. z ≤ᶠ round f true c d) (neg-nothing) (subst (λ z. neg (round f false 0 1) ≤ᶠ z) (neg-round f c d) (neg_anti _ _ (round_mono f c d 0 1 D (omega arith) (omega (arith, none c b B (omega arith))))))))
    where
      none : (a d : ℕ) → 0 < d → a * d ≤ 0 → a ≡ 0
      none a d D h = elim (eq-zero-or-pos a) [ inl z ↦ z | inr p ↦ absurd (omega (arith, mul-pos p D)) ]

      neg-nothing : neg (round f false 0 1) ≡ fin true 0 (pos 0)
      neg-nothing = neg-round f 0 1 ∙ nothing f true

-- v is (p - q) / c, rounded
pub record Rounds (f : Format) (p q c : ℕ) (v : Float) : Type 0 where
  pub sign : Bool
  pub size : ℕ
  pub is : v ≡ round f sign size c
  pub from : p + minus sign size ≡ q + plus sign size

module _ (f : Format) where
  pub rounds_mono : (p q c p' q' c' : ℕ) (v v' : Float) → Rounds f p q c v → Rounds f p' q' c' v' → 0 < c → 0 < c' → p * c' + q' * c ≤ p' * c + q * c' → v ≤ᶠ v'
  rounds_mono p q c p' q' c' v v' r r' C C' h =
      rw (r.is, r'.is) (signed_mono f r.sign r.size c r'.sign r'.size c' C C'
      (between (plus r.sign r.size) (minus r.sign r.size) (plus r'.sign r'.size) (minus r'.sign r'.size) r.from r'.from))
    where
      between : (x y x' y' : ℕ) → p + y ≡ q + x → p' + y' ≡ q' + x' → x * c' + y' * c ≤ x' * c + y * c'
      between x y x' y' e e' = omega (arith, ap (λ z. z * c') e, ap (λ z. z * c) e')

  pub sum_rounds : (s : Bool) (a : ℕ) (t : Bool) (b c : ℕ) → Rounds f (plus s a + plus t b) (minus s a + minus t b) c (sum f s a t b c)
  unfolding sum
  sum_rounds true a true b c = record { sign = true; size = a + b; is = refl; from = omega arith }
  sum_rounds false a false b c = record { sign = false; size = a + b; is = refl; from = omega arith }
  sum_rounds true a false b c = go (ltb a b) (ltb b a) refl refl
    where
      go : (x y : Bool) → ltb a b ≡ x → ltb b a ≡ y → Rounds f (0 + b) (a + 0) c (cond x (round f false (b - a) c) (round f (true && y) (a - b) c))
      go true y e g = record { sign = false; size = b - a; is = refl; from = omega (arith, ltb-true _ _ e) }
      go false true e g = record { sign = true; size = a - b; is = refl; from = omega (arith, ltb-true _ _ g) }
      go false false e g = record { sign = false; size = a - b; is = refl; from = omega (arith, ltb-false a b e, ltb-false b a g) }
  sum_rounds false a true b c = go (ltb a b) refl
    where
      go : (x : Bool) → ltb a b ≡ x → Rounds f (a + 0) (0 + b) c (cond x (round f true (b - a) c) (round f (false && ltb b a) (a - b) c))
      go true e = record { sign = true; size = b - a; is = refl; from = omega (arith, ltb-true _ _ e) }
      go false e = record { sign = false; size = a - b; is = refl; from = omega (arith, ltb-false a b e) }

-- ---- the order of finite numbers, by their sizes
below_sizes : (s : Bool) (a : ℕ) (t : Bool) (b : ℕ) → T (below s a t b) → plus s a + minus t b ≤ plus t b + minus s a
below_sizes false a false b h = omega (arith, ltb→lt a b h)
below_sizes false a true b h = absurd h
below_sizes true a false b h = omega arith
below_sizes true a true b h = omega (arith, ltb→lt b a h)

level_sizes : (s : Bool) (a : ℕ) (t : Bool) (b : ℕ) → T (level s a t b) → plus s a + minus t b ≤ plus t b + minus s a
level_sizes false a false b h = omega (arith, eqb→eq a b (and_l (eqb a b) true h))
level_sizes false a true b h = omega (arith, eqb→eq a b (and_l (eqb a b) (eqb a 0) h), eqb→eq a 0 (and_r (eqb a b) (eqb a 0) h))
level_sizes true a false b h = omega arith
level_sizes true a true b h = omega (arith, eqb→eq a b (and_l (eqb a b) true h))

pub times : (s : Bool) (a d : ℕ) → (plus s (a * d) ≡ plus s a * d) × (minus s (a * d) ≡ minus s a * d)
times true a d = omega arith
times false a d = omega arith

-- x is (over x - under x) / den x
abbrev pub over : Float → ℕ
over nan = 0
over (inf s) = 0
over (fin s m e) = plus s (m * up e)

abbrev pub under : Float → ℕ
under nan = 0
under (inf s) = 0
under (fin s m e) = minus s (m * up e)

pub sizes : (s : Bool) (m : ℕ) (e : ℤ) (t : Bool) (n : ℕ) (d : ℤ) → let x = fin s m e in let y = fin t n d in x ≤ᶠ y → over x * den y + under y * den x ≤ over y * den x + under x * den y
unfolding lt eq
sizes s m e t n d h =
    let a = m * up e in
    let b = n * up d in
    rw (← (times s a (down d)).0, ← (times s a (down d)).1, ← (times t b (down e)).0, ← (times t b (down e)).1)
    (elim (lt-or-eq _ _ h) [ inl l ↦ below_sizes s (a * down d) t (b * down e) l | inr q ↦ level_sizes s (a * down d) t (b * down e) q ])
