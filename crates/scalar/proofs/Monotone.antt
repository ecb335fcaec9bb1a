-- The operations keep the order of what they are applied to, since each rounds once: sums, differences, products with a
-- number above 0, squares, and whole numbers as floats. It holds of infinities as well, as far as no NaN comes out.
-- Assumes nothing.
use Rattle.std.proofs.Common.{◌≡◌, ℕ, zero, suc, ◌+◌, ◌-◌, ◌*◌, ◌^◌, ◌<◌, ◌≤◌, Bool, true, false, not, T, ltb, eqb, ℤ, pos, negsuc, sym, refl, ap, ◌∙◌, subst, mul-pos, mul-le-mul_right, mul-le-mul, pow-suc, eq-eqb, mul_assoc, lt_of_mul-lt-mul_right, mul-lt-mul_of_pos_right, pow-add, leb, ◌%◌, mul_comm, ne_eqb, pow_pos, subst₂, leb→le, ltb→lt, arith, add_comm, ◌&&◌, ◌≤ℤ◌}
use Rattle.scalar.proofs.Positive.{pow_lt_back}
use lib.Ieee.{Float, nan, inf, fin, Format, binary64, prec, emax, low, unlike, up, down, round, neg, sum, add, sub, mul, eq, le, of_int, is_nan, fits, of_bits}
use Rattle.scalar.specs.Scalar.{seconds_of}
use lib.Ieee.Fits.{down_pos, and_l, and_r}
use lib.Ieee.Exact.{HasValue, round_exact}
use lib.Ieee.Order.{round_mono}
use lib.Ieee.Positive.{den, positive}
use Rattle.std.specs.Float.{NotNan, ◌≤ᶠ◌, float_zero}
use Rattle.std.proofs.lemmas.Float.{le_of_eq, le_trans, le_refl, le_left, le_right}
use Rattle.scalar.proofs.RoundingOrder.{neg_anti, neg-round, plus, minus, not_negative, not_positive, signed_mono, Rounds, rounds_mono, sum_rounds, times, over, under, sizes}

-- ---- infinities
not_above : (x : Float) → NotNan x → x ≤ᶠ inf false
unfolding le is_nan
not_above nan h = h
not_above (inf true) h = tt
not_above (inf false) h = tt
not_above (fin s m e) h = tt

not_below : (x : Float) → NotNan x → inf true ≤ᶠ x
unfolding le is_nan
not_below nan h = h
not_below (inf true) h = tt
not_below (inf false) h = tt
not_below (fin s m e) h = tt

-- nothing else is at the positive infinity or above it
top : (x : Float) → inf false ≤ᶠ x → inf false ≡ x
unfolding le
top nan h = absurd h
top (inf true) h = absurd h
top (inf false) h = refl
top (fin t n d) h = absurd h

module _ (f : Format) where
  add_inf : (s : Bool) (y : Float) → NotNan (add f (inf s) y) → inf s ≡ add f (inf s) y
  unfolding add is_nan
  add_inf s nan h = absurd h
  add_inf true (inf true) h = refl
  add_inf true (inf false) h = absurd h
  add_inf false (inf true) h = absurd h
  add_inf false (inf false) h = refl
  add_inf s (fin t n d) h = refl

  inf_add : (x : Float) (s : Bool) → NotNan (add f x (inf s)) → inf s ≡ add f x (inf s)
  unfolding add is_nan
  inf_add nan s h = absurd h
  inf_add (inf true) true h = refl
  inf_add (inf true) false h = absurd h
  inf_add (inf false) true h = absurd h
  inf_add (inf false) false h = refl
  inf_add (fin t n d) s h = refl

  -- ---- what is no NaN was made of numbers
  pub add_numbers : (x y : Float) → NotNan (add f x y) → NotNan x × NotNan y
  unfolding add is_nan
  add_numbers nan y h = absurd h
  add_numbers (inf s) nan h = absurd h
  add_numbers (inf s) (inf t) h = (tt, tt)
  add_numbers (inf s) (fin t n d) h = (tt, tt)
  add_numbers (fin s m e) nan h = absurd h
  add_numbers (fin s m e) (inf t) h = (tt, tt)
  add_numbers (fin s m e) (fin t n d) h = (tt, tt)

  pub sub_numbers : (x y : Float) → NotNan (sub f x y) → NotNan x × NotNan y
  unfolding sub neg is_nan
  sub_numbers x nan h = absurd (add_numbers x nan h).1
  sub_numbers x (inf t) h = ((add_numbers x (inf (not t)) h).0, tt)
  sub_numbers x (fin t n d) h = ((add_numbers x (fin (not t) n d) h).0, tt)

  pub mul_numbers : (x y : Float) → NotNan (mul f x y) → NotNan x × NotNan y
  unfolding mul is_nan
  mul_numbers nan y h = absurd h
  mul_numbers (inf s) nan h = absurd h
  mul_numbers (inf s) (inf t) h = (tt, tt)
  mul_numbers (inf s) (fin t n d) h = (tt, tt)
  mul_numbers (fin s m e) nan h = absurd h
  mul_numbers (fin s m e) (inf t) h = (tt, tt)
  mul_numbers (fin s m e) (fin t n d) h = (tt, tt)

  round_number : (s : Bool) (a c : ℕ) → 0 < c → NotNan (round f s a c)
  round_number true a c C = le_left _ (fin true 0 (pos 0)) (not_positive f a c C)
  round_number false a c C = le_right float_zero _ (not_negative f a c C)

  -- ---- a sum
  add_rounds : (s : Bool) (m : ℕ) (e : ℤ) (t : Bool) (n : ℕ) (d : ℤ) → let x = fin s m e in let y = fin t n d in
      Rounds f (over x * den y + over y * den x) (under x * den y + under y * den x) (den x * den y) (add f x y)
  unfolding add
  add_rounds s m e t n d =
      rw (← (times s (m * up e) (down d)).0, ← (times s (m * up e) (down d)).1, ← (times t (n * up d) (down e)).0, ← (times t (n * up d) (down e)).1)
      (sum_rounds f s (m * up e * down d) t (n * up d * down e) (down e * down d))

  sums : (p q c p' q' c' r u d r' u' d' : ℕ) → p * c' + q' * c ≤ p' * c + q * c' → r * d' + u' * d ≤ r' * d + u * d'
      → (p * d + r * c) * (c' * d') + (q' * d' + u' * c') * (c * d) ≤ (p' * d' + r' * c') * (c * d) + (q * d + u * c) * (c' * d')
  sums p q c p' q' c' r u d r' u' d' h k = omega (arith, mul-le-mul_right (d * d') h, mul-le-mul_right (c * c') k)

  pub add_mono : (x x' y y' : Float) → x ≤ᶠ x' → y ≤ᶠ y' → NotNan (add f x y) → NotNan (add f x' y') → add f x y ≤ᶠ add f x' y'
  unfolding le
  add_mono nan x' y y' h k o o' = absurd h
  add_mono (inf true) x' y y' h k o o' = subst (λ z. z ≤ᶠ add f x' y') (add_inf true y o) (not_below _ o')
  add_mono (inf false) x' y y' h k o o' =
      subst (λ w. NotNan (add f w y') → add f (inf false) y ≤ᶠ add f w y') (top x' h) (λ p. subst (λ z. add f (inf false) y ≤ᶠ z) (add_inf false y' p) (not_above _ o)) o'
  add_mono (fin s m e) x' nan y' h k o o' = absurd k
  add_mono (fin s m e) x' (inf true) y' h k o o' = subst (λ z. z ≤ᶠ add f x' y') (inf_add (fin s m e) true o) (not_below _ o')
  add_mono (fin s m e) x' (inf false) y' h k o o' =
      subst (λ w. NotNan (add f x' w) → add f (fin s m e) (inf false) ≤ᶠ add f x' w) (top y' k) (λ p. subst (λ z. add f (fin s m e) (inf false) ≤ᶠ z) (inf_add x' false p) (not_above _ o)) o'
  add_mono (fin s m e) nan (fin t n d) y' h k o o' = absurd h
  add_mono (fin s m e) (inf true) (fin t n d) y' h k o o' = absurd h
  add_mono (fin s m e) (inf false) (fin t n d) y' h k o o' = subst (λ z. add f (fin s m e) (fin t n d) ≤ᶠ z) (add_inf false y' o') (not_above _ o)
  add_mono (fin s m e) (fin s' m' e') (fin t n d) nan h k o o' = absurd k
  add_mono (fin s m e) (fin s' m' e') (fin t n d) (inf true) h k o o' = absurd k
  add_mono (fin s m e) (fin s' m' e') (fin t n d) (inf false) h k o o' =
      subst (λ z. add f (fin s m e) (fin t n d) ≤ᶠ z) (inf_add (fin s' m' e') false o') (not_above _ o)
  add_mono (fin s m e) (fin s' m' e') (fin t n d) (fin t' n' d') h k o o' =
      rounds_mono f _ _ _ _ _ _ _ _ (add_rounds s m e t n d) (add_rounds s' m' e' t' n' d') (mul-pos (down_pos e) (down_pos d)) (mul-pos (down_pos e') (down_pos d'))
      (sums (over (fin s m e)) (under (fin s m e)) (down e) (over (fin s' m' e')) (under (fin s' m' e')) (down e') (over (fin t n d)) (under (fin t n d)) (down d)
      (over (fin t' n' d')) (under (fin t' n' d')) (down d') (sizes s m e s' m' e' h) (sizes t n d t' n' d' k))

  -- ---- a difference
  pub sub_mono : (x x' y y' : Float) → x ≤ᶠ x' → y' ≤ᶠ y → NotNan (sub f x y) → NotNan (sub f x' y') → sub f x y ≤ᶠ sub f x' y'
  unfolding sub
  sub_mono x x' y y' h k o o' = add_mono x x' (neg y) (neg y') h (neg_anti y' y k) o o'

  -- ---- a product with a number above 0
  mul_inf : (s : Bool) (y : Float) → T (positive y) → inf s ≡ mul f (inf s) y
  unfolding mul
  mul_inf s nan p = absurd p
  mul_inf s (inf t) p = absurd p
  mul_inf s (fin true n d) p = absurd p
  mul_inf true (fin false n d) p = rw (ne_eqb n 0 (λ z. omega (arith, ltb→lt 0 n p))) refl
  mul_inf false (fin false n d) p = rw (ne_eqb n 0 (λ z. omega (arith, ltb→lt 0 n p))) refl

  mul_rounds : (s : Bool) (m : ℕ) (e : ℤ) (n : ℕ) (d : ℤ) → let x = fin s m e in
      Rounds f (over x * (n * up d)) (under x * (n * up d)) (down e * down d) (mul f x (fin false n d))
  unfolding mul
  mul_rounds true m e n d = record { sign = true; size = m * up e * (n * up d); is = refl; from = omega arith }
  mul_rounds false m e n d = record { sign = false; size = m * up e * (n * up d); is = refl; from = omega arith }

  mul_number : (x y : Float) → NotNan x → T (positive y) → NotNan (mul f x y)
  unfolding mul is_nan
  mul_number nan y o p = absurd o
  mul_number (inf s) y o p = subst NotNan (mul_inf s y p) tt
  mul_number (fin s m e) nan o p = absurd p
  mul_number (fin s m e) (inf t) o p = absurd p
  mul_number (fin s m e) (fin t n d) o p = round_number (unlike s t) (m * up e * (n * up d)) (down e * down d) (mul-pos (down_pos e) (down_pos d))

  scaled : (p q c p' q' c' n d : ℕ) → p * c' + q' * c ≤ p' * c + q * c' → p * n * (c' * d) + q' * n * (c * d) ≤ p' * n * (c * d) + q * n * (c' * d)
  scaled p q c p' q' c' n d h = omega (arith, mul-le-mul_right (n * d) h)

  pub mul_mono : (x x' y : Float) → x ≤ᶠ x' → T (positive y) → mul f x y ≤ᶠ mul f x' y
  unfolding le
  mul_mono x x' y h p = go x x' y h p (mul_number x y (le_left x x' h) p) (mul_number x' y (le_right x x' h) p)
    where
      go : (x x' y : Float) → x ≤ᶠ x' → T (positive y) → NotNan (mul f x y) → NotNan (mul f x' y) → mul f x y ≤ᶠ mul f x' y
      go nan x' y h p o o' = absurd h
      go (inf true) x' y h p o o' = subst (λ z. z ≤ᶠ mul f x' y) (mul_inf true y p) (not_below _ o')
      go (inf false) x' y h p o o' = subst (λ z. mul f (inf false) y ≤ᶠ mul f z y) (top x' h) (le_refl _ o)
      go (fin s m e) nan y h p o o' = absurd h
      go (fin s m e) (inf true) y h p o o' = absurd h
      go (fin s m e) (inf false) y h p o o' = subst (λ z. mul f (fin s m e) y ≤ᶠ z) (mul_inf false y p) (not_above _ o)
      go (fin s m e) (fin s' m' e') nan h p o o' = absurd p
      go (fin s m e) (fin s' m' e') (inf t) h p o o' = absurd p
      go (fin s m e) (fin s' m' e') (fin true n d) h p o o' = absurd p
      go (fin s m e) (fin s' m' e') (fin false n d) h p o o' =
          rounds_mono f _ _ _ _ _ _ _ _ (mul_rounds s m e n d) (mul_rounds s' m' e' n d) (mul-pos (down_pos e) (down_pos d)) (mul-pos (down_pos e') (down_pos d))
          (scaled (over (fin s m e)) (under (fin s m e)) (down e) (over (fin s' m' e')) (under (fin s' m' e')) (down e') (n * up d) (down d) (sizes s m e s' m' e' h))

  -- ---- a whole number
  pub of_int_mono : (a b : ℤ) → a ≤ℤ b → of_int f a ≤ᶠ of_int f b
  unfolding of_int
  of_int_mono (pos a) (pos b) h = signed_mono f false a 1 false b 1 (omega arith) (omega arith) (omega (arith, leb→le a b h.le))
  of_int_mono (pos a) (negsuc b) h = absurd h.le
  of_int_mono (negsuc a) (pos b) h = signed_mono f true (suc a) 1 false b 1 (omega arith) (omega arith) (omega arith)
  of_int_mono (negsuc a) (negsuc b) h = signed_mono f true (suc a) 1 true (suc b) 1 (omega arith) (omega arith) (omega (arith, leb→le b a h.le))

  -- ---- a square
  pub square_not_negative : (x : Float) → NotNan x → float_zero ≤ᶠ mul f x x
  unfolding mul le is_nan
  square_not_negative nan h = absurd h
  square_not_negative (inf true) h = tt
  square_not_negative (inf false) h = tt
  square_not_negative (fin true m e) h = not_negative f _ _ (mul-pos (down_pos e) (down_pos e))
  square_not_negative (fin false m e) h = not_negative f _ _ (mul-pos (down_pos e) (down_pos e))

  smaller : (s : Bool) (a c : ℕ) (t : Bool) (b d : ℕ) → minus s a ≤ plus s a → plus s a * d + minus t b * c ≤ plus t b * c + minus s a * d → a * d ≤ b * c
  smaller true a c t b d p h = let z : a ≡ 0 = omega arith in omega (arith, ap (λ k. k * d) z)
  smaller false a c true b d p h = omega arith
  smaller false a c false b d p h = omega arith

  square_is : (s : Bool) (m : ℕ) (e : ℤ) → mul f (fin s m e) (fin s m e) ≡ round f false (m * up e * (m * up e)) (down e * down e)
  unfolding mul
  square_is true m e = refl
  square_is false m e = refl

  -- of two numbers that are not negative the greater has the greater square
  pub square_mono : (x y : Float) → float_zero ≤ᶠ x → x ≤ᶠ y → mul f x x ≤ᶠ mul f y y
  unfolding le mul
  square_mono nan y p h = absurd h
  square_mono (inf true) y p h = absurd p
  square_mono (inf false) nan p h = absurd h
  square_mono (inf false) (inf true) p h = absurd h
  square_mono (inf false) (inf false) p h = tt
  square_mono (inf false) (fin t n d) p h = absurd h
  square_mono (fin s m e) nan p h = absurd h
  square_mono (fin s m e) (inf true) p h = absurd h
  square_mono (fin s m e) (inf false) p h =
      subst (λ z. z ≤ᶠ inf false) (sym (square_is s m e)) (not_above _ (le_right float_zero _ (not_negative f (m * up e * (m * up e)) (down e * down e) (mul-pos (down_pos e) (down_pos e)))))
  square_mono (fin s m e) (fin t n d) p h =
      let k = smaller s (m * up e) (down e) t (n * up d) (down d) (omega (arith, sizes false 0 (pos 0) s m e p)) (sizes s m e t n d h) in
      rw (square_is s m e, square_is t n d)
      (round_mono f (m * up e * (m * up e)) (down e * down e) (n * up d * (n * up d)) (down d * down d) (mul-pos (down_pos e) (down_pos e)) (mul-pos (down_pos d) (down_pos d)) (omega (arith, mul-le-mul k k)))

  -- ---- a difference has the square of the opposite one
  square-neg : (x : Float) → mul f (neg x) (neg x) ≡ mul f x x
  unfolding mul neg
  square-neg nan = refl
  square-neg (inf true) = refl
  square-neg (inf false) = refl
  square-neg (fin true m e) = refl
  square-neg (fin false m e) = refl

  unsigned : (s : Bool) (a c : ℕ) → mul f (round f s a c) (round f s a c) ≡ mul f (round f false a c) (round f false a c)
  unsigned true a c = ap (λ z. mul f z z) (sym (neg-round f a c)) ∙ square-neg (round f false a c)
  unsigned false a c = refl

  -- p - q and q - p are of one size
  one_size : (p q : ℕ) (s : Bool) (k : ℕ) (t : Bool) (l : ℕ) → p + minus s k ≡ q + plus s k → q + minus t l ≡ p + plus t l → k ≡ l
  one_size p q true k true l e g = omega arith
  one_size p q true k false l e g = omega arith
  one_size p q false k true l e g = omega arith
  one_size p q false k false l e g = omega arith

  same_square : (p q c : ℕ) (v w : Float) → Rounds f p q c v → Rounds f q p c w → mul f v v ≡ mul f w w
  same_square p q c v w r r' =
      let to : (v : Float) (s : Bool) (k : ℕ) → v ≡ round f s k c → mul f v v ≡ mul f (round f false k c) (round f false k c) = λ v s k e. ap (λ z. mul f z z) e ∙ unsigned s k c in
      to v r.sign r.size r.is ∙ ap (λ k. mul f (round f false k c) (round f false k c)) (one_size p q r.sign r.size r'.sign r'.size r.from r'.from) ∙ sym (to w r'.sign r'.size r'.is)

  turned : (s t : Bool) (a b : ℕ) → (plus t b + plus (not s) a ≡ minus s a + minus (not t) b) × (minus t b + minus (not s) a ≡ plus s a + plus (not t) b)
  turned true true a b = omega arith
  turned true false a b = omega arith
  turned false true a b = omega arith
  turned false false a b = omega arith

  pub square_flip : (x y : Float) → mul f (sub f x y) (sub f x y) ≡ mul f (sub f y x) (sub f y x)
  unfolding mul sub add neg
  square_flip nan nan = refl
  square_flip nan (inf t) = refl
  square_flip nan (fin t n d) = refl
  square_flip (inf s) nan = refl
  square_flip (inf true) (inf true) = refl
  square_flip (inf true) (inf false) = refl
  square_flip (inf false) (inf true) = refl
  square_flip (inf false) (inf false) = refl
  square_flip (inf true) (fin t n d) = refl
  square_flip (inf false) (fin t n d) = refl
  square_flip (fin s m e) nan = refl
  square_flip (fin s m e) (inf true) = refl
  square_flip (fin s m e) (inf false) = refl
  square_flip (fin s m e) (fin t n d) =
      let a = m * up e * down d in
      let b = n * up d * down e in
      let r : Rounds f (minus s a + minus (not t) b) (plus s a + plus (not t) b) (down e * down d) (sum f t b (not s) a (down e * down d)) =
      subst₂ (λ p q. Rounds f p q (down e * down d) (sum f t b (not s) a (down e * down d))) (turned s t a b).0 (turned s t a b).1 (sum_rounds f t b (not s) a (down e * down d)) in
      rw (mul_comm (down d) (down e)) (same_square _ _ (down e * down d) _ _ (sum_rounds f s a (not t) b (down e * down d)) r)

  -- ---- a value of the format is not rounded
  -- m is a number of units, 2 ^ j times the smallest value each
  units_held : (s : Bool) (m : ℕ) (e : ℤ) (j : ℕ) → T (fits f (fin s (suc m) e)) → up e * 2 ^ low f ≡ 2 ^ j * down e → HasValue (round f s (suc m * up e) (down e)) s (suc m * up e) (down e)
  unfolding fits
  units_held s m e j p u =
      let a = eqb (suc m % 2) 1 in
      let b = ltb (suc m) (2 ^ prec f) in
      let c = leb (down e) (2 ^ low f) in
      let d = ltb (suc m * up e) (2 ^ suc (emax f) * down e) in
      let few = ltb→lt (suc m) (2 ^ prec f) (and_r a b (and_l (a && b) c (and_l (a && b && c) d p))) in
      let low_enough = ltb→lt (suc m * up e) (2 ^ suc (emax f) * down e) (and_r (a && b && c) d p) in
      let same : suc m * up e * 2 ^ low f ≡ suc m * 2 ^ j * down e = mul_assoc (suc m) (up e) (2 ^ low f) ∙ ap (λ z. suc m * z) u ∙ sym (mul_assoc (suc m) (2 ^ j) (down e)) in
      round_exact f s (suc m * up e) (down e) (suc m) j (down_pos e) few
      (rw (pow-add 2 (low f) (suc (emax f))) (lt_of_mul-lt-mul_right (down e) (omega (arith, same, mul-lt-mul_of_pos_right low_enough (pow_pos (low f)))))) same

  held : (s : Bool) (m : ℕ) (e : ℤ) → T (fits f (fin s m e)) → HasValue (round f s (m * up e) (down e)) s (m * up e) (down e)
  unfolding fits
  held s zero e p = round_exact f s (0 * up e) (down e) 0 0 (down_pos e) (pow_pos (prec f)) (pow_pos (low f + suc (emax f))) (omega arith)
  held s (suc m) (pos k) p = units_held s m (pos k) (k + low f) p (omega (arith, pow-add 2 k (low f)))
  held s (suc m) (negsuc k) p = units_held s m (negsuc k) (low f - suc k) p (omega (arith, sym (pow-add 2 (low f - suc k) (suc k)), ap (λ z. 2 ^ z) back))
    where
      reach : T (leb (2 ^ suc k) (2 ^ low f))
      reach = and_r (eqb (suc m % 2) 1 && ltb (suc m) (2 ^ prec f)) _ (and_l _ (ltb (suc m * 1) (2 ^ suc (emax f) * 2 ^ suc k)) p)

      back : low f - suc k + suc k ≡ low f
      back = omega (arith, pow_lt_back k (low f) (omega (arith, leb→le _ _ reach, pow-suc 2 k, pow_pos k)))

  level_with : (s : Bool) (m : ℕ) (e : ℤ) (v : Float) → HasValue v s (m * up e) (down e) → T (eq (fin s m e) v)
  unfolding eq
  level_with s m e nan h = absurd h
  level_with s m e (inf t) h = absurd h
  level_with true m e (fin t n d) h = rw (h.0, eq-eqb _ _ (sym h.1)) tt
  level_with false m e (fin t n d) h = rw (h.0, eq-eqb _ _ (sym h.1)) tt

  -- a value of the format that is at most (p - q) / c is at most that number rounded
  held_below : (s : Bool) (m : ℕ) (e : ℤ) (p q c : ℕ) (v : Float) → let x = fin s m e in T (fits f x) → Rounds f p q c v → 0 < c → over x * c + q * den x ≤ p * den x + under x * c → x ≤ᶠ v
  held_below s m e p q c v g r C h =
      let x = fin s m e in
      let w = round f s (m * up e) (down e) in
      le_trans x w v (le_of_eq x w (level_with s m e w (held s m e g)))
      (rounds_mono f (over x) (under x) (down e) p q c w v (record { sign = s; size = m * up e; is = refl; from = add_comm (plus s (m * up e)) (minus s (m * up e)) }) r (down_pos e) C h)

  -- what is not negative added, a value of the format becomes no less
  pub le_add_right : (x y : Float) → T (fits f x) → float_zero ≤ᶠ y → NotNan (add f x y) → x ≤ᶠ add f x y
  unfolding le add is_nan
  le_add_right nan y p h o = absurd o
  le_add_right (inf s) y p h o = subst (λ z. inf s ≤ᶠ z) (add_inf s y o) (le_refl (inf s) tt)
  le_add_right (fin s m e) nan p h o = absurd h
  le_add_right (fin s m e) (inf true) p h o = absurd h
  le_add_right (fin s m e) (inf false) p h o = subst (λ z. fin s m e ≤ᶠ z) (inf_add (fin s m e) false o) (not_above (fin s m e) tt)
  le_add_right (fin s m e) (fin t n d) p h o =
      held_below s m e _ _ _ _ p (add_rounds s m e t n d) (mul-pos (down_pos e) (down_pos d)) (omega (arith, mul-le-mul_right (down e * down e) (sizes false 0 (pos 0) t n d h)))

  pub le_add_left : (x y : Float) → float_zero ≤ᶠ x → T (fits f y) → NotNan (add f x y) → y ≤ᶠ add f x y
  unfolding le add is_nan
  le_add_left nan y h p o = absurd h
  le_add_left (inf true) y h p o = absurd h
  le_add_left (inf false) y h p o = subst (λ z. y ≤ᶠ z) (add_inf false y o) (not_above y (add_numbers (inf false) y o).1)
  le_add_left (fin s m e) nan h p o = absurd o
  le_add_left (fin s m e) (inf t) h p o = le_refl (inf t) tt
  le_add_left (fin s m e) (fin t n d) h p o =
      held_below t n d _ _ _ _ p (add_rounds s m e t n d) (mul-pos (down_pos e) (down_pos d)) (omega (arith, mul-le-mul_right (down d * down d) (sizes false 0 (pos 0) s m e h)))

-- a time in seconds
pub seconds_mono : (a b : ℤ) → a ≤ℤ b → seconds_of a ≤ᶠ seconds_of b
unfolding of_bits
seconds_mono a b h = mul_mono binary64 (of_int binary64 a) (of_int binary64 b) (of_bits binary64 0x3e11_2e0b_e826_d695) (of_int_mono binary64 a b h) tt
