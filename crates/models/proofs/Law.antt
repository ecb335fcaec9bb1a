-- At exact arithmetic cv_f6 and cv_q6 are the motion and its noise, and both compose: over s and then over t they are
-- those over s + t. Assumes nothing.
use mathlib.Core.Path.{◌≡◌, refl, sym, ap, ap₂, ◌∙◌}
use mathlib.Core.Bool.{true}
use Prim.Native.Nat.{ℕ, ◌+◌, ◌<◌}
use Rattle.scalar.specs.Num.{Num, Exact}
use Rattle.scalar.proofs.Algebra as Algebra
use Rattle.linalg.specs.Matrix.{matrix}
use Rattle.linalg.specs.Sizes.{prod, turned, plus, blocks}
use Rattle.linalg.proofs.Products.{prod_ext}
use Rattle.linalg.proofs.Blocks.{blocks_same, blocks-turned, blocks_each, blocks_product}
use Rattle.models.specs.Motion.{motion, noise, cv_f, cv_q}

module _ (N : Num) where
  -- cv_f6 is F of three axes
  pub motion_is : (dt : N.F) → cv_f N dt ≡ matrix N (motion N 3 dt)
  unfolding cv_f
  motion_is dt = refl

module _ (N : Num) (X : Exact N) where
  open N use {F, add as ◌⊕◌, mul as ◌⊗◌, div as ◌⊘◌, lt, zero as nought, one, two, three}

  infixl 60 ◌⊕◌
  infixl 70 ◌⊗◌ ◌⊘◌
  -- cv_q6 is Q of three axes
  pub noise_is : (dt q : F) → cv_q N dt q ≡ matrix N (noise N 3 q dt)
  unfolding cv_q
  noise_is dt q = simp (Algebra.zero-add N X, X.field.mul_assoc)

  -- F P Fᵀ + Q, of blocks
  pub carried : (n : ℕ) (dt p r s a b d : F) (i j : ℕ) → i < n + n → j < n + n
      → plus N (prod N (n + n) (prod N (n + n) (motion N n dt) (blocks N n p r r s)) (turned N (motion N n dt))) (blocks N n a b b d) i j
      ≡ blocks N n (p ⊕ dt ⊗ r ⊕ (r ⊕ dt ⊗ s) ⊗ dt ⊕ a) (r ⊕ dt ⊗ s ⊕ b) (r ⊕ dt ⊗ s ⊕ b) (s ⊕ d) i j
  carried n dt p r s a b d i j h g =
      ap (λ (w : F). w ⊕ blocks N n a b b d i j)
      (prod_ext N X (n + n) (prod N (n + n) (motion N n dt) (blocks N n p r r s)) (blocks N n (p ⊕ dt ⊗ r) (r ⊕ dt ⊗ s) r s) (turned N (motion N n dt)) (blocks N n one nought dt one) i j
      (λ k l. blocks_product N X n one dt nought one p r r s i k h l ∙ blocks_same N n i k (first p r) (first r s) (second p r) (second r s))
      (λ k l. blocks-turned N n one dt nought one k j)
      ∙ blocks_product N X n (p ⊕ dt ⊗ r) (r ⊕ dt ⊗ s) r s one nought dt one i j h g)
      ∙ blocks_each N ◌⊕◌ (X.field.add_zero nought) n _ _ _ _ a b b d i j
      ∙ blocks_same N n i j
      (ap (λ (w : F). w ⊕ (r ⊕ dt ⊗ s) ⊗ dt ⊕ a) (mul-one (p ⊕ dt ⊗ r)))
      (ap (λ (w : F). w ⊕ b) (last (p ⊕ dt ⊗ r) (r ⊕ dt ⊗ s)))
      (ap₂ (λ (v w : F). v ⊕ w ⊕ b) (mul-one r) (X.field.mul_comm s dt))
      (ap (λ (w : F). w ⊕ d) (last r s))
    where
      mul-one : (x : F) → x ⊗ one ≡ x
      mul-one = Algebra.mul-one N X

      first : (x y : F) → one ⊗ x ⊕ dt ⊗ y ≡ x ⊕ dt ⊗ y
      first x y = ap (λ (w : F). w ⊕ dt ⊗ y) (X.field.one_mul x)

      second : (x y : F) → nought ⊗ x ⊕ one ⊗ y ≡ y
      second x y = ap₂ ◌⊕◌ (Algebra.zero-mul N X x) (X.field.one_mul y) ∙ Algebra.zero-add N X y

      last : (x y : F) → x ⊗ nought ⊕ y ⊗ one ≡ y
      last x y = ap₂ ◌⊕◌ (Algebra.mul-zero N X x) (mul-one y) ∙ Algebra.zero-add N X y

  -- F(s + t) = F(t) F(s)
  pub motion_composes : (n : ℕ) (s t : F) (i j : ℕ) → i < n + n → j < n + n
      → motion N n (s ⊕ t) i j ≡ prod N (n + n) (motion N n t) (motion N n s) i j
  motion_composes n s t i j h g =
      blocks_same N n i j
      (sym (ap₂ ◌⊕◌ (X.field.one_mul one) (Algebra.mul-zero N X t) ∙ X.field.add_zero one))
      (sym (ap₂ ◌⊕◌ (X.field.one_mul s) (Algebra.mul-one N X t)))
      (sym (ap₂ ◌⊕◌ (Algebra.zero-mul N X one) (X.field.one_mul nought) ∙ X.field.add_zero nought))
      (sym (ap₂ ◌⊕◌ (Algebra.zero-mul N X s) (X.field.one_mul one) ∙ Algebra.zero-add N X one))
      ∙ sym (blocks_product N X n one t nought one one s nought one i j h g)

  -- the square of a sum, and its cube
  square : (q s t b b' : F) → b ⊗ two ≡ q ⊗ (s ⊗ s) → b' ⊗ two ≡ q ⊗ (t ⊗ t) → (b ⊕ t ⊗ (q ⊗ s) ⊕ b') ⊗ two ≡ q ⊗ ((s ⊕ t) ⊗ (s ⊕ t))
  square q s t b b' e f =
      simp (Algebra.add-mul N X)
      (ap₂ (λ (v w : F). v ⊕ t ⊗ (q ⊗ s) ⊗ two ⊕ w) e f
      ∙ ap (λ (w : F). q ⊗ (s ⊗ s) ⊕ t ⊗ (q ⊗ s) ⊗ w ⊕ q ⊗ (t ⊗ t)) X.field.two_is
      ∙ simp (X.field.mul_add, X.field.mul_assoc, X.field.mul_comm, Algebra.mul_left N X, X.field.add_assoc, Algebra.mul-one N X))

  cube : (q s t a b a' : F) → a ⊗ three ≡ q ⊗ (s ⊗ (s ⊗ s)) → b ⊗ two ≡ q ⊗ (s ⊗ s) → a' ⊗ three ≡ q ⊗ (t ⊗ (t ⊗ t))
      → (a ⊕ t ⊗ b ⊕ (b ⊕ t ⊗ (q ⊗ s)) ⊗ t ⊕ a') ⊗ three ≡ q ⊗ ((s ⊕ t) ⊗ ((s ⊕ t) ⊗ (s ⊕ t)))
  cube q s t a b a' e f g =
      let m : (a ⊕ t ⊗ b ⊕ (b ⊕ t ⊗ (q ⊗ s)) ⊗ t ⊕ a') ⊗ three ≡ a ⊗ three ⊕ (t ⊗ (b ⊗ (one ⊕ one)) ⊕ t ⊗ (q ⊗ s) ⊗ t) ⊗ three ⊕ a' ⊗ three =
      simp (X.field.mul_add, Algebra.add-mul N X, X.field.mul_assoc, X.field.mul_comm, Algebra.mul_left N X, X.field.add_assoc, X.field.add_comm, Algebra.add_left N X, Algebra.mul-one N X) in
      m
      ∙ ap (λ (w : F). a ⊗ three ⊕ (t ⊗ (b ⊗ w) ⊕ t ⊗ (q ⊗ s) ⊗ t) ⊗ three ⊕ a' ⊗ three) (sym X.field.two_is)
      ∙ (λ i. e i ⊕ (t ⊗ f i ⊕ t ⊗ (q ⊗ s) ⊗ t) ⊗ three-ones i ⊕ g i)
      ∙ simp (X.field.mul_add, Algebra.add-mul N X, X.field.mul_assoc, X.field.mul_comm, Algebra.mul_left N X, X.field.add_assoc, Algebra.add_left N X, Algebra.mul-one N X)
    where
      three-ones : three ≡ one ⊕ one ⊕ one
      three-ones = X.field.three_is ∙ ap (λ (w : F). w ⊕ one) X.field.two_is

  -- Q(s + t) = F(t) Q(s) F(t)ᵀ + Q(t)
  pub noise_composes : (n : ℕ) (q s t : F) (i j : ℕ) → i < n + n → j < n + n
      → noise N n q (s ⊕ t) i j
      ≡ plus N (prod N (n + n) (prod N (n + n) (motion N n t) (noise N n q s)) (turned N (motion N n t))) (noise N n q t) i j
  noise_composes n q s t i j h g =
      let b = quotient (q ⊗ ((s ⊕ t) ⊗ (s ⊕ t))) two X.above.two_above (square q s t (q ⊗ (s ⊗ s) ⊘ two) (q ⊗ (t ⊗ t) ⊘ two) (half s) (half t)) in
      blocks_same N n i j
      (quotient (q ⊗ ((s ⊕ t) ⊗ ((s ⊕ t) ⊗ (s ⊕ t)))) three X.above.three_above
      (cube q s t (q ⊗ (s ⊗ (s ⊗ s)) ⊘ three) (q ⊗ (s ⊗ s) ⊘ two) (q ⊗ (t ⊗ (t ⊗ t)) ⊘ three) (third s) (half s) (third t)))
      b
      b
      (X.field.mul_add q s t)
      ∙ sym (carried n t (q ⊗ (s ⊗ (s ⊗ s)) ⊘ three) (q ⊗ (s ⊗ s) ⊘ two) (q ⊗ s) (q ⊗ (t ⊗ (t ⊗ t)) ⊘ three) (q ⊗ (t ⊗ t) ⊘ two) (q ⊗ t) i j h g)
    where
      quotient : (x y : F) → lt nought y ≡ true → {d : F} → d ⊗ y ≡ x → x ⊘ y ≡ d
      quotient x y p {d} e = ap (λ (w : F). w ⊘ y) (sym e) ∙ Algebra.mul-div N X d y p

      half : (x : F) → q ⊗ (x ⊗ x) ⊘ two ⊗ two ≡ q ⊗ (x ⊗ x)
      half x = Algebra.div_mul N X (q ⊗ (x ⊗ x)) two X.above.two_above

      third : (x : F) → q ⊗ (x ⊗ (x ⊗ x)) ⊘ three ⊗ three ≡ q ⊗ (x ⊗ (x ⊗ x))
      third x = Algebra.div_mul N X (q ⊗ (x ⊗ (x ⊗ x))) three X.above.three_above
