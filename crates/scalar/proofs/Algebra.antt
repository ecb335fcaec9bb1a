-- What follows from the laws of exact arithmetic. Assumes nothing.
use Rattle.std.proofs.Common.{◌≡◌, true, sym, ap, ◌∙◌, ap₂}
use Rattle.scalar.specs.Num.{Num, Exact}

module _ (N : Num) (X : Exact N) where
  open N use {F, add as ◌⊕◌, sub as ◌⊖◌, mul as ◌⊗◌, div as ◌⊘◌, lt, zero, half, one, two}

  infixl 60 ◌⊕◌ ◌⊖◌
  infixl 70 ◌⊗◌ ◌⊘◌
  pub zero-add : (a : F) → zero ⊕ a ≡ a
  zero-add a = X.field.add_comm zero a ∙ X.field.add_zero a

  pub mul-one : (a : F) → a ⊗ one ≡ a
  mul-one a = X.field.mul_comm a one ∙ X.field.one_mul a

  -- what sorts the terms of a sum, and the factors of a product
  pub add_left : (a b c : F) → a ⊕ (b ⊕ c) ≡ b ⊕ (a ⊕ c)
  add_left a b c = sym (X.field.add_assoc a b c) ∙ ap (λ (w : F). w ⊕ c) (X.field.add_comm a b) ∙ X.field.add_assoc b a c

  pub mul_left : (a b c : F) → a ⊗ (b ⊗ c) ≡ b ⊗ (a ⊗ c)
  mul_left a b c = sym (X.field.mul_assoc a b c) ∙ ap (λ (w : F). w ⊗ c) (X.field.mul_comm a b) ∙ X.field.mul_assoc b a c

  -- a + b = a + c only where b = c: 0 - a is added on the left
  pub add_cancel : (a b c : F) → a ⊕ b ≡ a ⊕ c → b ≡ c
  add_cancel a b c e = sym (undo b) ∙ ap (λ (w : F). zero ⊖ a ⊕ w) e ∙ undo c
    where
      undo : (d : F) → zero ⊖ a ⊕ (a ⊕ d) ≡ d
      undo d = sym (X.field.add_assoc (zero ⊖ a) a d) ∙ ap (λ (w : F). w ⊕ d) (X.field.sub_add zero a) ∙ zero-add d

  pub mul-zero : (a : F) → a ⊗ zero ≡ zero
  mul-zero a = add_cancel (a ⊗ zero) (a ⊗ zero) zero (sym (X.field.mul_add a zero zero) ∙ ap (λ (w : F). a ⊗ w) (X.field.add_zero zero) ∙ sym (X.field.add_zero (a ⊗ zero)))

  pub zero-mul : (a : F) → zero ⊗ a ≡ zero
  zero-mul a = X.field.mul_comm zero a ∙ mul-zero a

  pub add-mul : (a b c : F) → (a ⊕ b) ⊗ c ≡ a ⊗ c ⊕ b ⊗ c
  add-mul a b c = X.field.mul_comm (a ⊕ b) c ∙ X.field.mul_add c a b ∙ ap₂ ◌⊕◌ (X.field.mul_comm c a) (X.field.mul_comm c b)

  -- a difference is what makes up the sum
  pub sub_of : (a b d : F) → d ⊕ b ≡ a → a ⊖ b ≡ d
  sub_of a b d e = add_cancel b (a ⊖ b) d (X.field.add_comm b (a ⊖ b) ∙ X.field.sub_add a b ∙ sym e ∙ X.field.add_comm d b)

  pub sub-zero : (a : F) → a ⊖ zero ≡ a
  sub-zero a = sub_of a zero a (X.field.add_zero a)

  -- a - b = a + (0 - b)
  pub sub_is : (a b : F) → a ⊖ b ≡ a ⊕ (zero ⊖ b)
  sub_is a b = sub_of a b (a ⊕ (zero ⊖ b)) (X.field.add_assoc a (zero ⊖ b) b ∙ ap (λ (w : F). a ⊕ w) (X.field.sub_add zero b) ∙ X.field.add_zero a)

  pub sub-mul : (a b c : F) → (a ⊖ b) ⊗ c ≡ a ⊗ c ⊖ b ⊗ c
  sub-mul a b c = sym (sub_of (a ⊗ c) (b ⊗ c) ((a ⊖ b) ⊗ c) (sym (add-mul (a ⊖ b) b c) ∙ ap (λ (w : F). w ⊗ c) (X.field.sub_add a b)))

  -- half of twice a number is the number
  pub half-sum : (a : F) → half ⊗ (a ⊕ a) ≡ a
  half-sum a =
      ap (λ (w : F). half ⊗ w) (sym (ap₂ ◌⊕◌ (X.field.one_mul a) (X.field.one_mul a)) ∙ sym (add-mul one one a) ∙ ap (λ (w : F). w ⊗ a) (sym X.field.two_is))
      ∙ sym (X.field.mul_assoc half two a)
      ∙ ap (λ (w : F). w ⊗ a) X.field.half_is
      ∙ X.field.one_mul a

  -- what is above 0 divides
  pub div_mul : (a b : F) → lt zero b ≡ true → a ⊘ b ⊗ b ≡ a
  div_mul a b h = X.field.div_mul a b (X.above.not_zero b h)

  -- dividing by what is above 0 is multiplying by its inverse
  pub div_is : (a b : F) → lt zero b ≡ true → a ⊘ b ≡ a ⊗ (one ⊘ b)
  div_is a b h =
      sym (mul-one (a ⊘ b))
      ∙ ap (λ (w : F). a ⊘ b ⊗ w) (sym (div_mul one b h) ∙ X.field.mul_comm (one ⊘ b) b)
      ∙ sym (X.field.mul_assoc (a ⊘ b) b (one ⊘ b))
      ∙ ap (λ (w : F). w ⊗ (one ⊘ b)) (div_mul a b h)

  -- a product divided by what is above 0 gives the other factor
  pub mul-div : (a b : F) → lt zero b ≡ true → a ⊗ b ⊘ b ≡ a
  mul-div a b h =
      div_is (a ⊗ b) b h
      ∙ X.field.mul_assoc a b (one ⊘ b)
      ∙ ap (λ (w : F). a ⊗ w) (X.field.mul_comm b (one ⊘ b) ∙ div_mul one b h)
      ∙ mul-one a
