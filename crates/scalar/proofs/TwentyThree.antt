-- The arithmetic of 23 elements is exact, each law by a test of all elements that is computed: so what the laws of
-- exact arithmetic assume holds somewhere. Assumes nothing.
use Rattle.std.proofs.Common.{◌≡◌, ℕ, zero, suc, ◌<◌, Bool, true, false, not, ◌&&◌, ◌||◌, T, eqb, ltb, sym, refl, ap, ◌∙◌, subst, true≢false, mod-eq_of_lt, arith, eqb→eq, ltb→lt}
use mathlib.Core.HLevel.{is_prop→PathP}
use native.Mathlib.Decide.{ℕ_discrete}
use lib.Dec.{T_prop}
use lib.Ieee.Fits.{and_l, and_r}
use Rattle.scalar.specs.Num.{Exact}
use Rattle.scalar.specs.TwentyThree.{Residue, residue, twenty_three}

-- ---- elements are equal by their values
by_value : (a b : Residue) → a.value ≡ b.value → a ≡ b
by_value a b e = λ i. record { value = e i; below = is_prop→PathP (λ j. T (ltb (e j) 23)) (λ j. T_prop (ltb (e j) 23)) a.below b.below i }

again : (a : Residue) → residue a.value ≡ a
again a = by_value (residue a.value) a (mod-eq_of_lt (ltb→lt a.value 23 a.below))

abbrev same : Residue → Residue → Bool
same a b = eqb a.value b.value

same_is : (a b : Residue) → T (same a b) → a ≡ b
same_is a b t = by_value a b (eqb→eq a.value b.value t)

-- ---- a test passes at the first n elements; at each
abbrev first : (Residue → Bool) → ℕ → Bool
first p zero = true
first p (suc n) = first p n && p (residue n)

abbrev each : (Residue → Bool) → Bool
each p = first p 23

first-at : (p : Residue → Bool) (n k : ℕ) → k < n → T (first p n) → T (p (residue k))
first-at p zero k h t = absurd (omega arith)
first-at p (suc n) k h t =
    elim (ℕ_discrete k n) [
      | yes e ↦ rw e (and_r (first p n) (p (residue n)) t)
      | no f ↦ first-at p n k (omega (arith, f)) (and_l (first p n) (p (residue n)) t)
    ]

one : (p : Residue → Bool) → T (each p) → (a : Residue) → T (p a)
one p t a = subst (λ (a : Residue). T (p a)) (again a) (first-at p 23 a.value (ltb→lt a.value 23 a.below) t)

two : (p : Residue → Residue → Bool) → T (each (λ a. each (p a))) → (a b : Residue) → T (p a b)
two p t a b = one (p a) (one (λ a. each (p a)) t a) b

-- ---- equations of one, two and three elements
equal : (f g : Residue → Residue) → T (each (λ a. same (f a) (g a))) → (a : Residue) → f a ≡ g a
equal f g t a = same_is (f a) (g a) (one (λ a. same (f a) (g a)) t a)

equal2 : (f g : Residue → Residue → Residue) → T (each (λ a. each (λ b. same (f a b) (g a b)))) → (a b : Residue) → f a b ≡ g a b
equal2 f g t a b = equal (f a) (g a) (one (λ a. each (λ b. same (f a b) (g a b))) t a) b

equal3 : (f g : Residue → Residue → Residue → Residue) → T (each (λ a. each (λ b. each (λ c. same (f a b c) (g a b c)))))
    → (a b c : Residue) → f a b c ≡ g a b c
equal3 f g t a b c = equal2 (f a) (g a) (one (λ a. each (λ b. each (λ c. same (f a b c) (g a b c)))) t a) b c

-- ---- where a test passes
passes : (b : Bool) → T b → b ≡ true
passes true t = refl
passes false t = absurd t

beside : (p q : Bool) → T (p || q) → (T p → ⊥) → T q
beside true q t n = absurd (n tt)
beside false q t n = t

so : (p q : Bool) → T (not p || q) → p ≡ true → T q
so true q t e = t
so false q t e = absurd (true≢false (sym e))

open twenty_three use {mul as ◌⊗◌, div as ◌⊘◌, root, lt, zero as nought}

infixl 70 ◌⊗◌ ◌⊘◌
abbrev above : Residue → Bool
above a = lt nought a

equal_above : (f g : Residue → Residue) → T (each (λ a. not (above a) || same (f a) (g a))) → (a : Residue) → above a ≡ true → f a ≡ g a
equal_above f g t a e = same_is (f a) (g a) (so (above a) (same (f a) (g a)) (one (λ a. not (above a) || same (f a) (g a)) t a) e)

divides : (a b : Residue) → (b ≡ nought → ⊥) → a ⊘ b ⊗ b ≡ a
divides a b h =
    let t = two (λ a b. same b nought || same (a ⊘ b ⊗ b) a) tt a b in
    same_is (a ⊘ b ⊗ b) a (beside (same b nought) (same (a ⊘ b ⊗ b) a) t (λ z. h (same_is b nought z)))

products : (a b : Residue) → above a ≡ true → above b ≡ true → above (a ⊗ b) ≡ true
products a b e f =
    let t = two (λ a b. not (above a) || (not (above b) || above (a ⊗ b))) tt a b in
    passes (above (a ⊗ b)) (so (above b) (above (a ⊗ b)) (so (above a) (not (above b) || above (a ⊗ b)) t e) f)

roots_above : (a : Residue) → above a ≡ true → above (root a) ≡ true
roots_above a e = passes (above (root a)) (so (above a) (above (root a)) (one (λ a. not (above a) || above (root a)) tt a) e)

pub exact : Exact twenty_three
exact =
    record {
      field =
          record {
            add_assoc = equal3 _ _ tt;
            add_comm = equal2 _ _ tt;
            add_zero = equal _ _ tt;
            sub_add = equal2 _ _ tt;
            mul_assoc = equal3 _ _ tt;
            mul_comm = equal2 _ _ tt;
            one_mul = equal _ _ tt;
            mul_add = equal3 _ _ tt;
            div_mul = divides;
            two_is = refl;
            three_is = refl;
            half_is = refl;
          };
      above =
          record {
            not_zero = λ a e z. true≢false (sym e ∙ ap above z);
            mul_above = products;
            two_above = refl;
            three_above = refl;
          };
      roots =
          record {
            root_mul = equal_above _ _ tt;
            root_above = roots_above;
            root_square = equal_above _ _ tt;
          };
    }
