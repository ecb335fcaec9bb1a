-- Facts of tests: of a conjunction, of a disjunction, of a refusal that is 0 or 5, and of a test over all numbers below
-- a bound. Assumes nothing.
use Prim.Native.Nat.{ℕ, zero, suc, ◌+◌, ◌<◌}
use mathlib.Core.Path.{◌≡◌, refl, sym, ap, ◌∙◌}
use mathlib.Core.Bool.{Bool, true, false, ◌&&◌, ◌||◌, and-false, and-true, and_assoc}
use native.Mathlib.Numerals.{add-one}
use native.Mathlib.Omega.{arith}
use lib.Dec.{eqb}
use borrow.Author.Tests.{eqb-true, eqb-false}
use Rattle.engine.specs.Body.{all}

pub both : (a b : Bool) → a && b ≡ true → (a ≡ true) × (b ≡ true)
both true b h = (refl, h)
both false b h = absurd (let z : ◌≡◌ {A = ℕ} 0 1 = cc in omega arith)

pub neither : (a b : Bool) → (a || b) ≡ false → (a ≡ false) × (b ≡ false)
neither true b h = absurd (let z : ◌≡◌ {A = ℕ} 0 1 = cc in omega arith)
neither false b h = (refl, h)

pub never : (b : Bool) → (b ≡ true → ⊥) → false ≡ b
never true h = absurd (h refl)
never false h = refl

pub all_none : (p : ℕ → Bool) → all p 0 ≡ true
unfolding all
all_none p = refl

pub all_more : (p : ℕ → Bool) (i : ℕ) → all p i ≡ true → p i ≡ true → all p (i + 1) ≡ true
unfolding all
all_more p i h g = simp (add-one, h, g)

-- below suc n a number is n, or it is below n
module _ (p : ℕ → Bool) (i n : ℕ) (h : i < suc n) where
  fall : (t : Bool) → eqb i n ≡ t → p i ≡ false → (i < n → all p n ≡ false) → all p n && p n ≡ false
  fall true e g ih = let d = eqb-true i n e in rw (← d, g) (and-false (all p i))
  fall false e g ih = let r = ih (omega (arith, eqb-false i n e)) in rw r

  hold : (t : Bool) → eqb i n ≡ t → p n ≡ true → (i < n → p i ≡ true) → p i ≡ true
  hold true e g ih = let d = eqb-true i n e in rw d g
  hold false e g ih = ih (omega (arith, eqb-false i n e))

pub all-less : (p : ℕ → Bool) (i n : ℕ) → i < n → p i ≡ false → all p n ≡ false
unfolding all
all-less p i zero h g = absurd (omega arith)
all-less p i (suc n) h g = fall p i n h (eqb i n) refl g (λ k. all-less p i n k g)

-- what holds of all holds of each
pub all-at : (p : ℕ → Bool) (n i : ℕ) → all p n ≡ true → i < n → p i ≡ true
unfolding all
all-at p zero i h g = absurd (omega arith)
all-at p (suc n) i h g = let hs = both _ _ h in hold p i n g (eqb i n) refl hs.1 (λ l. all-at p n i hs.0 l)

-- and what holds of each holds of all
pub all_true : (p : ℕ → Bool) (n : ℕ) → ((i : ℕ) → i < n → p i ≡ true) → all p n ≡ true
unfolding all
all_true p zero h = refl
all_true p (suc n) h = let a = all_true p n (λ i g. h i (omega arith)) in let b = h n (omega arith) in rw (a, b)

-- the first, and the others
pub all_front : (p : ℕ → Bool) (n : ℕ) → all p (suc n) ≡ (p 0 && all (λ i. p (suc i)) n)
unfolding all
all_front p zero = sym (and-true (p 0))
all_front p (suc n) = ap (λ b. b && p (suc n)) (all_front p n) ∙ and_assoc (p 0) (all (λ i. p (suc i)) n) (p (suc n))
