-- What is left for a loop over the numbers below e that pass a test. Assumes nothing.
use mathlib.Core.Path.{◌≡◌, refl, sym, ap, ◌∙◌}
use mathlib.Core.Bool.{Bool, true, false}
use mathlib.Core.List.{List, [], ◌∷◌, map, foldl}
use Prim.Native.Nat.{ℕ, zero, suc, ◌+◌, ◌-◌, ◌≤◌, ◌<◌}
use native.Mathlib.Nat.{le_refl}
use native.Mathlib.Numerals.{add-one}
use native.Mathlib.Omega.{arith}
use Rattle.fgo_spec.specs.Lists.{cons_if, keep, up_from}

-- those from g on
abbrev pub left : (ℕ → Bool) → ℕ → ℕ → List ℕ
left t e g = keep t (up_from g (e - g))

module _ (t : ℕ → Bool) (e g : ℕ) where
  pub left_yes : g < e → t g ≡ true → left t e g ≡ g ∷ left t e (g + 1)
  unfolding keep up_from
  left_yes h p = let q : e - g ≡ suc (e - (g + 1)) = omega arith in rw (q, p, add-one)

  pub left_no : g < e → t g ≡ false → left t e g ≡ left t e (g + 1)
  unfolding keep up_from
  left_no h p = let q : e - g ≡ suc (e - (g + 1)) = omega arith in rw (q, p, add-one)

  pub left_none : e ≤ g → left t e g ≡ []
  unfolding keep up_from
  left_none h = let q : e - g ≡ 0 = omega arith in rw q

-- none passes from g on
keep_none : (t : ℕ → Bool) (g n : ℕ) → ((j : ℕ) → g ≤ j → t j ≡ false) → keep t (up_from g n) ≡ []
unfolding keep up_from
keep_none t g zero h = refl
keep_none t g (suc n) h = rw (h g (le_refl g)) (keep_none t (suc g) n (λ j l. h j (omega arith)))

pub left_over : (t : ℕ → Bool) (e g : ℕ) → ((j : ℕ) → g ≤ j → t j ≡ false) → left t e g ≡ []
left_over t e g h = keep_none t g (e - g) h

-- two functions that agree on the numbers that pass
pub kept_map : {M : Type 0} (t : ℕ → Bool) (f g : ℕ → M) (n m : ℕ) → ((k : ℕ) → t k ≡ true → f k ≡ g k) → map f (keep t (up_from n m)) ≡ map g (keep t (up_from n m))
unfolding keep up_from
kept_map t f g n zero h = refl
kept_map {M} t f g n (suc m) h = go (t n) (h n) (kept_map t f g (suc n) m h)
  where
    go : (b : Bool) → (b ≡ true → f n ≡ g n) → map f (keep t (up_from (suc n) m)) ≡ map g (keep t (up_from (suc n) m)) →
        map f (cons_if b n (keep t (up_from (suc n) m))) ≡ map g (cons_if b n (keep t (up_from (suc n) m)))
    go true e r = λ i. e refl i ∷ r i
    go false e r = r

-- none from g on is better than b
keep_idle : {M O : Type 0} (better : O → M → O) (f : ℕ → M) (t : ℕ → Bool) (b : O) (g n : ℕ) → ((j : ℕ) → g ≤ j → better b (f j) ≡ b) → foldl better b (map f (keep t (up_from g n))) ≡ b
unfolding keep up_from
keep_idle better f t b g zero h = refl
keep_idle {M} {O} better f t b g (suc n) h = go (t g) (h g (le_refl g)) (keep_idle better f t b (suc g) n (λ j l. h j (omega arith)))
  where
    go : (c : Bool) → better b (f g) ≡ b → foldl better b (map f (keep t (up_from (suc g) n))) ≡ b → foldl better b (map f (cons_if c g (keep t (up_from (suc g) n)))) ≡ b
    go true q r = ap (λ (x : O). foldl better x (map f (keep t (up_from (suc g) n)))) q ∙ r
    go false q r = r

-- the best of b and of what those left give
module _ {M O : Type 0} (better : O → M → O) (f : ℕ → M) (t : ℕ → Bool) (e : ℕ) where
  abbrev pub best_from : ℕ → O → O
  best_from g b = foldl better b (map f (left t e g))

  module _ (g : ℕ) (b : O) where
    pub best_yes : g < e → t g ≡ true → best_from (g + 1) (better b (f g)) ≡ best_from g b
    best_yes h p = sym (ap (λ (l : List ℕ). foldl better b (map f l)) (left_yes t e g h p))

    pub best_no : g < e → t g ≡ false → best_from (g + 1) b ≡ best_from g b
    best_no h p = sym (ap (λ (l : List ℕ). foldl better b (map f l)) (left_no t e g h p))

    pub best_over : ((j : ℕ) → g ≤ j → t j ≡ false) → best_from g b ≡ b
    best_over h = ap (λ (l : List ℕ). foldl better b (map f l)) (left_over t e g h)

    -- what is left is no better
    pub best_stays : ((j : ℕ) → g ≤ j → better b (f j) ≡ b) → best_from g b ≡ b
    best_stays h = keep_idle better f t b g (e - g) h
