-- Lists made one element after the other: what stands where. Assumes nothing.
use mathlib.Core.Path.{◌≡◌, refl, sym, ap, ap₂, ◌∙◌}
use mathlib.Core.Logic.{◌⊎◌, inl, inr}
use mathlib.Core.List.{List, [], ◌∷◌, ◌++◌}
use Prim.Native.Nat.{ℕ, zero, suc, ◌-◌, ◌≤◌, ◌<◌}
use native.Mathlib.Omega.{arith}
use native.Mathlib.Nat.{le_of_suc-le-suc}
use native.Mathlib.Decide.{ℕ_discrete}
use lib.ListN.{length, get_or, length-append, get_or-append}
use lib.Seq.{get_or_at}
use Rattle.linalg.specs.Grown.{tabulate, grown, backed}

pub equal_or_not : (x y : ℕ) → (x ≡ y) ⊎ (x ≡ y → ⊥)
equal_or_not x y = elim (ℕ_discrete x y) [ yes e ↦ inl e | no f ↦ inr f ]

module _ {A : Type 0} (d : A) where
  -- a list that got x at its end, k being before it or there
  after : (l : List A) (x : A) (n k : ℕ) (y : A) → length l ≡ n → k < suc n → (k ≡ n → x ≡ y) → (k < n → get_or l k d ≡ y) → get_or (l ++ (x ∷ [])) k d ≡ y
  after l x n k y e h here before = go (equal_or_not k n)
    where
      go : (k ≡ n) ⊎ (k ≡ n → ⊥) → get_or (l ++ (x ∷ [])) k d ≡ y
      go (inl p) = get_or_at l x [] d k (e ∙ sym p) ∙ here p
      go (inr p) = let g : k < n = omega arith in get_or-append l (x ∷ []) d k (omega (arith, e)) ∙ before g

  module _ (f : ℕ → A) where
    tabulate-long : (n : ℕ) → length (tabulate f n) ≡ n
    unfolding tabulate
    tabulate-long zero = refl
    tabulate-long (suc n) = omega (arith, length-append (tabulate f n) (f n ∷ []), tabulate-long n)

    pub tabulate-at : (n k : ℕ) → k < n → get_or (tabulate f n) k d ≡ f k
    unfolding tabulate
    tabulate-at zero k h = absurd (omega arith)
    tabulate-at (suc n) k h = after (tabulate f n) (f n) n k (f k) (tabulate-long n) h (λ p. ap f (sym p)) (tabulate-at n k)

  module _ (f : ℕ → List A → A) where
    grown-long : (n : ℕ) → length (grown f n) ≡ n
    unfolding grown
    grown-long zero = refl
    grown-long (suc n) = omega (arith, length-append (grown f n) (f n (grown f n) ∷ []), grown-long n)

    pub grown-at : (n k : ℕ) → k < n → get_or (grown f n) k d ≡ f k (grown f k)
    unfolding grown
    grown-at zero k h = absurd (omega arith)
    grown-at (suc n) k h =
        after (grown f n) (f n (grown f n)) n k (f k (grown f k)) (grown-long n) h (λ p. ap (λ m. f m (grown f m)) (sym p)) (grown-at n k)

    -- what is there stays
    pub grown-stays : (m n k : ℕ) → k < m → m ≤ n → get_or (grown f m) k d ≡ get_or (grown f n) k d
    grown-stays m n k h l = grown-at m k h ∙ sym (grown-at n k (omega arith))

    pub backed-at : (n k : ℕ) → k < n → get_or (backed f n) k d ≡ f (n - suc k) (backed f (n - suc k))
    unfolding backed
    backed-at zero k h = absurd (omega arith)
    backed-at (suc n) zero h = let e : n ≡ suc n - 1 = omega arith in ap (λ m. f m (backed f m)) e
    backed-at (suc n) (suc k) h =
        let e : n - suc k ≡ suc n - suc (suc k) = omega arith in
        backed-at n k (le_of_suc-le-suc h) ∙ ap (λ m. f m (backed f m)) e

-- what has grown, and its next element
pub grows : {A : Type 0} (f : ℕ → List A → A) (n : ℕ) {l : List A} {x : A} → l ≡ grown f n → x ≡ f n l → l ++ (x ∷ []) ≡ grown f (suc n)
unfolding grown
grows {A} f n p e = ap₂ (λ (l : List A) (x : A). l ++ (x ∷ [])) p (e ∙ ap (f n) p)
