-- Finite sums over an exact arithmetic. Assumes nothing.
use mathlib.Core.Path.{◌≡◌, refl, sym, ap, ap₂, ◌∙◌}
use mathlib.Core.Logic.{◌⊎◌, inl, inr}
use Prim.Native.Nat.{ℕ, zero, suc, ◌+◌, ◌≤◌, ◌<◌}
use native.Mathlib.Omega.{arith}
use Rattle.scalar.specs.Num.{Num, Exact}
use Rattle.scalar.proofs.Algebra.{zero-add, mul-zero}
use Rattle.linalg.specs.Matrix.{dot}
use Rattle.linalg.specs.Sizes.{sum}
use Rattle.linalg.specs.Cholesky.{less}
use Rattle.linalg.proofs.Grown.{equal_or_not}

module _ (N : Num) (X : Exact N) where
  open N use {F, add as ◌⊕◌, sub as ◌⊖◌, mul as ◌⊗◌, zero as nought}

  infixl 60 ◌⊕◌ ◌⊖◌
  infixl 70 ◌⊗◌
  -- (a + b) + (c + d) = (a + c) + (b + d)
  middle : (a b c d : F) → a ⊕ b ⊕ (c ⊕ d) ≡ a ⊕ c ⊕ (b ⊕ d)
  middle a b c d =
      X.field.add_assoc a b (c ⊕ d)
      ∙ ap (λ (x : F). a ⊕ x) (sym (X.field.add_assoc b c d) ∙ ap (λ (x : F). x ⊕ d) (X.field.add_comm b c) ∙ X.field.add_assoc c b d)
      ∙ sym (X.field.add_assoc a c (b ⊕ d))

  pub sum_ext : (f g : ℕ → F) (n : ℕ) → ((k : ℕ) → k < n → f k ≡ g k) → sum N f n ≡ sum N g n
  unfolding sum
  sum_ext f g zero h = refl
  sum_ext f g (suc n) h = ap₂ ◌⊕◌ (sum_ext f g n (λ k l. h k (omega arith))) (h n (omega arith))

  sum-add : (f g : ℕ → F) (n : ℕ) → sum N (λ k. f k ⊕ g k) n ≡ sum N f n ⊕ sum N g n
  unfolding sum
  sum-add f g zero = sym (X.field.add_zero nought)
  sum-add f g (suc n) = ap (λ (x : F). x ⊕ (f n ⊕ g n)) (sum-add f g n) ∙ middle (sum N f n) (sum N g n) (f n) (g n)

  pub sum_nought : (f : ℕ → F) (n : ℕ) → ((k : ℕ) → k < n → f k ≡ nought) → sum N f n ≡ nought
  unfolding sum
  sum_nought f zero h = refl
  sum_nought f (suc n) h = ap₂ ◌⊕◌ (sum_nought f n (λ k l. h k (omega arith))) (h n (omega arith)) ∙ X.field.add_zero nought

  pub sum-mul : (c : F) (f : ℕ → F) (n : ℕ) → c ⊗ sum N f n ≡ sum N (λ k. c ⊗ f k) n
  unfolding sum
  sum-mul c f zero = mul-zero N X c
  sum-mul c f (suc n) = X.field.mul_add c (sum N f n) (f n) ∙ ap (λ (x : F). x ⊕ c ⊗ f n) (sum-mul c f n)

  pub sum_swap : (f : ℕ → ℕ → F) (n m : ℕ) → sum N (λ i. sum N (λ j. f i j) m) n ≡ sum N (λ j. sum N (λ i. f i j) n) m
  unfolding sum
  sum_swap f zero m = sym (sum_nought (λ j. nought) m (λ k l. refl))
  sum_swap f (suc n) m = ap (λ (x : F). x ⊕ sum N (λ j. f n j) m) (sum_swap f n m) ∙ sym (sum-add (λ j. sum N (λ i. f i j) n) (λ j. f n j) m)

  -- all but one vanish
  pub sum_pick : (f : ℕ → F) (i m : ℕ) → i < m → ((k : ℕ) → k < m → (k ≡ i → ⊥) → f k ≡ nought) → sum N f m ≡ f i
  unfolding sum
  sum_pick f i zero l h = absurd (omega arith)
  sum_pick f i (suc m) l h = go (equal_or_not i m) (sum_pick f i m)
    where
      go : (i ≡ m) ⊎ (i ≡ m → ⊥) → (i < m → ((k : ℕ) → k < m → (k ≡ i → ⊥) → f k ≡ nought) → sum N f m ≡ f i) → sum N f m ⊕ f m ≡ f i
      go (inl e) r =
          ap (λ (x : F). x ⊕ f m) (sum_nought f m (λ k g. h k (omega arith) (λ q. absurd (omega arith))))
          ∙ zero-add N X (f m)
          ∙ ap f (sym e)
      go (inr g) r =
          ap₂ ◌⊕◌ (r (omega arith) (λ k o q. h k (omega arith) q)) (h m (omega arith) (λ q. g (sym q)))
          ∙ X.field.add_zero (f i)

  -- the first m, and the n after them
  pub sum_split : (f : ℕ → F) (m n : ℕ) → sum N f (m + n) ≡ sum N f m ⊕ sum N (λ k. f (m + k)) n
  unfolding sum
  sum_split f m zero = let e : m + 0 ≡ m = omega arith in ap (sum N f) e ∙ sym (X.field.add_zero (sum N f m))
  sum_split f m (suc n) =
      let e : m + suc n ≡ suc (m + n) = omega arith in
      ap (sum N f) e ∙ ap (λ (x : F). x ⊕ f (m + n)) (sum_split f m n) ∙ X.field.add_assoc (sum N f m) (sum N (λ k. f (m + k)) n) (f (m + n))

  -- only the first m count
  pub sum_head : (f : ℕ → F) (m n : ℕ) → ((k : ℕ) → m ≤ k → k < m + n → f k ≡ nought) → sum N f (m + n) ≡ sum N f m
  unfolding sum
  sum_head f m zero h = let e : m + 0 ≡ m = omega arith in ap (sum N f) e
  sum_head f m (suc n) h =
      let e : m + suc n ≡ suc (m + n) = omega arith in
      ap (sum N f) e
      ∙ ap₂ ◌⊕◌ (sum_head f m n (λ k a b. h k a (omega arith))) (h (m + n) (omega arith) (omega arith))
      ∙ X.field.add_zero (sum N f m)

  -- the first m do not count
  pub sum_tail : (f : ℕ → F) (m n : ℕ) → ((k : ℕ) → k < m → f k ≡ nought) → sum N f (m + n) ≡ sum N (λ k. f (m + k)) n
  unfolding sum
  sum_tail f m zero h = let e : m + 0 ≡ m = omega arith in ap (sum N f) e ∙ sum_nought f m h
  sum_tail f m (suc n) h =
      let e : m + suc n ≡ suc (m + n) = omega arith in
      ap (sum N f) e ∙ ap (λ (x : F). x ⊕ f (m + n)) (sum_tail f m n h)

  -- the first by itself
  pub sum-cons : (g : ℕ → F) (n : ℕ) → sum N g (suc n) ≡ g 0 ⊕ sum N (λ k. g (suc k)) n
  unfolding sum
  sum-cons g zero = X.field.add_comm nought (g 0)
  sum-cons g (suc n) = ap (λ (w : F). w ⊕ g (suc n)) (sum-cons g n) ∙ X.field.add_assoc (g 0) (sum N (λ k. g (suc k)) n) (g (suc n))

  -- what is taken away, added again
  pub less-sum : (u v : ℕ → F) (b : F) (n : ℕ) → less N u v b n ⊕ sum N (λ k. u k ⊗ v k) n ≡ b
  unfolding sum less
  less-sum u v b zero = X.field.add_zero b
  less-sum u v b (suc n) =
      let l = less N u v b n in
      let s = sum N (λ k. u k ⊗ v k) n in
      let p = u n ⊗ v n in
      ap (λ (x : F). l ⊖ p ⊕ x) (X.field.add_comm s p)
      ∙ sym (X.field.add_assoc (l ⊖ p) p s)
      ∙ ap (λ (x : F). x ⊕ s) (X.field.sub_add l p)
      ∙ less-sum u v b n

  pub dot-sum : (u v : ℕ → F) → dot N u v ≡ sum N (λ k. u k ⊗ v k) 6
  unfolding sum
  dot-sum u v =
      ap (λ (x : F). x ⊕ u 1 ⊗ v 1 ⊕ u 2 ⊗ v 2 ⊕ u 3 ⊗ v 3 ⊕ u 4 ⊗ v 4 ⊕ u 5 ⊗ v 5) (sym (zero-add N X (u 0 ⊗ v 0)))
