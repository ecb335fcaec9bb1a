-- At exact arithmetic, the factor of a symmetric matrix whose pivots are above 0 is its factor, L Lᵀ = A, and what the
-- two substitutions make of it is its inverse. Assumes nothing.
use mathlib.Core.Path.{◌≡◌, refl, sym, ap, ap₂, ◌∙◌}
use mathlib.Core.Logic.{◌⊎◌, inl, inr}
use mathlib.Core.Bool.{Bool, true, false}
use mathlib.Core.List.{List}
use Prim.Native.Nat.{ℕ, suc, ◌+◌, ◌-◌, ◌≤◌, ◌<◌}
use native.Mathlib.Omega.{arith}
use lib.Dec.{leb}
use borrow.Author.Tests.{leb-true, leb-false}
use Rattle.scalar.specs.Num.{Num, Exact}
use Rattle.scalar.proofs.Algebra.{mul-zero, zero-mul, div_mul}
use Rattle.linalg.specs.Grown.{grown, backed}
use Rattle.linalg.specs.Matrix.{at, entry, unit, identity, mul, transpose}
use Rattle.linalg.specs.Cholesky.{less, cholesky, positive, forward, backward, inverse}
use Rattle.linalg.specs.Sizes.{sum, prod}
use Rattle.linalg.proofs.Grown.{equal_or_not, grown-at, grown-stays, backed-at}
use Rattle.linalg.proofs.Sums.{sum_ext, sum_head, sum_tail, sum-cons, less-sum}
use Rattle.linalg.proofs.Products.{prod_ext, prod_flip, right-inverse, left-inverse}
use Rattle.linalg.proofs.Entries.{matrix-at, transpose-at}
use Rattle.linalg.proofs.Laws.{product}
use Rattle.linalg.proofs.Factor.{less_ext, L, left, above, diagonal, below, six_above}

module _ (N : Num) (X : Exact N) (a : List N.F) (good : positive N a ≡ true) where
  open N use {F, add as ◌⊕◌, mul as ◌⊗◌, div as ◌⊘◌, lt, zero as nought, past}

  infixl 60 ◌⊕◌
  infixl 70 ◌⊗◌ ◌⊘◌
  -- each pivot is above 0
  pivots : (j : ℕ) → j < 6 → lt nought (left N a j j) ≡ true
  unfolding positive
  pivots = six_above N (λ j. left N a j j) good

  divisor : (j : ℕ) → j < 6 → lt nought (L N a j j) ≡ true
  divisor j h = ap (lt nought) (diagonal N a j h) ∙ X.roots.root_above (left N a j j) (pivots j h)

  -- L(i,j) · L(j,j) is what is left of column j
  scaled : (i j : ℕ) → j ≤ i → i < 6 → L N a i j ⊗ L N a j j ≡ left N a j i
  scaled i j h g = go (equal_or_not j i)
    where
      go : (j ≡ i) ⊎ (j ≡ i → ⊥) → L N a i j ⊗ L N a j j ≡ left N a j i
      go (inl e) =
          ap (λ m. L N a m j ⊗ L N a j j) (sym e)
          ∙ ap₂ ◌⊗◌ (diagonal N a j (omega arith)) (diagonal N a j (omega arith))
          ∙ X.roots.root_mul (left N a j j) (pivots j (omega arith))
          ∙ ap (left N a j) e
      go (inr o) =
          ap (λ (x : F). x ⊗ L N a j j) (below N a i j (omega arith) g)
          ∙ div_mul N X (left N a j i) (L N a j j) (divisor j (omega arith))

  -- L Lᵀ on and below the diagonal
  lower : (i j : ℕ) → j ≤ i → i < 6 → prod N 6 (L N a) (λ k m. L N a m k) i j ≡ entry N a i j
  unfolding sum
  lower i j h g =
      let t : ℕ → F = λ k. L N a i k ⊗ L N a j k in
      let e : 6 ≡ suc j + (5 - j) = omega arith in
      ap (sum N t) e
      ∙ sum_head N X t (suc j) (5 - j) (λ k p q. ap (λ (x : F). L N a i k ⊗ x) (above N a j k (omega arith) (omega arith)) ∙ mul-zero N X (L N a i k))
      ∙ ap₂ ◌⊕◌ (sum_ext N X t (λ k. L N a j k ⊗ L N a i k) j (λ k p. X.field.mul_comm (L N a i k) (L N a j k))) (scaled i j h g)
      ∙ X.field.add_comm (sum N (λ k. L N a j k ⊗ L N a i k) j) (left N a j i)
      ∙ less-sum N X (λ k. L N a j k) (λ k. L N a i k) (entry N a i j) j

  -- the factor as a matrix
  l : List F
  l = cholesky N a

  E : ℕ → ℕ → F
  E i j = entry N l i j

  E-is : (i j : ℕ) → i < 6 → j < 6 → E i j ≡ L N a i j
  unfolding E l cholesky
  E-is = matrix-at N (λ i j. L N a i j)

  zero-above : (i j : ℕ) → i < j → j < 6 → E i j ≡ nought
  zero-above i j h g = E-is i j (omega arith) g ∙ above N a i j h g

  divides : (i : ℕ) → i < 6 → lt nought (E i i) ≡ true
  divides i h = ap (lt nought) (E-is i i h h) ∙ divisor i h

  -- forward: L y is the unit column c
  ahead : ℕ → ℕ → List F → F
  ahead c i y = less N (λ k. E i k) (λ k. at N y k) (unit N i c) i ⊘ E i i

  Y : ℕ → ℕ → F
  Y i c = at N (forward N l c) i

  forth : (i c : ℕ) → i < 6 → c < 6 → prod N 6 E Y i c ≡ unit N i c
  unfolding sum E Y ahead forward
  forth i c h g =
      let y : ℕ → F = λ k. Y k c in
      let b = unit N i c in
      let t : ℕ → F = λ k. E i k ⊗ y k in
      let r = less N (λ k. E i k) y b i in
      let e : 6 ≡ suc i + (5 - i) = omega arith in
      let s : less N (λ k. E i k) (λ k. at N (grown (ahead c) i) k) b i ≡ r =
      less_ext N (λ k. E i k) (λ k. E i k) (λ k. at N (grown (ahead c) i) k) y b i (λ k p. refl) (λ k p. grown-stays past (ahead c) i 6 k p (omega arith)) in
      let w : y i ≡ r ⊘ E i i = grown-at past (ahead c) 6 i h ∙ ap (λ (x : F). x ⊘ E i i) s in
      let m : E i i ⊗ y i ≡ r = X.field.mul_comm (E i i) (y i) ∙ ap (λ (x : F). x ⊗ E i i) w ∙ div_mul N X r (E i i) (divides i h) in
      ap (sum N t) e
      ∙ sum_head N X t (suc i) (5 - i) (λ k p q. ap (λ (x : F). x ⊗ y k) (zero-above i k (omega arith) (omega arith)) ∙ zero-mul N X (y k))
      ∙ ap (λ (x : F). sum N t i ⊕ x) m
      ∙ X.field.add_comm (sum N t i) r
      ∙ less-sum N X (λ k. E i k) y b i

  -- backward: Lᵀ z is y
  behind : List F → ℕ → List F → F
  behind y n x = let i = 5 - n in less N (λ k. E (i + 1 + k) i) (λ k. at N x k) (at N y i) n ⊘ E i i

  -- what is known of index i on, in the whole
  rest : (y : List F) (i k : ℕ) → i < 6 → k < 5 - i → at N (backed (behind y) (5 - i)) k ≡ at N (backed (behind y) 6) (i + suc k)
  rest y i k h g =
      let e : 5 - i - suc k ≡ 6 - suc (i + suc k) = omega arith in
      backed-at past (behind y) (5 - i) k g
      ∙ ap (λ m. behind y m (backed (behind y) m)) e
      ∙ sym (backed-at past (behind y) 6 (i + suc k) (omega arith))

  solved : (y : List F) (i : ℕ) → i < 6 → sum N (λ k. E k i ⊗ at N (backward N l y) k) 6 ≡ at N y i
  unfolding E behind backward
  solved y i h =
      let x : ℕ → F = λ k. at N (backed (behind y) 6) k in
      let t : ℕ → F = λ k. E k i ⊗ x k in
      let u : ℕ → F = λ k. E (i + suc k) i in
      let v : ℕ → F = λ k. x (i + suc k) in
      let n = 5 - i in
      let r = less N u v (at N y i) n in
      let e : 6 ≡ i + suc n = omega arith in
      let o : i + 0 ≡ i = omega arith in
      let j : 5 - n ≡ i = omega arith in
      let q : 6 - suc i ≡ n = omega arith in
      let d : behind y n (backed (behind y) n) ≡ r ⊘ E i i =
      (λ m. less N (λ k. E (j m + 1 + k) (j m)) (λ k. at N (backed (behind y) n) k) (at N y (j m)) n ⊘ E (j m) (j m))
      ∙ ap (λ (w : F). w ⊘ E i i)
      (less_ext N (λ k. E (i + 1 + k) i) u (λ k. at N (backed (behind y) n) k) v (at N y i) n
      (λ k g. let p : i + 1 + k ≡ i + suc k = omega arith in ap (λ m. E m i) p)
      (λ k g. rest y i k h g)) in
      let b : x i ≡ r ⊘ E i i = backed-at past (behind y) 6 i h ∙ ap (λ m. behind y m (backed (behind y) m)) q ∙ d in
      let m : E i i ⊗ x i ≡ r = X.field.mul_comm (E i i) (x i) ∙ ap (λ (w : F). w ⊗ E i i) b ∙ div_mul N X r (E i i) (divides i h) in
      ap (sum N t) e
      ∙ sum_tail N X t i (suc n) (λ k p. ap (λ (w : F). w ⊗ x k) (zero-above k i p h) ∙ zero-mul N X (x k))
      ∙ sum-cons N X (λ k. t (i + k)) n
      ∙ ap (λ (w : F). w ⊕ sum N (λ k. u k ⊗ v k) n) (ap t o ∙ m)
      ∙ less-sum N X u v (at N y i) n

  Z : ℕ → ℕ → F
  Z i c = at N (backward N l (forward N l c)) i

  back : (i c : ℕ) → i < 6 → c < 6 → prod N 6 (λ k m. E m k) Z i c ≡ Y i c
  unfolding Y Z
  back i c h g = solved (forward N l c) i h

  module _ (same : transpose N a ≡ a) where
    mirrored : (i j : ℕ) → i < 6 → j < 6 → entry N a i j ≡ entry N a j i
    mirrored i j h g = ap (λ m. entry N m i j) (sym same) ∙ transpose-at N a i j h g

    factored : (i j : ℕ) → i < 6 → j < 6 → prod N 6 E (λ k m. E m k) i j ≡ entry N a i j
    factored i j h g =
        prod_ext N X 6 E (L N a) (λ k m. E m k) (λ k m. L N a m k) i j (λ k o. E-is i k h o) (λ k o. E-is j k g o)
        ∙ go (leb j i) refl
      where
        go : (b : Bool) → leb j i ≡ b → prod N 6 (L N a) (λ k m. L N a m k) i j ≡ entry N a i j
        go true e = lower i j (leb-true j i e) h
        go false e =
            let o : i ≤ j = omega (arith, leb-false j i e) in
            prod_flip N X 6 (L N a) (λ k m. L N a m k) j i ∙ lower j i o g ∙ mirrored j i g h

    inverts : (i j : ℕ) → i < 6 → j < 6 → prod N 6 (λ i j. entry N a i j) Z i j ≡ unit N i j
    inverts = right-inverse N X 6 (λ i j. entry N a i j) E Y Z factored forth back

    Z-is : (i c : ℕ) → i < 6 → c < 6 → entry N (inverse N l) i c ≡ Z i c
    unfolding Z inverse
    Z-is = matrix-at N (λ i c. at N (backward N l (forward N l c)) i)

    -- L Lᵀ = A
    pub factor_law : mul N (cholesky N a) (transpose N (cholesky N a)) ≡ a
    unfolding l E transpose
    factor_law =
        product N X l (transpose N l) (λ i j. entry N a j i)
        (λ i j h g.
        prod_ext N X 6 E E (λ k m. entry N (transpose N l) k m) (λ k m. E m k) i j (λ k o. refl) (λ k o. transpose-at N l k j o g)
        ∙ factored i j h g
        ∙ mirrored i j h g)
        ∙ same

    -- A times the inverse is 1
    pub right_law : mul N a (inverse N (cholesky N a)) ≡ identity N
    unfolding l identity
    right_law =
        product N X a (inverse N l) (unit N)
        (λ i j h g.
        prod_ext N X 6 (λ i j. entry N a i j) (λ i j. entry N a i j) (λ k m. entry N (inverse N l) k m) Z i j (λ k o. refl) (λ k o. Z-is k j o g)
        ∙ inverts i j h g)

    -- and the inverse times A
    pub left_law : mul N (inverse N (cholesky N a)) a ≡ identity N
    unfolding l identity
    left_law =
        product N X (inverse N l) a (unit N)
        (λ i j h g.
        prod_ext N X 6 (λ k m. entry N (inverse N l) k m) Z (λ i j. entry N a i j) (λ i j. entry N a i j) i j (λ k o. Z-is i k h o) (λ k o. refl)
        ∙ left-inverse N X 6 (λ i j. entry N a i j) Z mirrored inverts i j h g)
