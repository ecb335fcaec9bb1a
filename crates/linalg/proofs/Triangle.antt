-- At exact arithmetic M Mᵀ is factored wherever M is lower triangular with a diagonal above 0, and its factor is M.
-- Assumes nothing.
use mathlib.Core.Path.{◌≡◌, refl, sym, ap, ap₂, ◌∙◌}
use mathlib.Core.Logic.{◌⊎◌, inl, inr}
use mathlib.Core.Bool.{Bool, true, false, cond, ◌&&◌}
use mathlib.Core.List.{List}
use Prim.Native.Nat.{ℕ, zero, suc, ◌+◌, ◌-◌, ◌≤◌, ◌<◌}
use native.Mathlib.Omega.{arith}
use lib.Dec.{ltb, lit<}
use lib.ListN.{length}
use borrow.Author.Tests.{lt-ltb, ltb-true, ltb-false}
use Rattle.scalar.specs.Num.{Num, Exact}
use Rattle.scalar.proofs.Algebra.{mul-zero, add_cancel, mul-div}
use Rattle.linalg.specs.Grown.{tabulate}
use Rattle.linalg.specs.Matrix.{entry, mul, transpose}
use Rattle.linalg.specs.Cholesky.{less, cholesky, positive, lower_part, Triangular}
use Rattle.linalg.specs.Sizes.{sum}
use Rattle.linalg.proofs.Fill.{tabulated}
use Rattle.linalg.proofs.Grown.{equal_or_not}
use Rattle.linalg.proofs.Sums.{sum_ext, sum_head, less-sum}
use Rattle.linalg.proofs.Products.{prod_ext}
use Rattle.linalg.proofs.Entries.{matrix-at, matrix_ext, transpose-at}
use Rattle.linalg.proofs.Laws.{mul_at}
use Rattle.linalg.proofs.Factor.{less_ext, L, left, above, diagonal, below, six_above}

module _ (N : Num) (X : Exact N) (m : List N.F) (shape : Triangular N m) where
  open N use {F, add as ◌⊕◌, mul as ◌⊗◌, div as ◌⊘◌, root, lt, zero as nought, past}

  infixl 60 ◌⊕◌
  infixl 70 ◌⊗◌ ◌⊘◌
  abbrev M : ℕ → ℕ → F
  M i j = entry N m i j

  -- M Mᵀ
  abbrev a : List F
  a = mul N m (transpose N m)

  high : (i j : ℕ) → i < j → j < 6 → M i j ≡ nought
  unfolding lower_part
  high i j h g =
      ap (λ w. entry N w i j) (sym shape.lower) ∙ matrix-at N (λ i j. cond (ltb i j) nought (M i j)) i j (omega arith) g ∙ rw (lt-ltb i j h)

  positives : (j : ℕ) → j < 6 → lt nought (M j j) ≡ true
  positives = six_above N (λ j. M j j) shape.diagonal

  -- an entry of M Mᵀ: the products up to the diagonal of row j
  entry-sum : (i j : ℕ) → i < 6 → j < 6 → entry N a i j ≡ sum N (λ k. M j k ⊗ M i k) j ⊕ M i j ⊗ M j j
  unfolding sum
  entry-sum i j h g =
      let t : ℕ → F = λ k. M i k ⊗ M j k in
      let e : 6 ≡ suc j + (5 - j) = omega arith in
      mul_at N X m (transpose N m) i j h g
      ∙ prod_ext N X 6 M M (λ k r. entry N (transpose N m) k r) (λ k r. M r k) i j (λ k o. refl) (λ k o. transpose-at N m k j o g)
      ∙ ap (sum N t) e
      ∙ sum_head N X t (suc j) (5 - j) (λ k p q. ap (λ (x : F). M i k ⊗ x) (high j k (omega arith) (omega arith)) ∙ mul-zero N X (M i k))
      ∙ ap (λ (x : F). x ⊕ M i j ⊗ M j j) (sum_ext N X t (λ k. M j k ⊗ M i k) j (λ k p. X.field.mul_comm (M i k) (M j k)))

  -- the columns before column j are M's
  Before : ℕ → Type 0
  Before j = (k : ℕ) → k < j → (i : ℕ) → i < 6 → L N a i k ≡ M i k

  -- what is left of column j then
  left_is : (i j : ℕ) → i < 6 → j < 6 → Before j → left N a j i ≡ M i j ⊗ M j j
  unfolding Before
  left_is i j h g before =
      let u : ℕ → F = λ k. M j k in
      let v : ℕ → F = λ k. M i k in
      let s = sum N (λ k. u k ⊗ v k) j in
      let d = less N u v (entry N a i j) j in
      less_ext N (λ k. L N a j k) u (λ k. L N a i k) v (entry N a i j) j (λ k l. before k l j g) (λ k l. before k l i h)
      ∙ add_cancel N X s d (M i j ⊗ M j j) (X.field.add_comm s d ∙ less-sum N X u v (entry N a i j) j ∙ entry-sum i j h g)

  on-diagonal : (j : ℕ) → j < 6 → Before j → L N a j j ≡ M j j
  on-diagonal j g before = diagonal N a j g ∙ ap root (left_is j j g g before) ∙ X.roots.root_square (M j j) (positives j g)

  -- so column j is M's
  next : (j : ℕ) → j < 6 → Before j → (i : ℕ) → i < 6 → L N a i j ≡ M i j
  next j g before i h = go (ltb i j) refl (equal_or_not i j)
    where
      go : (b : Bool) → ltb i j ≡ b → (i ≡ j) ⊎ (i ≡ j → ⊥) → L N a i j ≡ M i j
      go true e c = let o = ltb-true i j e in above N a i j o g ∙ sym (high i j o g)
      go false e (inl q) = ap (λ i. L N a i j) q ∙ on-diagonal j g before ∙ ap (λ i. M i j) (sym q)
      go false e (inr n) =
          let o : j < i = omega (arith, ltb-false i j e, n) in
          below N a i j o h ∙ ap₂ ◌⊘◌ (left_is i j h g before) (on-diagonal j g before) ∙ mul-div N X (M i j) (M j j) (positives j g)

  -- and all are
  all : (n : ℕ) → n ≤ 6 → Before n
  unfolding Before
  all zero h k l = absurd (omega arith)
  all (suc n) h k l = go (equal_or_not k n) (all n (omega arith))
    where
      go : (k ≡ n) ⊎ (k ≡ n → ⊥) → ((k : ℕ) → k < n → (i : ℕ) → i < 6 → L N a i k ≡ M i k) → (i : ℕ) → i < 6 → L N a i k ≡ M i k
      go (inl q) before i o = ap (L N a i) q ∙ next n h before i o ∙ ap (M i) (sym q)
      go (inr f) before i o = before k (omega (arith, f)) i o

  -- each pivot is a square
  pivot-above : (j : ℕ) → j < 6 → lt nought (left N a j j) ≡ true
  pivot-above j g = ap (lt nought) (left_is j j g g (all j (omega arith))) ∙ X.above.mul_above (M j j) (M j j) (positives j g) (positives j g)

  -- so the factorisation succeeds
  pub succeeds : positive N a ≡ true
  unfolding positive
  succeeds =
      let p0 = pivot-above 0 (lit< tt) in
      let p1 = pivot-above 1 (lit< tt) in
      let p2 = pivot-above 2 (lit< tt) in
      let p3 = pivot-above 3 (lit< tt) in
      let p4 = pivot-above 4 (lit< tt) in
      let p5 = pivot-above 5 (lit< tt) in
      λ i. p0 i && (p1 i && (p2 i && (p3 i && (p4 i && p5 i))))

  -- the factor of M Mᵀ is M
  pub factor_is : cholesky N a ≡ m
  unfolding cholesky lower_part tabulate Before
  factor_is = matrix_ext N (λ i j. L N a i j) M (λ i j h g. all 6 (omega arith) j g i h) ∙ sym (tabulated m past 36 (ap length (sym shape.lower) ∙ refl))
