-- Four blocks that are multiples of the unit matrix: their entries, sums, products and transposes at exact arithmetic.
-- Assumes nothing.
use mathlib.Core.Path.{◌≡◌, refl, sym, ap, ap₂, ◌∙◌}
use mathlib.Core.Bool.{Bool, true, false, cond}
use Prim.Native.Nat.{ℕ, ◌+◌, ◌-◌, ◌<◌}
use native.Mathlib.Omega.{arith}
use lib.Dec.{ltb}
use borrow.Author.Tests.{ltb-true, ltb-false, lt-ltb, le-ltb}
use Rattle.scalar.specs.Num.{Num, Exact}
use Rattle.scalar.proofs.Algebra.{mul-zero}
use Rattle.linalg.specs.Sizes.{sum, image, prod, stacked, diagonal, blocks}
use Rattle.linalg.proofs.Sums.{sum_ext, sum_split}
use Rattle.linalg.proofs.Diagonal.{diagonal_flip, diagonal_each, picked}

-- an index below n + n is below n, or lies n above one that is
pub by_halves : (n : ℕ) (P : ℕ → Type 0) → ((k : ℕ) → k < n → P k) → ((k : ℕ) → k < n → P (n + k)) → (i : ℕ) → i < n + n → P i
by_halves n P f g i h = go (ltb i n) refl
  where
    go : (b : Bool) → ltb i n ≡ b → P i
    go true e = f i (ltb-true i n e)
    go false e =
        let l = ltb-false i n e in
        let q : n + (i - n) ≡ i = omega arith in
        rw q at (g (i - n) (omega arith))

-- at any arithmetic
module _ (N : Num) where
  open N use {F, zero as nought}

  -- n numbers, and those after them
  module _ (n : ℕ) (u v : ℕ → F) (i : ℕ) where
    pub stacked-first : i < n → stacked N n u v i ≡ u i
    stacked-first h = rw (lt-ltb i n h)

    pub stacked_then : stacked N n u v (n + i) ≡ v i
    stacked_then = let e : n + i - n ≡ i = omega arith in rw (le-ltb (n + i) n (omega arith), e)

  -- entries, block by block
  module _ (n : ℕ) (a b c d : F) (i j : ℕ) where
    below : ltb (n + j) n ≡ false
    below = le-ltb (n + j) n (omega arith)

    back : (k : ℕ) → n + k - n ≡ k
    back k = omega arith

    pub above_left : i < n → j < n → blocks N n a b c d i j ≡ diagonal N a i j
    above_left h g = rw (lt-ltb i n h, lt-ltb j n g)

    pub above_right : i < n → blocks N n a b c d i (n + j) ≡ diagonal N b i j
    above_right h = rw (lt-ltb i n h, below, back j)

    pub below_left : j < n → blocks N n a b c d (n + i) j ≡ diagonal N c i j
    below_left g = rw (le-ltb (n + i) n (omega arith), lt-ltb j n g, back i)

    pub below_right : blocks N n a b c d (n + i) (n + j) ≡ diagonal N d i j
    below_right = rw (le-ltb (n + i) n (omega arith), below, back i, back j)

  -- a matrix is of blocks if it is in each of the four
  pub by_blocks : (n : ℕ) (a b c d : F) (m : ℕ → ℕ → F)
      → ((i j : ℕ) → i < n → j < n → m i j ≡ diagonal N a i j)
      → ((i j : ℕ) → i < n → j < n → m i (n + j) ≡ diagonal N b i j)
      → ((i j : ℕ) → i < n → j < n → m (n + i) j ≡ diagonal N c i j)
      → ((i j : ℕ) → i < n → j < n → m (n + i) (n + j) ≡ diagonal N d i j)
      → (i j : ℕ) → i < n + n → j < n + n → m i j ≡ blocks N n a b c d i j
  by_blocks n a b c d m p q r s i j h g =
      by_halves n (λ i. m i j ≡ blocks N n a b c d i j)
      (λ i h. by_halves n (λ j. m i j ≡ blocks N n a b c d i j)
      (λ j g. p i j h g ∙ sym (above_left n a b c d i j h g))
      (λ j g. q i j h g ∙ sym (above_right n a b c d i j h)) j g)
      (λ i h. by_halves n (λ j. m (n + i) j ≡ blocks N n a b c d (n + i) j)
      (λ j g. r i j h g ∙ sym (below_left n a b c d i j g))
      (λ j g. s i j h g ∙ sym (below_right n a b c d i j)) j g)
      i h

  pub blocks_same : (n : ℕ) {a b c d a' b' c' d' : F} (i j : ℕ) → a ≡ a' → b ≡ b' → c ≡ c' → d ≡ d' → blocks N n a b c d i j ≡ blocks N n a' b' c' d' i j
  blocks_same n i j p q r s = λ k. blocks N n (p k) (q k) (r k) (s k) i j

  -- the transpose
  pub blocks-turned : (n : ℕ) (a b c d : F) (i j : ℕ) → blocks N n a b c d j i ≡ blocks N n a c b d i j
  blocks-turned n a b c d i j = go (ltb i n) (ltb j n)
    where
      go : (p q : Bool) →
          cond q (cond p (diagonal N a j i) (diagonal N b j (i - n))) (cond p (diagonal N c (j - n) i) (diagonal N d (j - n) (i - n)))
          ≡ cond p (cond q (diagonal N a i j) (diagonal N c i (j - n))) (cond q (diagonal N b (i - n) j) (diagonal N d (i - n) (j - n)))
      go true true = diagonal_flip N a j i
      go true false = diagonal_flip N c (j - n) i
      go false true = diagonal_flip N b j (i - n)
      go false false = diagonal_flip N d (j - n) (i - n)

  -- entry by entry, by an operation that gives 0 for 0 and 0
  module _ (f : F → F → F) (e : f nought nought ≡ nought) where
    pub blocks_each : (n : ℕ) (a b c d a' b' c' d' : F) (i j : ℕ)
        → f (blocks N n a b c d i j) (blocks N n a' b' c' d' i j) ≡ blocks N n (f a a') (f b b') (f c c') (f d d') i j
    blocks_each n a b c d a' b' c' d' i j = go (ltb i n) (ltb j n)
      where
        k : ℕ
        k = i - n

        l : ℕ
        l = j - n

        go : (p q : Bool) →
            f (cond p (cond q (diagonal N a i j) (diagonal N b i l)) (cond q (diagonal N c k j) (diagonal N d k l)))
            (cond p (cond q (diagonal N a' i j) (diagonal N b' i l)) (cond q (diagonal N c' k j) (diagonal N d' k l)))
            ≡ cond p (cond q (diagonal N (f a a') i j) (diagonal N (f b b') i l)) (cond q (diagonal N (f c c') k j) (diagonal N (f d d') k l))
        go true true = diagonal_each N f e a a' i j
        go true false = diagonal_each N f e b b' i l
        go false true = diagonal_each N f e c c' k j
        go false false = diagonal_each N f e d d' k l

module _ (N : Num) (X : Exact N) where
  open N use {F, add as ◌⊕◌, mul as ◌⊗◌, zero as nought}

  infixl 60 ◌⊕◌
  infixl 70 ◌⊗◌
  -- a row that has a in one block and b in the next
  module _ (n i : ℕ) (h : i < n) (a b : F) (row v : ℕ → F) (first : (k : ℕ) → k < n → row k ≡ diagonal N a i k) (then : (k : ℕ) → k < n → row (n + k) ≡ diagonal N b i k) where
    pub row-image : sum N (λ k. row k ⊗ v k) (n + n) ≡ a ⊗ v i ⊕ b ⊗ v (n + i)
    row-image =
        sum_split N X (λ k. row k ⊗ v k) n n
        ∙ ap₂ ◌⊕◌
        (sum_ext N X (λ k. row k ⊗ v k) (λ k. diagonal N a i k ⊗ v k) n (λ k g. ap (λ (w : F). w ⊗ v k) (first k g)) ∙ picked N X a v n i h)
        (sum_ext N X (λ k. row (n + k) ⊗ v (n + k)) (λ k. diagonal N b i k ⊗ v (n + k)) n (λ k g. ap (λ (w : F). w ⊗ v (n + k)) (then k g))
        ∙ picked N X b (λ k. v (n + k)) n i h)

  -- what blocks make of a vector
  module _ (n : ℕ) (a b c d : F) (v : ℕ → F) (i : ℕ) (h : i < n) where
    pub image_above : image N (n + n) (blocks N n a b c d) v i ≡ a ⊗ v i ⊕ b ⊗ v (n + i)
    image_above = row-image n i h a b (blocks N n a b c d i) v (λ k g. above_left N n a b c d i k h g) (λ k g. above_right N n a b c d i k h)

    pub image_below : image N (n + n) (blocks N n a b c d) v (n + i) ≡ c ⊗ v i ⊕ d ⊗ v (n + i)
    image_below = row-image n i h c d (blocks N n a b c d (n + i)) v (λ k g. below_left N n a b c d i k g) (λ k g. below_right N n a b c d i k)

  combined : (x y a b : F) (i j : ℕ) → x ⊗ diagonal N a i j ⊕ y ⊗ diagonal N b i j ≡ diagonal N (x ⊗ a ⊕ y ⊗ b) i j
  combined x y = diagonal_each N (λ (v w : F). x ⊗ v ⊕ y ⊗ w) (ap₂ ◌⊕◌ (mul-zero N X x) (mul-zero N X y) ∙ X.field.add_zero nought)

  -- the product of blocks
  pub blocks_product : (n : ℕ) (a b c d a' b' c' d' : F) (i j : ℕ) → i < n + n → j < n + n
      → prod N (n + n) (blocks N n a b c d) (blocks N n a' b' c' d') i j
      ≡ blocks N n (a ⊗ a' ⊕ b ⊗ c') (a ⊗ b' ⊕ b ⊗ d') (c ⊗ a' ⊕ d ⊗ c') (c ⊗ b' ⊕ d ⊗ d') i j
  blocks_product n a b c d a' b' c' d' =
      by_blocks N n (a ⊗ a' ⊕ b ⊗ c') (a ⊗ b' ⊕ b ⊗ d') (c ⊗ a' ⊕ d ⊗ c') (c ⊗ b' ⊕ d ⊗ d') (prod N (n + n) (blocks N n a b c d) B)
      (λ i j h g. image_above n a b c d (λ k. B k j) i h ∙ left a b i j h g)
      (λ i j h g. image_above n a b c d (λ k. B k (n + j)) i h ∙ right a b i j h)
      (λ i j h g. image_below n a b c d (λ k. B k j) i h ∙ left c d i j h g)
      (λ i j h g. image_below n a b c d (λ k. B k (n + j)) i h ∙ right c d i j h)
    where
      B : ℕ → ℕ → F
      B = blocks N n a' b' c' d'

      left : (x y : F) (i j : ℕ) → i < n → j < n → x ⊗ B i j ⊕ y ⊗ B (n + i) j ≡ diagonal N (x ⊗ a' ⊕ y ⊗ c') i j
      left x y i j h g = ap₂ (λ v w. x ⊗ v ⊕ y ⊗ w) (above_left N n a' b' c' d' i j h g) (below_left N n a' b' c' d' i j g) ∙ combined x y a' c' i j

      right : (x y : F) (i j : ℕ) → i < n → x ⊗ B i (n + j) ⊕ y ⊗ B (n + i) (n + j) ≡ diagonal N (x ⊗ b' ⊕ y ⊗ d') i j
      right x y i j h = ap₂ (λ v w. x ⊗ v ⊕ y ⊗ w) (above_right N n a' b' c' d' i j h) (below_right N n a' b' c' d' i j) ∙ combined x y b' d' i j
