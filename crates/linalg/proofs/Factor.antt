-- Cholesky's factor, entry by entry. Assumes nothing.
use mathlib.Core.Path.{◌≡◌, refl, sym, ap, ap₂, ◌∙◌}
use mathlib.Core.Bool.{Bool, true, false, cond, ◌&&◌, and-eq-true_iff}
use mathlib.Core.List.{List, []}
use Prim.Native.Nat.{ℕ, zero, suc, ◌<◌}
use native.Mathlib.Omega.{arith}
use lib.ListN.{get_or}
use lib.Dec.{eqb, ltb}
use borrow.Author.Tests.{eq-eqb, ne_eqb, lt-ltb, le-ltb}
use Rattle.scalar.specs.Num.{Num}
use Rattle.linalg.specs.Grown.{grown}
use Rattle.linalg.specs.Matrix.{at, entry}
use Rattle.linalg.specs.Cholesky.{less, low, reduced, factor_column, columns, above6}
use Rattle.linalg.proofs.Fill.{six}
use Rattle.linalg.proofs.Grown.{grown-at, grown-stays}
use Rattle.linalg.proofs.Entries.{vector-at}

module _ (N : Num) where
  open N use {F, sub as ◌⊖◌, mul as ◌⊗◌, div as ◌⊘◌, root, lt, zero as nought}

  infixl 60 ◌⊖◌
  infixl 70 ◌⊗◌ ◌⊘◌
  pub less_ext : (u u' v v' : ℕ → F) (b : F) (n : ℕ) → ((k : ℕ) → k < n → u k ≡ u' k) → ((k : ℕ) → k < n → v k ≡ v' k) → less N u v b n ≡ less N u' v' b n
  unfolding less
  less_ext u u' v v' b zero g h = refl
  less_ext u u' v v' b (suc n) g h =
      let r = less_ext u u' v v' b n (λ k l. g k (omega arith)) (λ k l. h k (omega arith)) in
      let p = g n (omega arith) in
      let q = h n (omega arith) in
      λ i. r i ⊖ p i ⊗ q i

  module _ (a : List F) where
    -- the entries of the factor
    abbrev pub L : ℕ → ℕ → F
    L i j = low N (columns N a) i j

    abbrev pub left : ℕ → ℕ → F
    left j i = reduced N a (columns N a) j i

    abbrev grow : ℕ → List (List F) → List F
    grow j cs = factor_column N a cs j

    -- a column, from those before it
    column-is : (j : ℕ) → j < 6 → get_or (columns N a) j [] ≡ factor_column N a (grown grow j) j
    unfolding columns
    column-is j h = grown-at [] grow 6 j h

    before : (j i : ℕ) → j < 6 → reduced N a (grown grow j) j i ≡ left j i
    unfolding columns
    before j i h =
        less_ext (λ k. low N (grown grow j) j k) (λ k. L j k) (λ k. low N (grown grow j) i k) (λ k. L i k) (entry N a i j) j
        (λ k g. ap (λ c. at N c j) (grown-stays [] grow j 6 k g (omega arith)))
        (λ k g. ap (λ c. at N c i) (grown-stays [] grow j 6 k g (omega arith)))

    entry-is : (i j : ℕ) → i < 6 → j < 6 → L i j ≡ cond (ltb i j) nought (cond (eqb i j) (root (left j j)) (left j i ⊘ root (left j j)))
    unfolding factor_column
    entry-is i j h g =
        ap (λ c. at N c i) (column-is j g)
        ∙ vector-at N (λ i. cond (ltb i j) nought (cond (eqb i j) (root (reduced N a (grown grow j) j j)) (reduced N a (grown grow j) j i ⊘ root (reduced N a (grown grow j) j j)))) i h
        ∙ ap₂ (λ d r. cond (ltb i j) nought (cond (eqb i j) (root d) (r ⊘ root d))) (before j j g) (before j i g)

    pub above : (i j : ℕ) → i < j → j < 6 → L i j ≡ nought
    above i j h g = entry-is i j (omega arith) g ∙ rw (lt-ltb i j h)

    pub diagonal : (j : ℕ) → j < 6 → L j j ≡ root (left j j)
    diagonal j g =
        let n : ltb j j ≡ false = le-ltb j j (omega arith) in
        entry-is j j g g ∙ rw (n, eq-eqb j j refl)

    pub below : (i j : ℕ) → j < i → i < 6 → L i j ≡ left j i ⊘ L j j
    below i j h g =
        let n : ltb i j ≡ false = le-ltb i j (omega arith) in
        let y : eqb i j ≡ false = ne_eqb i j (λ q. absurd (omega arith)) in
        entry-is i j g (omega arith) ∙ rw (n, y) (ap (λ (d : F). left j i ⊘ d) (sym (diagonal j (omega arith))))

  -- each of six is above 0
  pub six_above : (d : ℕ → F) → above6 N (d 0) (d 1) (d 2) (d 3) (d 4) (d 5) ≡ true → (j : ℕ) → j < 6 → lt nought (d j) ≡ true
  six_above d all =
      let p : ℕ → Bool = λ j. lt nought (d j) in
      let after1 = ((and-eq-true_iff (p 0) (p 1 && (p 2 && (p 3 && (p 4 && p 5))))).0 all).1 in
      let after2 = ((and-eq-true_iff (p 1) (p 2 && (p 3 && (p 4 && p 5)))).0 after1).1 in
      let after3 = ((and-eq-true_iff (p 2) (p 3 && (p 4 && p 5))).0 after2).1 in
      let after4 = ((and-eq-true_iff (p 3) (p 4 && p 5)).0 after3).1 in
      six (λ j. p j ≡ true)
      ((and-eq-true_iff (p 0) (p 1 && (p 2 && (p 3 && (p 4 && p 5))))).0 all).0
      ((and-eq-true_iff (p 1) (p 2 && (p 3 && (p 4 && p 5)))).0 after1).0
      ((and-eq-true_iff (p 2) (p 3 && (p 4 && p 5))).0 after2).0
      ((and-eq-true_iff (p 3) (p 4 && p 5)).0 after3).0
      ((and-eq-true_iff (p 4) (p 5)).0 after4).0
      ((and-eq-true_iff (p 4) (p 5)).0 after4).1
