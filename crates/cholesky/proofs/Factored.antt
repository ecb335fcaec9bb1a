-- What six roots make the columns of Cholesky's factor. Assumes nothing.
use mathlib.Core.Path.{◌≡◌, refl, sym, ap, ◌∙◌}
use mathlib.Core.Bool.{Bool}
use mathlib.Core.List.{List, [], ◌∷◌}
use Prim.Native.Nat.{ℕ}
use Rattle.scalar.specs.Num.{Num}
use Rattle.linalg.specs.Grown.{grown, tabulate}
use Rattle.linalg.specs.Matrix.{matrix}
use Rattle.linalg.specs.Cholesky.{low, reduced, divided, factor_column, columns, cholesky, above6, positive}
use Rattle.linalg.proofs.Grown.{grows}

-- columns 0, .., 5, each divided by the number on its diagonal
module _ (N : Num) (a : List N.F) (r0 r1 r2 r3 r4 r5 : N.F) where
  abbrev pub by0 : List (List N.F)
  by0 = divided N a [] 0 r0 ∷ []

  abbrev pub by1 : List (List N.F)
  by1 = divided N a [] 0 r0 ∷ divided N a by0 1 r1 ∷ []

  abbrev pub by2 : List (List N.F)
  by2 = divided N a [] 0 r0 ∷ divided N a by0 1 r1 ∷ divided N a by1 2 r2 ∷ []

  abbrev pub by3 : List (List N.F)
  by3 = divided N a [] 0 r0 ∷ divided N a by0 1 r1 ∷ divided N a by1 2 r2 ∷ divided N a by2 3 r3 ∷ []

  abbrev pub by4 : List (List N.F)
  by4 = divided N a [] 0 r0 ∷ divided N a by0 1 r1 ∷ divided N a by1 2 r2 ∷ divided N a by2 3 r3 ∷ divided N a by3 4 r4 ∷ []

  abbrev pub by5 : List (List N.F)
  by5 = divided N a [] 0 r0 ∷ divided N a by0 1 r1 ∷ divided N a by1 2 r2 ∷ divided N a by2 3 r3 ∷ divided N a by3 4 r4 ∷ divided N a by4 5 r5 ∷ []

  module _
      (e0 : r0 ≡ N.root (reduced N a [] 0 0))
      (e1 : r1 ≡ N.root (reduced N a by0 1 1))
      (e2 : r2 ≡ N.root (reduced N a by1 2 2))
      (e3 : r3 ≡ N.root (reduced N a by2 3 3))
      (e4 : r4 ≡ N.root (reduced N a by3 4 4))
      (e5 : r5 ≡ N.root (reduced N a by4 5 5)) where
    rooted : by5 ≡ columns N a
    unfolding columns factor_column grown tabulate
    rooted =
        let f : ℕ → List (List N.F) → List N.F = λ j cs. factor_column N a cs j in
        grows f 5
        (grows f 4
        (grows f 3
        (grows f 2
        (grows f 1
        (grows f 0 {l = []} refl (ap (divided N a [] 0) e0))
        (ap (divided N a by0 1) e1))
        (ap (divided N a by1 2) e2))
        (ap (divided N a by2 3) e3))
        (ap (divided N a by3 4) e4))
        (ap (divided N a by4 5) e5)

    -- the factor, and whether it counts
    pub factored : {b : Bool} → b ≡ above6 N (reduced N a by5 0 0) (reduced N a by5 1 1) (reduced N a by5 2 2) (reduced N a by5 3 3) (reduced N a by5 4 4) (reduced N a by5 5 5) → (positive N a ≡ b) × (matrix N (λ i j. low N by5 i j) ≡ cholesky N a)
    unfolding positive cholesky
    factored e = (
      sym
          (e ∙ ap (λ cs. above6 N (reduced N a cs 0 0) (reduced N a cs 1 1) (reduced N a cs 2 2) (reduced N a cs 3 3) (reduced N a cs 4 4) (reduced N a cs 5 5)) rooted),
      ap (λ cs. matrix N (λ i j. low N cs i j)) rooted,
    )
