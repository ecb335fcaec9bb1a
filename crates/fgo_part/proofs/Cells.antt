-- The cells of a list, in order from its front. Assumes nothing.
use Prim.Native.Nat.{ℕ, zero, suc, ◌+◌, ◌≤◌, ◌<◌}
use native.Mathlib.Nat.{zero-add}
use native.Mathlib.Numerals.{add-one}
use native.Mathlib.Omega.{arith}
use mathlib.Core.Path.{◌≡◌, refl, sym, ap, ◌∙◌}
use mathlib.Core.List.{List, [], ◌∷◌, ◌++◌}
use lib.ListN.{length, take, drop, get_or, set, length-append, length-set}
use lib.Seq.{take-suc, take-suc-set, take_at, take_all}
use Rattle.engine.specs.Body.{rows}
use Rattle.buffers.specs.Buffers.{over}
use Rattle.fgo_part.specs.Parts.{cells}
use Rattle.fgo_spec.proofs.Rows.{rows_more, rows_same}

module _ {A : Type 0} (d : A) where
  -- the first n cells
  pub cells-take : (l : List A) (n : ℕ) → n ≤ length l → cells d l 0 n ≡ take n l
  unfolding rows
  cells-take l zero h = refl
  cells-take l (suc n) h =
      rows_more (λ (i : ℕ). get_or l (0 + i) d) 0 n
      ∙ ap (λ (k : List A). k ++ (get_or l (0 + (0 + n)) d ∷ [])) (cells-take l n (omega arith))
      ∙ ap (λ (k : ℕ). take n l ++ (get_or l k d ∷ [])) (zero-add (0 + n) ∙ zero-add n)
      ∙ sym (take-suc l n d (omega arith))

  -- one cell more
  pub cells-set : (l : List A) (n : ℕ) (v : A) → n < length l → cells d (set l n v) 0 (n + 1) ≡ cells d l 0 n ++ (v ∷ [])
  cells-set l n v h =
      cells-take (set l n v) (n + 1) (omega (arith, length-set l n v))
      ∙ ap (λ (k : ℕ). take k (set l n v)) (add-one n)
      ∙ take-suc-set l n v h
      ∙ ap (λ (k : List A). k ++ (v ∷ [])) (sym (cells-take l n (omega arith)))

  -- those that were written
  pub cells_over : (g l : List A) → length g ≤ length l → cells d (over 0 g l) 0 (length g) ≡ g
  unfolding over
  cells_over g l h =
      let e = length-append g (drop (0 + length g) l) in
      cells-take (g ++ drop (0 + length g) l) (length g) (omega arith) ∙ take_at g (drop (0 + length g) l) (length g) refl

  -- those that hold what a list holds
  pub cells_are : (l g : List A) (o : ℕ) → ((i : ℕ) → i < length g → get_or l (o + i) d ≡ get_or g i d) → cells d l o (length g) ≡ g
  cells_are l g o each =
      rows_same (λ i. get_or l (o + i) d) (λ i. get_or g (0 + i) d) 0 (length g) (λ k a b. each k (omega arith) ∙ ap (λ (n : ℕ). get_or g n d) (sym (zero-add k)))
      ∙ cells-take g (length g) (omega arith)
      ∙ take_all (length g) g (omega arith)
