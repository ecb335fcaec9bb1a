-- Lists of axes, and of what is made of them, place by place. Assumes nothing.
use mathlib.Core.Path.{◌≡◌, refl, sym, ap, ◌∙◌}
use mathlib.Core.List.{List, [], ◌∷◌, map, foldl}
use Prim.Native.Nat.{ℕ, zero, suc, ◌+◌, ◌<◌}
use native.Mathlib.Omega.{arith}
use native.Mathlib.Nat.{le_of_suc-le-suc}
use lib.ListN.{length, get_or}
use Rattle.scalar.specs.Num.{Num, Exact}
use Rattle.linalg.specs.Sizes.{sum}
use Rattle.linalg.proofs.Sums.{sum-cons}
use Rattle.linalg.proofs.Blocks.{stacked-first, stacked_then}
use Rattle.kf.specs.Plain.{Axis, Filter, along}
use Rattle.textbook.specs.Kalman.{axis_at, estimate_of}

pub map_at : {A B : Type 0} (f : A → B) (d : A) (e : B) (l : List A) (i : ℕ) → i < length l → get_or (map f l) i e ≡ f (get_or l i d)
map_at f d e [] i h = absurd (omega arith)
map_at f d e (x ∷ l) zero h = refl
map_at f d e (x ∷ l) (suc i) h = map_at f d e l i (le_of_suc-le-suc h)

module _ {F A : Type 0} (f : F → Axis F → A) where
  pub along-at : (c : F) (d : Axis F) (e : A) (zs : List F) (l : List (Axis F)) (i : ℕ) → i < length zs → i < length l
      → get_or (along f zs l) i e ≡ f (get_or zs i c) (get_or l i d)
  along-at c d e [] l i h g = absurd (omega arith)
  along-at c d e (z ∷ zs) [] i h g = absurd (omega arith)
  along-at c d e (z ∷ zs) (a ∷ l) zero h g = refl
  along-at c d e (z ∷ zs) (a ∷ l) (suc i) h g = along-at c d e zs l i (le_of_suc-le-suc h) (le_of_suc-le-suc g)

  pub along_long : (zs : List F) (l : List (Axis F)) (n : ℕ) → length zs ≡ n → length l ≡ n → length (along f zs l) ≡ n
  along_long [] l n h g = h
  along_long (z ∷ zs) [] n h g = g
  along_long (z ∷ zs) (a ∷ l) zero h g = absurd (omega arith)
  along_long (z ∷ zs) (a ∷ l) (suc n) h g = ap suc (along_long zs l n (omega arith) (omega arith))

-- what is added one after the other is the sum
module _ (N : Num) (X : Exact N) {A : Type 0} (g : A → N.F) (d : A) where
  open N use {F, add as ◌⊕◌}

  infixl 60 ◌⊕◌
  pub fold-sum : (b : F) (l : List A) → foldl (λ t x. t ⊕ g x) b l ≡ b ⊕ sum N (λ i. g (get_or l i d)) (length l)
  fold-sum b [] = unfold sum in sym (X.field.add_zero b)
  fold-sum b (x ∷ l) =
      fold-sum (b ⊕ g x) l
      ∙ X.field.add_assoc b (g x) (sum N (λ i. g (get_or l i d)) (length l))
      ∙ ap (λ (w : F). b ⊕ w) (sym (sum-cons N X (λ i. g (get_or (x ∷ l) i d)) (length l)))

-- positions and speeds in the state
module _ (N : Num) (n : ℕ) (k : Filter N.F) (i : ℕ) where
  pub position_is : i < n → (estimate_of N n k).x i ≡ (axis_at N k i).at
  position_is h = stacked-first N n (λ i. (axis_at N k i).at) (λ i. (axis_at N k i).speed) i h

  pub speed_is : (estimate_of N n k).x (n + i) ≡ (axis_at N k i).speed
  speed_is = stacked_then N n (λ i. (axis_at N k i).at) (λ i. (axis_at N k i).speed) i
