-- What holds of all elements of a list. Assumes nothing.
use Prim.Native.Nat.{ℕ, zero, suc, ◌<◌}
use native.Mathlib.Omega.{arith}
use mathlib.Core.Path.{◌≡◌, refl, sym, subst}
use mathlib.Core.Logic.{◌⊎◌, inl, inr}
use mathlib.Core.Bool.{Bool, true, false}
use mathlib.Core.List.Memᴰ
use mathlib.Core.List.{List, [], ◌∷◌, ◌++◌, map, foldl, Memᴰ}
use lib.Dec.{T}
use lib.ListN.{length, get_or}
use Rattle.fgo_spec.specs.Lists.{keep, cons_if}
use Rattle.fgo_spec.specs.Rule.{All}

-- it holds of each place
pub All_at : {A : Type 0} (P : A → Type 0) (l : List A) (d : A) → All P l → (k : ℕ) → k < length l → P (get_or l k d)
All_at P [] d h k g = absurd (omega arith)
All_at P (a ∷ l) d h zero g = h.0
All_at P (a ∷ l) d h (suc k) g = All_at P l d h.1 k (omega arith)

module _ {A : Type 0} where
  pub All_weaken : (P Q : A → Type 0) (l : List A) → ((a : A) → P a → Q a) → All P l → All Q l
  All_weaken P Q [] f h = tt
  All_weaken P Q (a ∷ l) f h = (f a h.0, All_weaken P Q l f h.1)

  -- what follows from two such facts, element by element
  pub All_both : (P Q R : A → Type 0) (l : List A) → ((a : A) → P a → Q a → R a) → All P l → All Q l → All R l
  All_both P Q R [] f h g = tt
  All_both P Q R (a ∷ l) f h g = (f a h.0 g.0, All_both P Q R l f h.1 g.1)

  module _ (P : A → Type 0) where
    pub All-append : (k l : List A) → All P k → All P l → All P (k ++ l)
    All-append [] l h g = g
    All-append (a ∷ k) l h g = (h.0, All-append k l h.1 g)

    pub All-left : (k l : List A) → All P (k ++ l) → All P k
    All-left [] l h = tt
    All-left (a ∷ k) l h = (h.0, All-left k l h.1)

    pub All-right : (k l : List A) → All P (k ++ l) → All P l
    All-right [] l h = h
    All-right (a ∷ k) l h = All-right k l h.1

    pub All-keep : (f : A → Bool) (l : List A) → All (λ a. T (f a) → P a) l → All P (keep f l)
    unfolding keep
    All-keep f [] h = tt
    All-keep f (a ∷ l) h = go (f a) h.0 (All-keep f l h.1)
      where
        go : (b : Bool) → (T b → P a) → All P (keep f l) → All P (cons_if b a (keep f l))
        go true p r = (p tt, r)
        go false p r = r

    pub All_mem : (l : List A) {a : A} → All P l → Memᴰ a l → P a
    All_mem [] h m = absurd (Memᴰ.not-nil m)
    All_mem (b ∷ l) {a} h m = go (All_mem l h.1) (Memᴰ.cases_cons m)
      where
        go : (Memᴰ a l → P a) → (a ≡ b) ⊎ Memᴰ a l → P a
        go r (inl q) = subst P (sym q) h.0
        go r (inr m') = r m'

    pub mem_All : (l : List A) → ((a : A) → Memᴰ a l → P a) → All P l
    mem_All [] f = tt
    mem_All (a ∷ l) f = (f a (Memᴰ.head refl), mem_All l (λ b m. f b (Memᴰ.tail m)))

pub All-map : {A B : Type 0} (P : B → Type 0) (f : A → B) (l : List A) → All (λ a. P (f a)) l → All P (map f l)
All-map P f [] h = tt
All-map P f (a ∷ l) h = (h.0, All-map P f l h.1)

pub map-All : {A B : Type 0} (P : B → Type 0) (f : A → B) (l : List A) → All P (map f l) → All (λ a. P (f a)) l
map-All P f [] h = tt
map-All P f (a ∷ l) h = (h.0, map-All P f l h.1)

-- what each step of a fold keeps, the fold keeps
pub foldl_keeps :
    {S A : Type 0} (I : S → Type 0) (P : A → Type 0) (step : S → A → S) →
    ((s : S) (a : A) → I s → P a → I (step s a)) → (s : S) (l : List A) → I s → All P l → I (foldl step s l)
foldl_keeps I P step f s [] i h = i
foldl_keeps I P step f s (a ∷ l) i h = foldl_keeps I P step f (step s a) l (f s a i h.0) h.1
