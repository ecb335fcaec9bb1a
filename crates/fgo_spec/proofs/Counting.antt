-- How many elements of a list pass a test, how often a number stands in it, and what it has. Assumes nothing.
use Prim.Native.Nat.{ℕ, suc, ◌+◌, ◌≤◌, ◌<◌, zero-le, compare, Ordering}
use native.Mathlib.Nat.{le_refl, le_trans, eq-zero-or-pos}
use native.Mathlib.Decide.{ℕ_discrete}
use native.Mathlib.Omega.{arith}
use mathlib.Core.Path.{◌≡◌, refl, sym, ap, ◌∙◌, subst}
use mathlib.Core.Logic.{◌⊎◌, inl, inr}
use mathlib.Core.Bool.{Bool, true, false, cond, ◌&&◌, ◌||◌, not, and-false, or_assoc, or_comm, or_self_left}
use mathlib.Core.List.Memᴰ
use mathlib.Core.List.{List, [], ◌∷◌, ◌++◌, map, flat_map, foldr, Memᴰ}
use lib.ListN.{length, length-append}
use lib.Dec.{T, eqb, compare_is_eq, is_le, eqb_refl}
use borrow.Author.Tests.{leb-true, leb-false, eqb-true, eqb-false, le-leb, lt-leb, eq-eqb, ne_eqb}
use Rattle.fgo_spec.specs.Lists.{keep, cons_if, any, has, times, insert, insert_by}
use Rattle.fgo_spec.specs.Rule.{All}
use Rattle.fgo_spec.proofs.All.{mem_All}

-- one more where the test is passed
abbrev pub bump : Bool → ℕ → ℕ
bump true n = suc n
bump false n = n

pub bump_mono : (b d : Bool) {m n : ℕ} → (T b → T d) → m ≤ n → bump b m ≤ bump d n
bump_mono true true f h = omega arith
bump_mono true false f h = absurd (f tt)
bump_mono false true f h = omega arith
bump_mono false false f h = h

pub bump_le : (b : Bool) (n : ℕ) → n ≤ bump b n
bump_le true n = omega arith
bump_le false n = le_refl n

pub or_right : (a b : Bool) → T b → T (a || b)
or_right true b t = tt
or_right false b t = t

-- ---- those that pass a test

module _ {A : Type 0} where
  pub keep_append : (f : A → Bool) (k l : List A) → keep f (k ++ l) ≡ keep f k ++ keep f l
  unfolding keep
  keep_append f [] l = refl
  keep_append f (a ∷ k) l = go (f a) (keep_append f k l)
    where
      go : (b : Bool) → keep f (k ++ l) ≡ keep f k ++ keep f l → cons_if b a (keep f (k ++ l)) ≡ cons_if b a (keep f k) ++ keep f l
      go true r = ap (λ m. a ∷ m) r
      go false r = r

  pub keep_same : (f g : A → Bool) (l : List A) → All (λ a. f a ≡ g a) l → keep f l ≡ keep g l
  unfolding keep
  keep_same f g [] e = refl
  keep_same f g (a ∷ l) e = λ i. cons_if (e.0 i) a (keep_same f g l e.1 i)

  -- a test that has one answer for all
  pub keep_const : (b : Bool) (f : A → Bool) (l : List A) → All (λ a. f a ≡ b) l → keep f l ≡ cond b l []
  unfolding keep
  keep_const true f [] h = refl
  keep_const true f (a ∷ l) h = rw h.0 (ap (λ m. a ∷ m) (keep_const true f l h.1))
  keep_const false f [] h = refl
  keep_const false f (a ∷ l) h = rw h.0 (keep_const false f l h.1)

-- ---- how many pass a test

module _ {A : Type 0} where
  pub count-cons : (f : A → Bool) (a : A) (l : List A) → length (keep f (a ∷ l)) ≡ bump (f a) (length (keep f l))
  unfolding keep
  count-cons f a l = go (f a)
    where
      go : (b : Bool) → length (cons_if b a (keep f l)) ≡ bump b (length (keep f l))
      go true = refl
      go false = refl

  pub count-append : (f : A → Bool) (k l : List A) → length (keep f (k ++ l)) ≡ length (keep f k) + length (keep f l)
  count-append f k l = ap length (keep_append f k l) ∙ length-append (keep f k) (keep f l)

  pub count_snoc : (f : A → Bool) (l : List A) (a : A) → length (keep f (l ++ (a ∷ []))) ≡ bump (f a) (length (keep f l))
  unfolding keep
  count_snoc f l a = count-append f l (a ∷ []) ∙ go (f a)
    where
      go : (b : Bool) → length (keep f l) + length (cons_if b a []) ≡ bump b (length (keep f l))
      go true = omega arith
      go false = omega arith

  pub count-le : (f : A → Bool) (l : List A) → length (keep f l) ≤ length l
  count-le f [] = unfold keep in (le_refl 0)
  count-le f (a ∷ l) = rw (count-cons f a l) (bump_mono (f a) true (λ t. tt) (count-le f l))

  pub count_mono : (f g : A → Bool) → ((a : A) → T (f a) → T (g a)) → (l : List A) → length (keep f l) ≤ length (keep g l)
  count_mono f g h [] = unfold keep in (le_refl 0)
  count_mono f g h (a ∷ l) = rw (count-cons f a l, count-cons g a l) (bump_mono (f a) (g a) (h a) (count_mono f g h l))

  -- those that pass a test and those that do not
  pub count-not : (f : A → Bool) (l : List A) → length (keep f l) + length (keep (λ a. not (f a)) l) ≡ length l
  count-not f [] = unfold keep in refl
  count-not f (a ∷ l) = rw (count-cons f a l, count-cons (λ a. not (f a)) a l) (go (f a) (count-not f l))
    where
      go :
          (b : Bool) → length (keep f l) + length (keep (λ a. not (f a)) l) ≡ length l →
          bump b (length (keep f l)) + bump (not b) (length (keep (λ a. not (f a)) l)) ≡ suc (length l)
      go true e = omega arith
      go false e = omega arith

  -- some pass exactly where any does
  pub any-count : (f : A → Bool) (l : List A) → T (any f l) → 0 < length (keep f l)
  unfolding any
  any-count f [] t = absurd t
  any-count f (a ∷ l) t = rw (count-cons f a l) (go (f a) t (any-count f l))
    where
      go : (b : Bool) → T (b || any f l) → (T (any f l) → 0 < length (keep f l)) → 0 < bump b (length (keep f l))
      go true k r = omega arith
      go false k r = r k

  pub count-any : (f : A → Bool) (l : List A) → 0 < length (keep f l) → T (any f l)
  unfolding any
  count-any f [] h = absurd (unfold keep in (omega arith))
  count-any f (a ∷ l) h = go (f a) (rw (count-cons f a l) at h) (count-any f l)
    where
      go : (b : Bool) → 0 < bump b (length (keep f l)) → (0 < length (keep f l) → T (any f l)) → T (b || any f l)
      go true k r = tt
      go false k r = r k

  pub any_append : (f : A → Bool) (k l : List A) → any f (k ++ l) ≡ (any f k || any f l)
  unfolding any
  any_append f [] l = refl
  any_append f (a ∷ k) l = ap (λ b. f a || b) (any_append f k l) ∙ sym (or_assoc (f a) (any f k) (any f l))

  pub any_none : (f : A → Bool) (l : List A) → All (λ a. f a ≡ false) l → any f l ≡ false
  unfolding any
  any_none f [] h = refl
  any_none f (a ∷ l) h = rw h.0 (any_none f l h.1)

  -- an element that passes
  pub mem_any : (f : A → Bool) (l : List A) {a : A} → Memᴰ a l → T (f a) → T (any f l)
  unfolding any
  mem_any f [] m t = absurd (Memᴰ.not-nil m)
  mem_any f (b ∷ l) {a} m t = go (f b) refl (Memᴰ.cases_cons m) (λ m. mem_any f l m t)
    where
      go : (d : Bool) → f b ≡ d → (a ≡ b) ⊎ Memᴰ a l → (Memᴰ a l → T (any f l)) → T (d || any f l)
      go true q c r = tt
      go false q (inl e) r = absurd (subst T (ap f e ∙ q) t)
      go false q (inr m') r = r m'

  -- what holds of all holds of one that passes
  pub any-All : {C : Type 0} (f : A → Bool) (P : A → Type 0) → ((a : A) → P a → T (f a) → C) → (l : List A) → All P l → T (any f l) → C
  unfolding any
  any-All f P k [] h t = absurd t
  any-All {C} f P k (a ∷ l) h t = go (f a) (k a h.0) t (any-All f P k l h.1)
    where
      go : (b : Bool) → (T b → C) → T (b || any f l) → (T (any f l) → C) → C
      go true p t r = p tt
      go false p t r = r t

pub any_flat_map : {A B : Type 0} (f : B → Bool) (g : A → List B) (l : List A) → any f (flat_map g l) ≡ any (λ a. any f (g a)) l
unfolding any flat_map
any_flat_map f g [] = refl
any_flat_map f g (a ∷ l) = any_append f (g a) (flat_map g l) ∙ ap (λ b. any f (g a) || b) (any_flat_map f g l)

pub count_map : {A B : Type 0} (f : B → Bool) (g : A → B) (l : List A) → length (keep f (map g l)) ≡ length (keep (λ a. f (g a)) l)
count_map f g [] = unfold keep in refl
count_map f g (a ∷ l) = count-cons f (g a) (map g l) ∙ ap (bump (f (g a))) (count_map f g l) ∙ sym (count-cons (λ a. f (g a)) a l)

-- ---- how often a number stands in a list

pub times_here : (x i : ℕ) (is : List ℕ) → x ≡ i → times x (i ∷ is) ≡ suc (times x is)
times_here x i is e = rw (count-cons (eqb x) i is, eq-eqb x i e)

pub times_past : (x i : ℕ) (is : List ℕ) → (x ≡ i → ⊥) → times x (i ∷ is) ≡ times x is
times_past x i is n = rw (count-cons (eqb x) i is, ne_eqb x i n)

pub times_tail : (x i : ℕ) (is : List ℕ) → times x is ≤ times x (i ∷ is)
times_tail x i is = rw (count-cons (eqb x) i is) (bump_le (eqb x i) (times x is))

-- ---- what a list has

pub has-keep : (f : ℕ → Bool) (x : ℕ) (l : List ℕ) → has x (keep f l) ≡ (f x && has x l)
unfolding any keep
has-keep f x [] = sym (and-false (f x))
has-keep f x (y ∷ l) = go (f y) refl (ℕ_discrete x y) (has-keep f x l)
  where
    go : (b : Bool) → f y ≡ b → Dec (x ≡ y) → has x (keep f l) ≡ (f x && has x l) → has x (cons_if b y (keep f l)) ≡ (f x && (eqb x y || has x l))
    go true q (yes e) r = rw (eq-eqb x y e, ap f e ∙ q)
    go false q (yes e) r = r ∙ rw (ap f e ∙ q)
    go true q (no n) r = rw (ne_eqb x y n) r
    go false q (no n) r = rw (ne_eqb x y n) r

pub has-not : (x : ℕ) (l : List ℕ) → has x l ≡ false → times x l ≡ 0
has-not x l e = elim (eq-zero-or-pos (times x l)) [ inl z ↦ z | inr h ↦ absurd (subst T e (count-any (eqb x) l h)) ]

pub not-has : (x : ℕ) (l : List ℕ) → times x l ≡ 0 → has x l ≡ false
not-has x l e = go (has x l) refl
  where
    go : (b : Bool) → has x l ≡ b → b ≡ false
    go true q = absurd (omega (arith, any-count (eqb x) l (subst T (sym q) tt)))
    go false q = refl

-- what holds of each number that a list has holds of all
pub has-All : (P : ℕ → Type 0) (l : List ℕ) → ((x : ℕ) → T (has x l) → P x) → All P l
has-All P l f = mem_All P l (λ x m. f x (mem_any (eqb x) l m (eqb_refl x)))

-- ---- what a comparison says, and what says it

pub compare_eq : (x y : ℕ) → compare x y ≡ Ordering.eq → x ≡ y
compare_eq x y e = eqb-true x y (ap compare_is_eq e)

pub compare_lt : (x y : ℕ) → compare x y ≡ Ordering.lt → x < y
compare_lt x y e = let l = leb-true x y (ap is_le e) in let n = eqb-false x y (ap compare_is_eq e) in omega arith

pub compare_gt : (x y : ℕ) → compare x y ≡ Ordering.gt → y < x
compare_gt x y e = leb-false x y (ap is_le e)

-- an outcome, by its two tests
outcome : Bool → Bool → Ordering
outcome true true = Ordering.eq
outcome true false = Ordering.lt
outcome false e = Ordering.gt

outcome_is : (o : Ordering) → o ≡ outcome (is_le o) (compare_is_eq o)
unfolding outcome
outcome_is Ordering.lt = refl
outcome_is Ordering.eq = refl
outcome_is Ordering.gt = refl

module _ (x y : ℕ) where
  pub eq_compare : x ≡ y → compare x y ≡ Ordering.eq
  unfolding outcome
  eq_compare e = outcome_is (compare x y) ∙ (λ i. outcome (le-leb x y (omega arith) i) (eq-eqb x y e i))

  pub lt_compare : x < y → compare x y ≡ Ordering.lt
  unfolding outcome
  lt_compare h = outcome_is (compare x y) ∙ (λ i. outcome (le-leb x y (omega arith) i) (ne_eqb x y (λ e. omega arith) i))

  pub gt_compare : y < x → compare x y ≡ Ordering.gt
  unfolding outcome
  gt_compare h = outcome_is (compare x y) ∙ (λ i. outcome (lt-leb x y h i) (eqb x y))

-- ---- sorting

or_swap : (a b c : Bool) → (a || (b || c)) ≡ (b || (a || c))
or_swap a b c = sym (or_assoc a b c) ∙ ap (λ d. d || c) (or_comm a b) ∙ or_assoc b a c

pub has-insert : (x y : ℕ) (l : List ℕ) → has x (insert y l) ≡ has x (y ∷ l)
unfolding any insert
has-insert x y [] = refl
has-insert x y (z ∷ l) = go (compare y z) refl (has-insert x y l)
  where
    go : (o : Ordering) → compare y z ≡ o → has x (insert y l) ≡ has x (y ∷ l) → has x (insert_by o y z l (insert y l)) ≡ has x (y ∷ z ∷ l)
    go Ordering.lt q r = refl
    go Ordering.eq q r = rw (compare_eq y z q) (sym (or_self_left (eqb x z) (has x l)))
    go Ordering.gt q r = ap (λ b. eqb x z || b) r ∙ or_swap (eqb x z) (eqb x y) (has x l)

pub has-sort : (x : ℕ) (l : List ℕ) → has x (foldr insert [] l) ≡ has x l
unfolding any
has-sort x [] = refl
has-sort x (y ∷ l) = has-insert x y (foldr insert [] l) ∙ ap (λ b. eqb x y || b) (has-sort x l)

-- ---- a list without repeats, all of which another has, is no longer than that

pub no_longer : (k l : List ℕ) → ((x : ℕ) → times x k ≤ 1) → ((x : ℕ) → T (has x k) → T (has x l)) → length k ≤ length l
no_longer [] l d h = zero-le
no_longer (a ∷ k) l d h =
    let r : length k ≤ length (keep (λ y. not (eqb a y)) l) =
    no_longer k (keep (λ y. not (eqb a y)) l) (λ x. le_trans (times_tail x a k) (d x)) (λ x t. other x t (ℕ_discrete a x)) in
    let p : 0 < times a l = any-count (eqb a) l (h a (unfold any in (rw (eq-eqb a a refl) tt))) in
    omega (arith, count-not (eqb a) l)
  where
    other : (x : ℕ) → T (has x k) → Dec (a ≡ x) → T (has x (keep (λ y. not (eqb a y)) l))
    other x t (yes e) =
        let p : 0 < times a k = any-count (eqb a) k (subst (λ z. T (has z k)) (sym e) t) in
        absurd (omega (arith, times_here a a k refl, d a))
    other x t (no n) = rw (has-keep (λ y. not (eqb a y)) x l, ne_eqb a x n) (h x (unfold any in (or_right (eqb x a) (has x k) t)))
