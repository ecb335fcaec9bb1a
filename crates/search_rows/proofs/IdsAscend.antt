-- The ids present are ascending, above 0, and no more than the detections. Assumes nothing.
use Prim.Native.Nat.{ℕ, zero, suc, ◌+◌, ◌≤◌, ◌<◌, compare, Ordering}
use native.Mathlib.Nat.{le_refl, le_trans}
use native.Mathlib.Decide.{ℕ_discrete, dec_le}
use native.Mathlib.Numerals.{add-one}
use native.Mathlib.Omega.{arith}
use mathlib.Core.Path.{◌≡◌, refl, sym, ap, ◌∙◌, subst}
use mathlib.Core.Bool.{Bool, true, false, cond, ◌||◌, or-false, or-true}
use mathlib.Core.List.{List, [], ◌∷◌, ◌++◌, append-nil, foldr}
use lib.ListN.{length, get_or, take, drop, length-take}
use lib.Seq.{take-suc}
use lib.Dec.{T, eqb, ltb, ltb→lt}
use borrow.Author.Tests.{eq-eqb, ne_eqb, lt-ltb, le-ltb, ltb-true, ltb-false}
use Rattle.fgo_spec.specs.Lists.{keep, cons_if, any, has, insert, insert_by, place_in}
use Rattle.fgo_spec.specs.Rule.{All}
use Rattle.fgo_spec.proofs.All.{All-keep, mem_All}
use Rattle.fgo_spec.proofs.Counting.{keep_append, any_append, has-insert, has-sort, count-le, compare_lt, compare_gt}
use Rattle.search_rows.specs.Rows.{present_in, Ascends}
use Rattle.search_rows.proofs.Ascending.{insert-length}

pub ascends_lower : (j k : ℕ) (l : List ℕ) → j ≤ k → Ascends k l → Ascends j l
ascends_lower j k [] h a = tt
ascends_lower j k (x ∷ l) h a = (le_trans (omega arith) a.0, a.1)

-- ---- sorting

ascends_insert : (k x : ℕ) (l : List ℕ) → k < x → Ascends k l → Ascends k (insert x l)
unfolding insert
ascends_insert k x [] h a = (h, tt)
ascends_insert k x (y ∷ l) h a = go (compare x y) refl (λ d. ascends_insert y x l d a.1)
  where
    go : (o : Ordering) → compare x y ≡ o → (y < x → Ascends y (insert x l)) → Ascends k (insert_by o x y l (insert x l))
    go Ordering.lt e r = (h, (compare_lt x y e, a.1))
    go Ordering.eq e r = a
    go Ordering.gt e r = (a.0, r (compare_gt x y e))

ascends_sort : (l : List ℕ) → All (λ x. 0 < x) l → Ascends 0 (foldr insert [] l)
ascends_sort [] h = tt
ascends_sort (x ∷ l) h = ascends_insert 0 x (foldr insert [] l) h.0 (ascends_sort l h.1)

sort-length : (l : List ℕ) → length (foldr insert [] l) ≤ length l
sort-length [] = le_refl 0
sort-length (x ∷ l) = le_trans (insert-length x (foldr insert [] l)) (let r = sort-length l in omega arith)

-- ---- the ids present

module _ (n : ℕ) (ids : List ℕ) where
  pub present_ascends : Ascends 0 (present_in n ids)
  unfolding present_in
  present_ascends = ascends_sort (keep (ltb 0) (take n ids)) (All-keep (λ x. 0 < x) (ltb 0) (take n ids) (mem_All (λ x. T (ltb 0 x) → 0 < x) (take n ids) (λ x m t. ltb→lt 0 x t)))

  pub present-length : length (present_in n ids) ≤ n
  unfolding present_in
  present-length = le_trans (sort-length (keep (ltb 0) (take n ids))) (le_trans (count-le (ltb 0) (take n ids)) (rw (length-take n ids) (omega arith)))

-- ---- entry by entry

pub ascends_above : (k : ℕ) (l : List ℕ) → Ascends k l → (i : ℕ) → i < length l → k < get_or l i 0
ascends_above k [] a i h = absurd (omega arith)
ascends_above k (x ∷ l) a zero h = a.0
ascends_above k (x ∷ l) a (suc i) h = let r : x < get_or l i 0 = ascends_above x l a.1 i (omega arith) in let q = a.0 in omega arith

pub ascends_rises : (k : ℕ) (l : List ℕ) → Ascends k l → (i j : ℕ) → i < j → j < length l → get_or l i 0 < get_or l j 0
ascends_rises k [] a i j h g = absurd (omega arith)
ascends_rises k (x ∷ l) a i zero h g = absurd (omega arith)
ascends_rises k (x ∷ l) a zero (suc j) h g = ascends_above x l a.1 j (omega arith)
ascends_rises k (x ∷ l) a (suc i) (suc j) h g = ascends_rises x l a.1 i j (omega arith) (omega arith)

-- ---- ascending lists that have the same are equal

pub ascends_keep : (f : ℕ → Bool) (k : ℕ) (l : List ℕ) → Ascends k l → Ascends k (keep f l)
unfolding keep
ascends_keep f k [] a = tt
ascends_keep f k (x ∷ l) a = go (f x) (ascends_keep f x l a.1)
  where
    go : (b : Bool) → Ascends x (keep f l) → Ascends k (cons_if b x (keep f l))
    go true r = (a.0, r)
    go false r = ascends_lower k x (keep f l) (let h = a.0 in omega arith) r

ascends_past : (k x : ℕ) (l : List ℕ) → x ≤ k → Ascends k l → has x l ≡ false
unfolding any
ascends_past k x [] h a = refl
ascends_past k x (y ∷ l) h a = let g = a.0 in rw (ne_eqb x y (λ e. omega arith)) (ascends_past y x l (omega arith) a.1)

has_past : (x y : ℕ) (l : List ℕ) → (x ≡ y → ⊥) → has x (y ∷ l) ≡ has x l
unfolding any
has_past x y l d = rw (ne_eqb x y d)

has_first : (x : ℕ) (l : List ℕ) → T (has x (x ∷ l))
unfolding any
has_first x l = rw (eq-eqb x x refl) tt

has_none : (x : ℕ) → has x [] ≡ false
unfolding any
has_none x = refl

-- an ascending list has nothing below its first
ascends_first : (x y : ℕ) (l : List ℕ) → Ascends y l → T (has x (y ∷ l)) → y ≤ x
ascends_first x y l a t = go (dec_le y x)
  where
    go : Dec (y ≤ x) → y ≤ x
    go (yes h) = h
    go (no n) = absurd (subst T (has_past x y l (λ e. n (omega arith)) ∙ ascends_past y x l (omega arith) a) t)

pub ascends_same : (i j : ℕ) (k l : List ℕ) → Ascends i k → Ascends j l → ((x : ℕ) → has x k ≡ has x l) → k ≡ l
ascends_same i j [] [] a b h = refl
ascends_same i j [] (y ∷ l) a b h = absurd (subst T (sym (h y) ∙ has_none y) (has_first y l))
ascends_same i j (x ∷ k) [] a b h = absurd (subst T (h x ∙ has_none x) (has_first x k))
ascends_same i j (x ∷ k) (y ∷ l) a b h = λ n. e n ∷ ascends_same x y k l a.1 b.1 (λ z. go z (ℕ_discrete z x)) n
  where
    e : x ≡ y
    e =
        let u = ascends_first x y l b.1 (subst T (h x) (has_first x k)) in
        let v = ascends_first y x k a.1 (subst T (sym (h y)) (has_first y l)) in
        omega arith

    go : (z : ℕ) → Dec (z ≡ x) → has z k ≡ has z l
    go z (yes d) = ascends_past x z k (omega arith) a.1 ∙ sym (ascends_past y z l (omega (arith, e)) b.1)
    go z (no d) = sym (has_past z x k d) ∙ h z ∙ has_past z y l (λ q. d (q ∙ sym e))

-- ---- the place of a number in an ascending list

-- it may be sought from a place on where no greater number stands
pub place-on : (k x from : ℕ) (l : List ℕ) → Ascends k l → from < length l → get_or l from 0 ≤ x → from + place_in x (drop from l) ≡ place_in x l
unfolding place_in
place-on k x from [] a h g = absurd (omega arith)
place-on k x zero (y ∷ l) a h g = omega arith
place-on k x (suc n) (y ∷ l) a h g =
    rw (lt-ltb y x (omega (arith, ascends_above y l a.1 n (omega arith)))) (omega (arith, place-on y x n l a.1 (omega arith) g))

-- where it stands, it stands at its place
pub ascends_place : (k x : ℕ) (l : List ℕ) → Ascends k l → T (has x l) → (place_in x l < length l) × (get_or l (place_in x l) 0 ≡ x)
unfolding place_in
ascends_place k x [] a t = absurd (subst T (has_none x) t)
ascends_place k x (y ∷ l) a t = go (ltb y x) refl (ascends_place y x l a.1)
  where
    go : (b : Bool) → ltb y x ≡ b → (T (has x l) → (place_in x l < length l) × (get_or l (place_in x l) 0 ≡ x)) →
        (cond b (suc (place_in x l)) 0 < suc (length l)) × (get_or (y ∷ l) (cond b (suc (place_in x l)) 0) 0 ≡ x)
    go true e r = let q = r (subst T (has_past x y l (λ q. omega (arith, ltb-true y x e))) t) in (omega (arith, q.0), q.1)
    go false e r = (omega arith, omega (arith, ascends_first x y l a.1 t, ltb-false y x e))

-- ---- one number more

either : (a b : Bool) → (a || b) ≡ (b || a)
either true b = sym (or-true b)
either false b = sym (or-false b)

module _ (i : ℕ) (ids : List ℕ) (h : i < length ids) where
  one-more : keep (ltb 0) (take (i + 1) ids) ≡ keep (ltb 0) (take i ids) ++ keep (ltb 0) (get_or ids i 0 ∷ [])
  one-more =
      ap (λ (n : ℕ). keep (ltb 0) (take n ids)) (add-one i)
      ∙ ap (keep (ltb 0)) (take-suc ids i 0 h)
      ∙ keep_append (ltb 0) (take i ids) (get_or ids i 0 ∷ [])

  pub present_same : get_or ids i 0 ≤ 0 → present_in (i + 1) ids ≡ present_in i ids
  unfolding present_in keep
  present_same z = ap (foldr insert []) (one-more ∙ rw (le-ltb 0 (get_or ids i 0) z) (append-nil _))

  pub present_more : 0 < get_or ids i 0 → present_in (i + 1) ids ≡ insert (get_or ids i 0) (present_in i ids)
  unfolding present_in keep any
  present_more p =
      let x = get_or ids i 0 in
      let k = keep (ltb 0) (take i ids) in
      let both : keep (ltb 0) (take (i + 1) ids) ≡ k ++ (x ∷ []) = one-more ∙ rw (lt-ltb 0 x p) refl in
      ap (foldr insert []) both
      ∙ ascends_same 0 0 (foldr insert [] (k ++ (x ∷ []))) (insert x (foldr insert [] k))
      (subst (λ l. Ascends 0 (foldr insert [] l)) both (present_ascends (i + 1) ids))
      (ascends_insert 0 x (foldr insert [] k) p (present_ascends i ids))
      (λ z.
      has-sort z (k ++ (x ∷ []))
      ∙ any_append (eqb z) k (x ∷ [])
      ∙ ap (λ b. has z k || b) (or-false (eqb z x))
      ∙ either (has z k) (eqb z x)
      ∙ sym (has-insert z x (foldr insert [] k) ∙ ap (λ b. eqb z x || b) (has-sort z k)))
