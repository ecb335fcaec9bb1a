-- Ascending lists held at the start of an array. Assumes nothing.
use mathlib.Core.Path.{◌≡◌, refl, sym, ap, ◌∙◌}
use mathlib.Core.List.{List, [], ◌∷◌, ◌++◌}
use mathlib.Core.Bool.{Bool, true, false, cond}
use Prim.Native.Nat.{ℕ, zero, suc, ◌+◌, ◌≤◌, ◌<◌, suc-le-suc, compare, Ordering}
use native.Mathlib.Nat.{not-suc-le-zero, le_of_suc-le-suc}
use native.Mathlib.Numerals.{add-one}
use native.Mathlib.Omega.{arith}
use lib.ListN.{length, get_or, take, drop, set, length-set}
use lib.Seq.{length-take-le, take-take, take-set-lt, get_or-take, set_split}
use lib.Dec.{ltb}
use borrow.Author.Tests.{ltb-true, ltb-false}
use Rattle.bounds.specs.Bounds.{DETECTIONS}
use Rattle.fgo_spec.specs.Lists.{insert, insert_by, segment, place_in}
use Rattle.fgo_spec.proofs.Counting.{eq_compare, lt_compare, gt_compare}
use Rattle.search_rows.specs.Rows.{Begins}
use Rattle.search_rows.proofs.Segments.{segment_cut}

-- a number written into the place p, from which on the entries up to n have moved up by one place
laid : (n p x : ℕ) (a₀ a : List ℕ) → p ≤ n → n < DETECTIONS → length a ≡ DETECTIONS → take p a ≡ take p a₀ → segment (p + 1) (n + 1) a ≡ segment p n a₀ →
    take (n + 1) (set a p x) ≡ take p (take n a₀) ++ (x ∷ drop p (take n a₀))
laid n p x a₀ a h g e low high =
    let t = take (n + 1) a in
    take-set-lt (n + 1) a p x (omega arith)
    ∙ set_split t p x (omega (arith, length-take-le (n + 1) a (omega arith)))
    ∙ (λ m. (take-take p (n + 1) a (omega arith) ∙ low ∙ sym (take-take p n a₀ h)) m ++
    (x ∷ (ap (λ (k : ℕ). drop k t) (sym (add-one p)) ∙ sym (segment_cut (p + 1) (n + 1) a) ∙ high ∙ segment_cut p n a₀) m))

-- ---- inserting by the place

module _ (x y : ℕ) (l : List ℕ) where
  insert-past : y < x → insert x (y ∷ l) ≡ y ∷ insert x l
  unfolding insert
  insert-past h = rw (gt_compare x y h)

  insert-here : x < y → insert x (y ∷ l) ≡ x ∷ y ∷ l
  unfolding insert
  insert-here h = rw (lt_compare x y h)

  insert-same : x ≡ y → insert x (y ∷ l) ≡ y ∷ l
  unfolding insert
  insert-same h = rw (eq_compare x y h)

-- what a place says
place-zero : (x y : ℕ) (l : List ℕ) → 0 ≡ place_in x (y ∷ l) → x ≤ y
unfolding place_in
place-zero x y l = go (ltb y x) refl
  where
    go : (t : Bool) → ltb y x ≡ t → ◌≡◌ {A = ℕ} 0 (cond t (suc (place_in x l)) 0) → x ≤ y
    go true q e = absurd (omega arith)
    go false q e = ltb-false y x q

place-suc : (x y : ℕ) (l : List ℕ) (p : ℕ) → suc p ≡ place_in x (y ∷ l) → (y < x) × (p ≡ place_in x l)
unfolding place_in
place-suc x y l p = go (ltb y x) refl
  where
    go : (t : Bool) → ltb y x ≡ t → suc p ≡ cond t (suc (place_in x l)) 0 → (y < x) × (p ≡ place_in x l)
    go true q e = (ltb-true y x q, omega arith)
    go false q e = absurd (omega arith)

pub place-within : (x : ℕ) (l : List ℕ) (p : ℕ) → p ≡ place_in x l → p ≤ length l
unfolding place_in
place-within x [] p e = omega arith
place-within x (y ∷ l) zero e = omega arith
place-within x (y ∷ l) (suc p) e = suc-le-suc (place-within x l p (place-suc x y l p e).1)

-- where x does not stand at its place, it is put there; where it does, nothing changes
insert-new : (x : ℕ) (l : List ℕ) (p : ℕ) → p ≡ place_in x l → (p < length l → get_or l p 0 ≡ x → ⊥) → insert x l ≡ take p l ++ (x ∷ drop p l)
unfolding insert place_in
insert-new x [] zero e n = refl
insert-new x [] (suc p) e n = absurd (omega arith)
insert-new x (y ∷ l) zero e n = let d : y ≡ x → ⊥ = n (omega arith) in let h = place-zero x y l e in insert-here x y l (omega arith)
insert-new x (y ∷ l) (suc p) e n =
    let h = place-suc x y l p e in
    insert-past x y l h.0 ∙ ap (λ (r : List ℕ). y ∷ r) (insert-new x l p h.1 (λ g. n (suc-le-suc g)))

insert_old : (x : ℕ) (l : List ℕ) (p : ℕ) → p ≡ place_in x l → p < length l → get_or l p 0 ≡ x → insert x l ≡ l
insert_old x [] p e h q = absurd (not-suc-le-zero h)
insert_old x (y ∷ l) zero e h q = insert-same x y l (sym q)
insert_old x (y ∷ l) (suc p) e h q =
    let g = place-suc x y l p e in
    insert-past x y l g.0 ∙ ap (λ (r : List ℕ). y ∷ r) (insert_old x l p g.1 (le_of_suc-le-suc h) q)

pub insert-length : (x : ℕ) (l : List ℕ) → length (insert x l) ≤ suc (length l)
unfolding insert
insert-length x [] = omega arith
insert-length x (y ∷ l) = go (compare x y) (insert-length x l)
  where
    go : (o : Ordering) → length (insert x l) ≤ suc (length l) → length (insert_by o x y l (insert x l)) ≤ suc (suc (length l))
    go Ordering.lt h = omega arith
    go Ordering.eq h = omega arith
    go Ordering.gt h = omega arith

-- ---- inserting into an array

pub place_fits : (x n p : ℕ) (a : List ℕ) → n ≤ length a → p ≡ place_in x (take n a) → p ≤ n
place_fits x n p a h e = omega (arith, place-within x (take n a) p e, length-take-le n a h)

pub inserted_old : (x n p : ℕ) (a : List ℕ) → n < DETECTIONS → length a ≡ DETECTIONS → p ≡ place_in x (take n a) → p < n → get_or a p 0 ≡ x → Begins (insert x (take n a)) n a
inserted_old x n p a h size e g q =
    let l = length-take-le n a (omega arith) in
    record { within = omega arith; long = size; is = sym (insert_old x (take n a) p e (omega arith) (get_or-take n a p 0 g ∙ q)) }

pub inserted_new : (x n p : ℕ) (a₀ a : List ℕ) → n < DETECTIONS → length a₀ ≡ DETECTIONS → p ≡ place_in x (take n a₀) → (p < n → get_or a₀ p 0 ≡ x → ⊥) →
    length a ≡ DETECTIONS → take p a ≡ take p a₀ → segment (p + 1) (n + 1) a ≡ segment p n a₀ → Begins (insert x (take n a₀)) (n + 1) (set a p x)
inserted_new x n p a₀ a h size e d long low high =
    let l = length-take-le n a₀ (omega arith) in
    record {
      within = omega arith;
      long = length-set a p x ∙ long;
      is =
          laid n p x a₀ a (place_fits x n p a₀ (omega arith) e) h long low high
          ∙ sym (insert-new x (take n a₀) p e (λ g q. d (omega arith) (sym (get_or-take n a₀ p 0 (omega arith)) ∙ q)));
    }
