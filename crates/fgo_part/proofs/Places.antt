-- Rows as a function of the numbers of a range, and what looking through them gives. Assumes nothing.
use Prim.Native.Nat.{ℕ, zero, suc, ◌+◌, ◌-◌, ◌≤◌, ◌<◌}
use native.Mathlib.Nat.{zero-add, add-zero, eq-or-lt_of_le}
use native.Mathlib.Numerals.{add-one}
use native.Mathlib.Omega.{arith}
use mathlib.Core.Path.{◌≡◌, refl, sym, ap, ◌∙◌}
use mathlib.Core.Logic.{⊎_elim}
use mathlib.Core.Bool.{Bool, true, false, cond, ◌||◌}
use mathlib.Core.List.{List, ◌∷◌, map}
use lib.Dec.{ltb}
use borrow.Author.Tests.{lt-ltb, le-ltb}
use Rattle.std.specs.List.{range_with_len, list_any}
use Rattle.std.specs.Prelude.{Option, None, Some}
use Rattle.std.specs.Option.{is_some}
use Rattle.engine.specs.Body.{rows}
use Rattle.engine.proofs.Passing.{length-rows, row_at}
use Rattle.fgo_spec.proofs.Having.{has_at, has_nowhere}
use Rattle.fgo_spec.specs.Lists.{any, has, place_in}
use Rattle.fgo_part.specs.Parts.{part_id, part_ids, Rises, IsPartOf}

-- the rows of a range
pub rows_range : {A : Type 0} (g : ℕ → A) (o n : ℕ) → rows g o n ≡ map g (range_with_len o n)
unfolding rows
rows_range g o zero = refl
rows_range g o (suc n) = let e : o + 1 ≡ suc o = add-one o in rw e (ap (λ l. g o ∷ l) (rows_range g (suc o) n))

-- one of them passes
pub any_range : {A : Type 0} (p : A → Bool) (g : ℕ → A) (o n : ℕ) → list_any (λ k. p (g k)) (range_with_len o n) ≡ any p (rows g o n)
unfolding rows any
any_range p g o zero = refl
any_range p g o (suc n) = let e : o + 1 ≡ suc o = add-one o in rw e (ap (λ b. p (g o) || b) (any_range p g (suc o) n))

-- ---- the first place whose entry is not below x

module _ (g : ℕ → ℕ) (x : ℕ) where
  place_by : (b : Bool) {p m : ℕ} → p ≤ m → cond b (suc p) 0 ≤ suc m
  place_by true h = omega arith
  place_by false h = omega arith

  -- it is one of the n places from o on, or the end
  pub place_within : (o n : ℕ) → place_in x (rows g o n) ≤ n
  unfolding place_in rows
  place_within o zero = omega arith
  place_within o (suc n) = place_by (ltb (g o) x) (place_within (suc o) n)

  -- it is no later than a place whose entry is not below x
  pub place_until : (o n m : ℕ) → m < n → x ≤ g (o + m) → place_in x (rows g o n) ≤ m
  unfolding place_in rows
  place_until o zero m l h = absurd (omega arith)
  place_until o (suc n) zero l h = let q : x ≤ g o = rw add-zero at h in rw (le-ltb (g o) x q) (omega arith)
  place_until o (suc n) (suc m) l h =
      let e : o + suc m ≡ suc o + m = omega arith in
      place_by (ltb (g o) x) (place_until (suc o) n m (omega arith) (rw e at h))

  -- it is past m places whose entries are below x
  pub place_past : (o n m : ℕ) → m ≤ n → ((k : ℕ) → k < m → g (o + k) < x) → m ≤ place_in x (rows g o n)
  unfolding place_in rows
  place_past o n zero l h = omega arith
  place_past o zero (suc m) l h = absurd (omega arith)
  place_past o (suc n) (suc m) l h =
      let q : g o < x = rw add-zero at (h 0 (omega arith)) in
      let r = place_past (suc o) n m (omega arith) (λ k t. let e : o + suc k ≡ suc o + k = omega arith in rw e at (h (suc k) (omega arith))) in
      rw (lt-ltb (g o) x q) (omega (arith, r))

-- ---- among rising ids

module _ {tracks : List ℕ} {n : ℕ} (r : Rises tracks n) where
  rises_by : (k d : ℕ) → k + suc d < n → part_id tracks k < part_id tracks (k + suc d)
  rises_by k zero h = let e : k + 1 ≡ suc k = add-one k in rw e (r.next k (omega arith))
  rises_by k (suc d) h =
      let e : k + suc (suc d) ≡ suc (k + suc d) = omega arith in
      rw e (omega (arith, rises_by k d (omega arith), r.next (k + suc d) (omega arith)))

  -- an id is below a later one
  pub rises_below : (k m : ℕ) → k < m → m < n → part_id tracks k < part_id tracks m
  rises_below k m h l = let e : k + suc (m - suc k) ≡ m = omega arith in rw e at (rises_by k (m - suc k) (omega arith))

  module _ (x m : ℕ) (h : m < n) where
    -- the place of an id is past those below it
    pub place_later : part_id tracks m < x → m + 1 ≤ place_in x (part_ids tracks n)
    place_later l =
        place_past (part_id tracks) x 0 n (m + 1) (omega arith)
        (λ k t. let z : 0 + k ≡ k = zero-add k in rw z (⊎_elim (λ (d : k ≡ m). rw d l) (λ (d : k < m). omega (arith, rises_below k m d h)) (eq-or-lt_of_le (omega arith))))

    -- the place of an id that is there is its own
    pub place_own : x ≡ part_id tracks m → place_in x (part_ids tracks n) ≡ m
    place_own e =
        let z : 0 + m ≡ m = zero-add m in
        omega (arith, place_until (part_id tracks) x 0 n m h (rw z (omega arith)), place_past (part_id tracks) x 0 n m (omega arith) (λ k t. let y : 0 + k ≡ k = zero-add k in rw y (omega (arith, rises_below k m t h))))

-- what finding a part says of whether there is one
pub part_has : (tracks : List ℕ) (n x : ℕ) (r : Option ℕ) → IsPartOf tracks n x r → is_some r ≡ has x (part_ids tracks n)
part_has tracks n x None h =
    sym (has_nowhere x (part_ids tracks n) (λ k a e. let l : k < n = rw length-rows at a in h k l (e ∙ row_at (part_id tracks) n k 0 l)))
part_has tracks n x (Some k) h = sym (has_at x (part_ids tracks n) k (rw length-rows h.0) (h.1 ∙ sym (row_at (part_id tracks) n k 0 h.0)))
