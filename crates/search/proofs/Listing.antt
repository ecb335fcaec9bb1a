-- The ids of a table: where it is of the ids present, and one after the other. Assumes nothing.
use Prim.Native.Nat.{ℕ, zero, suc, ◌+◌, ◌<◌}
use native.Mathlib.Numerals.{add-one}
use native.Mathlib.Decide.{dec_lt}
use native.Mathlib.Omega.{arith}
use mathlib.Core.Path.{◌≡◌, sym, ◌∙◌, subst}
use mathlib.Core.List.{List, [], ◌∷◌}
use lib.ListN.{length, get_or, take, drop, drop_of_length-le}
use lib.Seq.{drop-cons, get_or-take, length-take-le}
use Rattle.fgo_spec.specs.Rule.{All}
use Rattle.fgo_spec.proofs.All.{All_at}
use Rattle.search_rows.specs.Rows.{present_in, Ascends, Begins}
use Rattle.search_rows.proofs.IdsAscend.{present_ascends, ascends_above, ascends_rises}
use Rattle.search.specs.Pass.{IdTable}

-- ---- a table of the ids present

-- an array that begins with the ids present
module _ (n : ℕ) (ids : List ℕ) (m : ℕ) (array : List ℕ) (b : Begins (present_in n ids) m array) where
  size : length (take m array) ≡ m
  size = length-take-le m array (rw b.long b.within)

  up : Ascends 0 (take m array)
  up = subst (Ascends 0) (sym b.is) (present_ascends n ids)

  at : (i : ℕ) → i < m → get_or (take m array) i 0 ≡ get_or array i 0
  at i h = get_or-take m array i 0 h

  -- it lists them
  pub present_listed : IdTable m array
  present_listed =
      record {
        within = b.within;
        long = b.long;
        above = λ i h. subst (λ x. 0 < x) (at i h) (ascends_above 0 (take m array) up i (subst (λ k. i < k) (sym size) h));
        rises = λ i j h g.
            subst (λ x. x < get_or array j 0) (at i (omega arith)) (subst (λ x. get_or (take m array) i 0 < x) (at j g)
            (ascends_rises 0 (take m array) up i j h (subst (λ k. j < k) (sym size) g)));
      }

  -- what holds of them holds of each listed
  pub listed-each : (P : ℕ → Type 0) → All P (present_in n ids) → (k : ℕ) → k < m → P (get_or array k 0)
  listed-each P a k h = subst P (at k h) (All_at P (take m array) 0 (subst (All P) (sym b.is) a) k (subst (λ i. k < i) (sym size) h))

-- ---- one after the other

-- two places of a table of ids have two ids
pub listed_apart : {n : ℕ} {table : List ℕ} → IdTable n table → (k m : ℕ) → k < n → m < n → (k ≡ m → ⊥) → get_or table k 0 ≡ get_or table m 0 → ⊥
listed_apart {n} {table} l k m h g ne q = go (dec_lt k m)
  where
    go : Dec (k < m) → ⊥
    go (yes b) = omega (arith, l.rises k m b g)
    go (no b) = go-up (dec_lt m k)
      where
        go-up : Dec (m < k) → ⊥
        go-up (yes d) = omega (arith, l.rises m k d h)
        go-up (no d) = ne (omega (arith, b, d))

module _ {n : ℕ} {table : List ℕ} (l : IdTable n table) where
  -- as many as are listed
  listed-length : length (take n table) ≡ n
  listed-length = length-take-le n table (omega (arith, l.within, l.long))

  -- those from k on: that at k first
  pub listed_next : (k : ℕ) → k < n → drop k (take n table) ≡ get_or table k 0 ∷ drop (k + 1) (take n table)
  listed_next k h =
      drop-cons (take n table) k 0 (omega (arith, listed-length))
      ∙ (λ i. get_or-take n table k 0 h i ∷ drop (sym (add-one k) i) (take n table))

  pub listed_end : drop n (take n table) ≡ []
  listed_end = drop_of_length-le (take n table) {i = n} (omega (arith, listed-length))
