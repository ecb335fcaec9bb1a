-- The row of a merged track, and how two rows lie to each other. Assumes nothing.
use Rattle.std.proofs.Common.{◌≡◌, ℕ, zero, suc, ◌+◌, ◌<◌, ◌≤◌, Bool, true, false, cond, eqb, List, [], ◌∷◌, length, get_or, ◌⊎◌, inl, inr, refl, ap, ◌∙◌, arith, eqb-true}
use native.Mathlib.Decide.{dec_lt}
use lib.ListN.{get_or-eq_default}
use Rattle.bounds.specs.Bounds.{SCANS}
use Rattle.cost_row.specs.Price.{EndsBy}
use Rattle.search_merge.specs.Merge.{kept_slot, merged_row, count_rows, both_have, shared_rows, only_has, alone_rows}

pub merged-length : (own : Bool) (a b : List ℕ) → length (merged_row own a b) ≡ length a
unfolding merged_row
merged-length own [] b = refl
merged-length own (x ∷ a) [] = refl
merged-length own (x ∷ a) (y ∷ b) = ap suc (merged-length own a b)

pub merged-at : (own : Bool) (a b : List ℕ) (k : ℕ) → k < length a → k < length b → get_or (merged_row own a b) k 0 ≡ kept_slot own (get_or a k 0) (get_or b k 0)
unfolding merged_row
merged-at own [] b k h g = absurd (omega arith)
merged-at own (x ∷ a) [] k h g = absurd (omega arith)
merged-at own (x ∷ a) (y ∷ b) zero h g = refl
merged-at own (x ∷ a) (y ∷ b) (suc k) h g = merged-at own a b k (omega arith) (omega arith)

-- it ends no later than both
pub merged_ends : (own : Bool) {end : ℕ} {a b : List ℕ} → EndsBy end a → EndsBy end b → EndsBy end (merged_row own a b)
merged_ends own {end} {a} {b} s t = record { within = s.within; long = merged-length own a b ∙ s.long; empty = λ k h. at k h (dec_lt k SCANS) }
  where
    at : (k : ℕ) → end ≤ k → Dec (k < SCANS) → get_or (merged_row own a b) k 0 ≡ 0
    at k h (yes g) = merged-at own a b k (omega (arith, s.long)) (omega (arith, t.long)) ∙ rw (s.empty k h, t.empty k h)
    at k h (no g) = get_or-eq_default (merged_row own a b) 0 (omega (arith, merged-length own a b, s.long))

-- ---- counts over two rows

pub both_le : (x y : ℕ) → both_have x y ≤ 1
both_le x y = go (eqb x 0) (eqb y 0)
  where
    go : (p q : Bool) → cond p 0 (cond q 0 1) ≤ 1
    go true q = omega arith
    go false true = omega arith
    go false false = omega arith

pub only_le : (x y : ℕ) → only_has x y ≤ 1
only_le x y = go (eqb x 0) (eqb y 0)
  where
    go : (p q : Bool) → cond p 0 (cond q 1 0) ≤ 1
    go true q = omega arith
    go false true = omega arith
    go false false = omega arith

-- a loop over two rows has counted n, and has r and t of them left
pub record Counting (f : ℕ → ℕ → ℕ) (a b r t : List ℕ) (n : ℕ) : Type 0 where
  pub few : n + length r ≤ SCANS
  pub rest : n + count_rows f r t ≡ count_rows f a b

pub count-start : {f : ℕ → ℕ → ℕ} {a b r t : List ℕ} → length a ≡ SCANS → r ≡ a → t ≡ b → Counting f a b r t 0
count-start {f} {a} {b} {r} {t} h p q = record { few = omega (arith, h, ap length p); rest = let z : count_rows f r t ≡ count_rows f a b = (λ i. count_rows f (p i) (q i)) in omega arith }

module _ {f : ℕ → ℕ → ℕ} {a b r t : List ℕ} {n : ℕ} (s : Counting f a b r t n) where
  pub counts : {x y : ℕ} {r' t' : List ℕ} → r ≡ x ∷ r' → t ≡ y ∷ t' → (m : ℕ) → m ≡ f x y → f x y ≤ 1 → Counting f a b r' t' (n + m)
  counts {x} {y} {r'} {t'} p q m e l =
      let step : count_rows f r t ≡ f x y + count_rows f r' t' = (unfold count_rows in rw (p, q)) in
      record { few = omega (arith, s.few, ap length p); rest = omega (arith, s.rest) }

  pub counted : (length r ≡ 0) ⊎ (length t ≡ 0) → n ≡ count_rows f a b
  unfolding count_rows
  counted e = let z = ends r t e in omega (arith, s.rest)
    where
      ends : (r t : List ℕ) → (length r ≡ 0) ⊎ (length t ≡ 0) → count_rows f r t ≡ 0
      ends [] t e = refl
      ends (x ∷ r) [] e = refl
      ends (x ∷ r) (y ∷ t) (inl e) = absurd (omega arith)
      ends (x ∷ r) (y ∷ t) (inr e) = absurd (omega arith)

-- which of two rows comes first does not matter to the scans that both have
both_turned : (x y : ℕ) → both_have x y ≡ both_have y x
both_turned x y = go (eqb x 0) (eqb y 0)
  where
    go : (p q : Bool) → ◌≡◌ {A = ℕ} (cond p 0 (cond q 0 1)) (cond q 0 (cond p 0 1))
    go true true = refl
    go true false = refl
    go false true = refl
    go false false = refl

pub shared-turned : (a b : List ℕ) → shared_rows a b ≡ shared_rows b a
unfolding count_rows
shared-turned [] [] = refl
shared-turned [] (y ∷ b) = refl
shared-turned (x ∷ a) [] = refl
shared-turned (x ∷ a) (y ∷ b) = λ i. both_turned x y i + shared-turned a b i

-- ---- merged rows that are another

-- where no scan is shared both forms of a merge are one row
slot_same : (x y : ℕ) → both_have x y ≡ 0 → kept_slot true x y ≡ kept_slot false x y
slot_same x y h = go (eqb x 0) (eqb y 0) h
  where
    go : (p q : Bool) → ◌≡◌ {A = ℕ} (cond p 0 (cond q 0 1)) 0 → cond p y (cond q x x) ≡ cond p y (cond q x y)
    go true q h = refl
    go false true h = refl
    go false false h = absurd (omega arith)

pub merged_same : (a b : List ℕ) → shared_rows a b ≡ 0 → merged_row true a b ≡ merged_row false a b
unfolding merged_row count_rows
merged_same [] b h = refl
merged_same (x ∷ a) [] h = refl
merged_same (x ∷ a) (y ∷ b) h = λ i. slot_same x y (omega arith) i ∷ merged_same a b (omega arith) i

-- where the other has no scan that the keeper has not, its own row stays
slot_own : (x y : ℕ) → only_has y x ≡ 0 → kept_slot true x y ≡ x
slot_own x y h = go (eqb x 0) (eqb y 0) (eqb-true x 0) (eqb-true y 0) h
  where
    go : (p q : Bool) → (p ≡ true → x ≡ 0) → (q ≡ true → y ≡ 0) → ◌≡◌ {A = ℕ} (cond q 0 (cond p 1 0)) 0 → cond p y (cond q x x) ≡ x
    go true true f g h = omega (arith, f refl, g refl)
    go true false f g h = absurd (omega arith)
    go false true f g h = refl
    go false false f g h = refl

pub merged_own : (a b : List ℕ) → alone_rows b a ≡ 0 → merged_row true a b ≡ a
unfolding merged_row count_rows
merged_own [] b h = refl
merged_own (x ∷ a) [] h = refl
merged_own (x ∷ a) (y ∷ b) h = λ i. slot_own x y (omega arith) i ∷ merged_own a b (omega arith) i

-- and where the keeper has no scan that the other has not, the other's takes its place
slot_other : (x y : ℕ) → only_has x y ≡ 0 → kept_slot false x y ≡ y
slot_other x y h = go (eqb x 0) (eqb y 0) h
  where
    go : (p q : Bool) → ◌≡◌ {A = ℕ} (cond p 0 (cond q 1 0)) 0 → cond p y (cond q x y) ≡ y
    go true q h = refl
    go false true h = absurd (omega arith)
    go false false h = refl

pub merged_other : (a b : List ℕ) → length a ≡ length b → alone_rows a b ≡ 0 → merged_row false a b ≡ b
unfolding merged_row count_rows
merged_other [] [] l h = refl
merged_other [] (y ∷ b) l h = absurd (omega arith)
merged_other (x ∷ a) [] l h = absurd (omega arith)
merged_other (x ∷ a) (y ∷ b) l h = λ i. slot_other x y (omega arith) i ∷ merged_other a b (omega arith) (omega arith) i
