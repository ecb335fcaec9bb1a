-- Lists that a loop fills: one number after the other, or a matrix row by row or column by column. Assumes nothing.
use mathlib.Core.Path.{◌≡◌, refl, sym, ap, ap₂, ◌∙◌}
use mathlib.Core.Bool.{cond}
use mathlib.Core.List.{List, [], ◌∷◌, ◌++◌}
use Prim.Native.Nat.{ℕ, zero, suc, ◌≤◌, ◌<◌, ◌+◌}
use native.Mathlib.Omega.{arith}
use native.Mathlib.Numerals.{add-one}
use lib.Dec.{ltb}
use lib.ListN.{length, get_or, take, set, length-set}
use lib.Seq.{take-suc, take-suc-set, take_all}
use Rattle.scalar.specs.Num.{Num}
use Rattle.linalg.specs.Grown.{tabulate}
use Rattle.linalg.specs.Matrix.{entry, vector, matrix}
use Rattle.linalg.specs.Rows.{put_row, put_column}

-- what holds at 0, .., 5 holds below 6
pub six : (P : ℕ → Type 0) → P 0 → P 1 → P 2 → P 3 → P 4 → P 5 → (i : ℕ) → i < 6 → P i
six P a b c d e f zero h = a
six P a b c d e f (suc zero) h = b
six P a b c d e f (suc (suc zero)) h = c
six P a b c d e f (suc (suc (suc zero))) h = d
six P a b c d e f (suc (suc (suc (suc zero)))) h = e
six P a b c d e f (suc (suc (suc (suc (suc zero))))) h = f
six P a b c d e f (suc (suc (suc (suc (suc (suc i)))))) h = absurd (omega arith)

-- out has size elements, of which the first n are f's
pub record Filled {A : Type 0} (f : ℕ → A) (size : ℕ) (out : List A) (n : ℕ) : Type 0 where
  pub within : n ≤ size
  pub long : length out ≡ size
  pub same : take n out ≡ tabulate f n

module _ {A : Type 0} {f : ℕ → A} {size : ℕ} {out : List A} where
  pub begun : length out ≡ size → Filled f size out 0
  unfolding tabulate
  begun e = record { within = omega arith; long = e; same = refl }

  pub next : {n : ℕ} {v : A} → Filled f size out n → n < size → v ≡ f n → Filled f size (set out n v) (n + 1)
  unfolding tabulate
  next {n} {v} g h e =
      let l : n < length out = omega (arith, g.long) in
      record { within = omega arith; long = length-set out n v ∙ g.long; same = rw add-one (take-suc-set out n v l ∙ rw (g.same, e)) }

  pub done : {n : ℕ} → Filled f size out n → size ≤ n → out ≡ tabulate f size
  done {n} g h =
      let e : n ≡ size = omega (arith, g.within) in
      sym (take_all n out (omega (arith, g.long))) ∙ g.same ∙ ap (tabulate f) e

-- a list by its elements
pub tabulated : {A : Type 0} (l : List A) (d : A) (n : ℕ) → length l ≡ n → l ≡ tabulate (λ k. get_or l k d) n
unfolding tabulate
tabulated l d n e = sym (take_all n l (omega (arith, e))) ∙ front n (omega (arith, e))
  where
    front : (m : ℕ) → m ≤ length l → take m l ≡ tabulate (λ k. get_or l k d) m
    front zero h = refl
    front (suc m) h = take-suc l m d h ∙ ap (λ t. t ++ (get_or l m d ∷ [])) (front m (omega arith))

module _ (N : Num) (f g : ℕ → ℕ → N.F) where
  -- the matrix whose rows before row n are f's, the others g's
  abbrev pub rows : ℕ → List N.F
  rows n = matrix N (λ i j. cond (ltb i n) (f i j) (g i j))

  -- and whose columns before column n are f's
  abbrev pub columns : ℕ → List N.F
  columns n = matrix N (λ i j. cond (ltb j n) (f i j) (g i j))

  one-row : (n : ℕ) → n < 6 → put_row N (rows n) n (vector N (f n)) ≡ rows (n + 1)
  unfolding tabulate
  one-row = six (λ n. put_row N (rows n) n (vector N (f n)) ≡ rows (n + 1)) refl refl refl refl refl refl

  one-row-up : (n : ℕ) → n < 6 → put_row N (rows (n + 1)) n (vector N (g n)) ≡ rows n
  unfolding tabulate
  one-row-up = six (λ n. put_row N (rows (n + 1)) n (vector N (g n)) ≡ rows n) refl refl refl refl refl refl

  one-column : (n : ℕ) → n < 6 → put_column N (columns n) n (vector N (λ i. f i n)) ≡ columns (n + 1)
  unfolding tabulate
  one-column = six (λ n. put_column N (columns n) n (vector N (λ i. f i n)) ≡ columns (n + 1)) refl refl refl refl refl refl

  pub record ByRows (out : List N.F) (n : ℕ) : Type 0 where
    pub within : n ≤ 6
    pub same : out ≡ rows n

  pub record ByColumns (out : List N.F) (n : ℕ) : Type 0 where
    pub within : n ≤ 6
    pub same : out ≡ columns n

-- no row is f's yet
pub no_row : (N : Num) (f : ℕ → ℕ → N.F) (out : List N.F) → length out ≡ 36 → ByRows N f (λ i j. entry N out i j) out 0
unfolding tabulate
no_row N f out e = record { within = omega arith; same = tabulated out N.past 36 e }

module _ {N : Num} {f g : ℕ → ℕ → N.F} {out : List N.F} where
  pub at_row : {m n : ℕ} → ByRows N f g out m → m ≡ n → out ≡ rows N f g n
  at_row r e = r.same ∙ ap (rows N f g) e

  pub next_row : {n : ℕ} {v out' : List N.F} → ByRows N f g out n → n < 6 → v ≡ vector N (f n) → out' ≡ put_row N out n v → ByRows N f g out' (n + 1)
  next_row {n} r h e p = record { within = omega arith; same = p ∙ ap₂ (λ m v. put_row N m n v) r.same e ∙ one-row N f g n h }

  pub all-rows : {n : ℕ} → ByRows N f g out n → 6 ≤ n → out ≡ matrix N f
  unfolding tabulate
  all-rows {n} r h = let e : n ≡ 6 = omega (arith, r.within) in at_row r e

  -- a matrix that is f's all over may be filled with g's, from the last row up
  pub turn : out ≡ matrix N f → ByRows N f g out 6
  unfolding tabulate
  turn e = record { within = omega arith; same = e }

  pub next_row_up : {m n : ℕ} {v out' : List N.F} → ByRows N f g out m → m ≡ n + 1 → v ≡ vector N (g n) → out' ≡ put_row N out n v → ByRows N f g out' n
  next_row_up {m} {n} r d e p =
      let h : n < 6 = omega (arith, r.within) in
      record { within = omega arith; same = p ∙ ap₂ (λ m v. put_row N m n v) (at_row r d) e ∙ one-row-up N f g n h }

  pub no_rows : {n : ℕ} → ByRows N f g out n → n ≤ 0 → out ≡ matrix N g
  unfolding tabulate
  no_rows {n} r h = let e : n ≡ 0 = omega arith in at_row r e

  pub next_column : {n : ℕ} {v out' : List N.F} → ByColumns N f g out n → n < 6 → v ≡ vector N (λ i. f i n) → out' ≡ put_column N out n v → ByColumns N f g out' (n + 1)
  next_column {n} r h e p = record { within = omega arith; same = p ∙ ap₂ (λ m v. put_column N m n v) r.same e ∙ one-column N f g n h }

  pub all-columns : {n : ℕ} → ByColumns N f g out n → 6 ≤ n → out ≡ matrix N f
  unfolding tabulate
  all-columns {n} r h = let e : n ≡ 6 = omega (arith, r.within) in r.same ∙ ap (columns N f g) e
