-- Writes over a list beside one another, over one another, and over a list that is clear: what the whole is. Assumes
-- nothing.
use Prim.Native.Nat.{ℕ, ◌+◌, ◌-◌, ◌≤◌, ◌<◌, min}
use mathlib.Core.Path.{◌≡◌, sym, ap, ◌∙◌}
use mathlib.Core.Logic.{◌⊎◌, inl, inr}
use mathlib.Core.List.{List, ◌++◌}
use native.Mathlib.Decide.{dec_lt}
use native.Mathlib.Nat.{zero-add}
use native.Mathlib.Omega.{arith}
use lib.ListN.{length, get_or, take, drop, replicate, length-take, length-drop, length-replicate, get_or-replicate}
use lib.Seq.{length-take-le, drop_at, take-append_seam, get_or-take, get_or-drop}
use Rattle.std.proofs.lemmas.List.{same_lists, drop-replicate}
use Rattle.buffers.specs.Buffers.{over, cleared, renewed}
use Rattle.buffers.proofs.Over.{length_over, over-before, over_in, over_after, over-more}

-- a place is one of n from o on, or none of them
pub data Among (o n i : ℕ) : Type 0 where
  one : o ≤ i → i < o + n → Among o n i
  none : (o ≤ i → i < o + n → ⊥) → Among o n i

pub among : (o n i : ℕ) → Among o n i
among o n i = go (dec_lt i o) (dec_lt i (o + n))
  where
    go : Dec (i < o) → Dec (i < o + n) → Among o n i
    go (yes a) b = none (λ c d. omega arith)
    go (no a) (yes b) = one (omega arith) b
    go (no a) (no b) = none (λ c d. b d)

module _ {A : Type 0} where
  -- ---- a cell of what was written, and one beside it

  module _ (o : ℕ) (g l : List A) (fits : o + length g ≤ length l) (i : ℕ) (d : A) where
    pub over_one : o ≤ i → i < o + length g → get_or (over o g l) i d ≡ get_or g (i - o) d
    over_one h k =
        let e : i ≡ o + (i - o) = omega arith in
        ap (λ (n : ℕ). get_or (over o g l) n d) e ∙ over_in o g l fits (i - o) d (omega arith)

    pub over_other : (o ≤ i → i < o + length g → ⊥) → get_or (over o g l) i d ≡ get_or l i d
    over_other h = go (dec_lt i o)
      where
        go : Dec (i < o) → get_or (over o g l) i d ≡ get_or l i d
        go (yes a) = over-before o g l fits i d a
        go (no a) = go' (dec_lt i (o + length g))
          where
            go' : Dec (i < o + length g) → get_or (over o g l) i d ≡ get_or l i d
            go' (yes b) = absurd (h (omega arith) b)
            go' (no b) = over_after o g l fits i d (omega arith)

  -- what was written, read back
  pub part_here : (o : ℕ) (g l : List A) → o ≤ length l → take (length g) (drop o (over o g l)) ≡ g
  unfolding over
  part_here o g l h =
      ap (take (length g)) (drop_at (take o l) (g ++ drop (o + length g) l) o (length-take-le o l h))
      ∙ take-append_seam g (drop (o + length g) l)

  -- a part beside what was written
  module _ (o : ℕ) (g l : List A) (fits : o + length g ≤ length l) (p n : ℕ) where
    pub part_other : (p + n ≤ o) ⊎ (o + length g ≤ p) → take n (drop p (over o g l)) ≡ take n (drop p l)
    part_other beside =
        same_lists (take n (drop p (over o g l))) (take n (drop p l)) (long (over o g l) ∙ ap (λ (k : ℕ). min n (k - p)) (length_over o g l fits) ∙ sym (long l))
        (λ i d q. cell i d (omega (arith, long (over o g l))))
      where
        long : (k : List A) → length (take n (drop p k)) ≡ min n (length k - p)
        long k = length-take n (drop p k) ∙ ap (λ (j : ℕ). min n j) (length-drop p k)

        none : (i : ℕ) → i < n → (p + n ≤ o) ⊎ (o + length g ≤ p) → o ≤ p + i → p + i < o + length g → ⊥
        none i h (inl a) b c = omega arith
        none i h (inr a) b c = omega arith

        cell : (i : ℕ) (d : A) → i < n → get_or (take n (drop p (over o g l))) i d ≡ get_or (take n (drop p l)) i d
        cell i d h =
            get_or-take n (drop p (over o g l)) i d h
            ∙ get_or-drop p (over o g l) i d
            ∙ over_other o g l fits (p + i) d (none i h beside)
            ∙ sym (get_or-take n (drop p l) i d h ∙ get_or-drop p l i d)

  -- ---- two writes

  module _ (o p : ℕ) (g h l : List A) where
    -- apart, in any order
    pub over_apart : o + length g ≤ p → p + length h ≤ length l → over o g (over p h l) ≡ over p h (over o g l)
    over_apart a b = same_lists (over o g (over p h l)) (over p h (over o g l)) (m ∙ sym n) (λ i d q. cell i d (among o (length g) i) (among p (length h) i))
      where
        fits : o + length g ≤ length l
        fits = omega arith

        first : o + length g ≤ length (over p h l)
        first = omega (arith, length_over p h l b)

        second : p + length h ≤ length (over o g l)
        second = omega (arith, length_over o g l fits)

        m : length (over o g (over p h l)) ≡ length l
        m = length_over o g (over p h l) first ∙ length_over p h l b

        n : length (over p h (over o g l)) ≡ length l
        n = length_over p h (over o g l) second ∙ length_over o g l fits

        cell : (i : ℕ) (d : A) → Among o (length g) i → Among p (length h) i → get_or (over o g (over p h l)) i d ≡ get_or (over p h (over o g l)) i d
        cell i d (one x y) z =
            over_one o g (over p h l) first i d x y ∙ sym (over_other p h (over o g l) second i d (λ u v. omega arith) ∙ over_one o g l fits i d x y)
        cell i d (none x) (one u v) =
            over_other o g (over p h l) first i d x ∙ over_one p h l b i d u v ∙ sym (over_one p h (over o g l) second i d u v)
        cell i d (none x) (none y) =
            over_other o g (over p h l) first i d x
            ∙ over_other p h l b i d y
            ∙ sym (over_other p h (over o g l) second i d y ∙ over_other o g l fits i d x)

    -- what was written within g's place is lost
    pub over_covered : o ≤ p → p + length h ≤ o + length g → o + length g ≤ length l → over o g (over p h l) ≡ over o g l
    over_covered a b c =
        same_lists (over o g (over p h l)) (over o g l) (length_over o g (over p h l) first ∙ length_over p h l fits ∙ sym (length_over o g l c))
        (λ i d q. cell i d (among o (length g) i))
      where
        fits : p + length h ≤ length l
        fits = omega arith

        first : o + length g ≤ length (over p h l)
        first = omega (arith, length_over p h l fits)

        cell : (i : ℕ) (d : A) → Among o (length g) i → get_or (over o g (over p h l)) i d ≡ get_or (over o g l) i d
        cell i d (one x y) = over_one o g (over p h l) first i d x y ∙ sym (over_one o g l c i d x y)
        cell i d (none x) =
            over_other o g (over p h l) first i d x
            ∙ over_other p h l fits i d (λ u v. x (omega arith) (omega arith))
            ∙ sym (over_other o g l c i d x)

  -- h within g, after g
  pub over_within : (o j : ℕ) (g h l : List A) → j + length h ≤ length g → o + length g ≤ length l → over (o + j) h (over o g l) ≡ over o (over j h g) l
  over_within o j g h l a b =
      same_lists (over (o + j) h (over o g l)) (over o (over j h g) l) (length_over (o + j) h (over o g l) first ∙ length_over o g l b ∙ sym (length_over o (over j h g) l second))
      (λ i d q. cell i d (among o (length g) i) (among (o + j) (length h) i))
    where
      long : length (over j h g) ≡ length g
      long = length_over j h g a

      first : o + j + length h ≤ length (over o g l)
      first = omega (arith, length_over o g l b)

      second : o + length (over j h g) ≤ length l
      second = omega (arith, long)

      cell : (i : ℕ) (d : A) → Among o (length g) i → Among (o + j) (length h) i → get_or (over (o + j) h (over o g l)) i d ≡ get_or (over o (over j h g) l) i d
      cell i d x (one u v) =
          let e : i - (o + j) ≡ i - o - j = omega arith in
          over_one (o + j) h (over o g l) first i d u v
          ∙ ap (λ (n : ℕ). get_or h n d) e
          ∙ sym (over_one o (over j h g) l second i d (omega arith) (omega (arith, long)) ∙ over_one j h g a (i - o) d (omega arith) (omega arith))
      cell i d (one x y) (none u) =
          over_other (o + j) h (over o g l) first i d u
          ∙ over_one o g l b i d x y
          ∙ sym (over_one o (over j h g) l second i d x (omega (arith, long)) ∙ over_other j h g a (i - o) d (λ s t. u (omega arith) (omega arith)))
      cell i d (none x) (none u) =
          over_other (o + j) h (over o g l) first i d u
          ∙ over_other o g l b i d x
          ∙ sym (over_other o (over j h g) l second i d (λ s t. x s (omega (arith, long))))

  -- what stands there already
  pub over_same : (o : ℕ) (g l : List A) → o + length g ≤ length l → ((i : ℕ) (d : A) → i < length g → get_or l (o + i) d ≡ get_or g i d) → over o g l ≡ l
  over_same o g l fits same = same_lists (over o g l) l (length_over o g l fits) (λ i d q. cell i d (among o (length g) i))
    where
      cell : (i : ℕ) (d : A) → Among o (length g) i → get_or (over o g l) i d ≡ get_or l i d
      cell i d (one x y) =
          let e : o + (i - o) ≡ i = omega arith in
          over_one o g l fits i d x y ∙ sym (same (i - o) d (omega arith)) ∙ ap (λ (n : ℕ). get_or l n d) e
      cell i d (none x) = over_other o g l fits i d x

  -- ---- a list that is clear

  module _ (z : A) where
    -- clearing keeps it so
    pub clear_stays : (o k n : ℕ) → o + k ≤ n → cleared z o k (replicate n z) ≡ replicate n z
    clear_stays o k n fits =
        let a = length-replicate k z in
        let b = length-replicate n z in
        over_same o (replicate k z) (replicate n z) (omega (arith, a, b))
        (λ i d q. get_or-replicate n (o + i) z d (omega (arith, a)) ∙ sym (get_or-replicate k i z d (omega (arith, a))))

    -- what was written is lost where as much is cleared
    module _ (o k : ℕ) (g l : List A) (few : length g ≤ k) (fits : o + k ≤ length l) where
      pub cleared_over : cleared z o k (over o g l) ≡ cleared z o k l
      cleared_over = let a = length-replicate k z in over_covered o o (replicate k z) g l (omega arith) (omega (arith, a)) (omega (arith, a))

    -- what was written into it, cleared
    pub clear_again : (o k n : ℕ) (g : List A) → length g ≤ k → o + k ≤ n → cleared z o k (over o g (replicate n z)) ≡ replicate n z
    clear_again o k n g few fits = let b = length-replicate n z in cleared_over o k g (replicate n z) few (omega (arith, b)) ∙ clear_stays o k n fits

    -- ---- the front of a list, written anew

    -- over a front that had no more cells in use, in a list that was clear
    pub renewed_laid : (n m : ℕ) (g h : List A) → length h ≤ n → n ≤ m → renewed z n g (over 0 h (replicate m z)) ≡ over 0 g (replicate m z)
    renewed_laid n m g h few fits = ap (over 0 g) (clear_again 0 n m h few (omega arith))

    module _ (n : ℕ) (g l : List A) where
      -- the front is written, and the rest of what was in use cleared
      pub renewed_by : length g ≤ n → n ≤ length l → cleared z (length g) (n - length g) (over 0 g l) ≡ renewed z n g l
      unfolding over
      renewed_by few fits =
          let a = length-replicate n z in
          let k : List A = replicate (n - length g) z in
          let e : over 0 g (replicate n z) ≡ g ++ k = ap (λ (m : ℕ). g ++ drop m (replicate n z)) (zero-add (length g)) ∙ ap (λ m. g ++ m) (drop-replicate (length g) n z) in
          ap (λ (m : ℕ). over m k (over 0 g l)) (sym (zero-add (length g)))
          ∙ over-more 0 g l (omega arith) k
          ∙ ap (λ m. over 0 m l) (sym e)
          ∙ sym (over_within 0 0 (replicate n z) g l (omega (arith, a)) (omega (arith, a)))
