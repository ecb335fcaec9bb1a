-- Lists that agree in part: there they say the same, and one that agrees outside of a place is the other one written
-- over there. Assumes nothing.
use Prim.Native.Nat.{ℕ, ◌+◌, ◌-◌, ◌≤◌, ◌<◌, min}
use native.Mathlib.Nat.{zero-add}
use native.Mathlib.Omega.{arith}
use mathlib.Core.Path.{◌≡◌, sym, ap, ◌∙◌}
use mathlib.Core.List.{List, ◌++◌, append-nil, append_assoc}
use lib.ListN.{length, take, drop, get_or, replicate, length-append, length-take, length-drop, take-append-drop}
use lib.Seq.{length-take-le, drop_at, drop-drop, get_or-take, get_or-drop, ext_get_or}
use Rattle.std.proofs.lemmas.List.{length-replicate, drop_all}
use Rattle.buffers.specs.Buffers.{over, cleared, renewed}
use Rattle.buffers.proofs.Over.{length_over}
use Rattle.buffers.proofs.Apart.{Among, one, none, among, over_one, over_other, renewed_by}

module _ {A : Type 0} where
  -- parts that agree
  pub part_same : (d : A) (k l : List A) (o n : ℕ) → length k ≡ length l → ((i : ℕ) → i < n → get_or k (o + i) d ≡ get_or l (o + i) d) → take n (drop o k) ≡ take n (drop o l)
  part_same d k l o n e h = ext_get_or d (take n (drop o k)) (take n (drop o l)) (long k ∙ ap (λ (m : ℕ). min n (m - o)) e ∙ sym (long l)) (λ i q. at i (few i q))
    where
      long : (l : List A) → length (take n (drop o l)) ≡ min n (length l - o)
      long l = length-take n (drop o l) ∙ ap (λ (m : ℕ). min n m) (length-drop o l)

      few : (i : ℕ) → i < length (take n (drop o k)) → i < n
      few i q = omega (arith, long k)

      at : (i : ℕ) → i < n → get_or (take n (drop o k)) i d ≡ get_or (take n (drop o l)) i d
      at i q = get_or-take n (drop o k) i d q ∙ get_or-drop o k i d ∙ h i q ∙ sym (get_or-take n (drop o l) i d q ∙ get_or-drop o l i d)

  -- a list k that holds g from place o on, and agrees with l elsewhere
  pub over_told :
      (d : A) (o : ℕ) (g l k : List A) → o + length g ≤ length l → length k ≡ length l → ((i : ℕ) → i < length g → get_or k (o + i) d ≡ get_or g i d) →
      ((i : ℕ) → (o ≤ i → i < o + length g → ⊥) → get_or k i d ≡ get_or l i d) → k ≡ over o g l
  over_told d o g l k fits long here else = ext_get_or d k (over o g l) (long ∙ sym (length_over o g l fits)) (λ i q. cell i (among o (length g) i))
    where
      cell : (i : ℕ) → Among o (length g) i → get_or k i d ≡ get_or (over o g l) i d
      cell i (one a b) =
          let e : i ≡ o + (i - o) = omega arith in
          ap (λ (n : ℕ). get_or k n d) e ∙ here (i - o) (omega arith) ∙ sym (over_one o g l fits i d a b)
      cell i (none h) = else i h ∙ sym (over_other o g l fits i d h)

  -- ---- lists that agree past a place

  -- and so past a later one
  pub drop_later : (k l : List A) (m n : ℕ) → m ≤ n → drop m k ≡ drop m l → drop n k ≡ drop n l
  drop_later k l m n h e =
      let f : m + (n - m) ≡ n = omega arith in
      let by : (x : List A) → drop n x ≡ drop (n - m) (drop m x) = λ x. ap (λ (i : ℕ). drop i x) (sym f) ∙ sym (drop-drop (n - m) m x) in
      by k ∙ ap (drop (n - m)) e ∙ sym (by l)

  -- past what was written
  pub drop_over : (o : ℕ) (g l : List A) → o + length g ≤ length l → (n : ℕ) → o + length g ≤ n → drop n (over o g l) ≡ drop n l
  unfolding over
  drop_over o g l fits n h =
      let m : ℕ = o + length g in
      let a : length (take o l) ≡ o = length-take-le o l (omega arith) in
      let b : length (take o l ++ g) ≡ m = omega (arith, length-append (take o l) g) in
      drop_later (over o g l) l m n h (ap (drop m) (sym (append_assoc (take o l) g (drop m l))) ∙ drop_at (take o l ++ g) (drop m l) m b)

  module _ (zero : A) where
    -- what is past n cells says all that is left of a list where these are written anew
    pub renewed_past : (n : ℕ) (g k l : List A) → drop n k ≡ drop n l → renewed zero n g k ≡ renewed zero n g l
    unfolding over
    renewed_past n g k l e =
        let c : List A = replicate n zero in
        let f : 0 + length c ≡ n = omega (arith, length-replicate n zero) in
        ap (λ r. over 0 g (c ++ r)) (ap (λ (i : ℕ). drop i k) f ∙ e ∙ ap (λ (i : ℕ). drop i l) (sym f))

    -- and where as much is written over its front, what was there before is gone
    pub renewed_again : (n : ℕ) (g h k l : List A) → length h ≡ n → k ≡ over 0 h l → renewed zero n g k ≡ renewed zero n g l
    unfolding over
    renewed_again n g h k l a e =
        let q : 0 + length h ≡ n = zero-add (length h) ∙ a in
        renewed_past n g k l (ap (drop n) e ∙ drop_at h (drop (0 + length h) l) n a ∙ ap (λ (i : ℕ). drop i l) q)

    -- g stands at the front of the list k, and the others of its first n cells are cleared
    pub cleared_behind :
        (n : ℕ) (g k l : List A) → length g ≤ n → n ≤ length k → take (length g) k ≡ g → drop n k ≡ drop n l →
        cleared zero (length g) (n - length g) k ≡ renewed zero n g l
    unfolding over
    cleared_behind n g k l few fits front rest =
        let stands : k ≡ over 0 g k =
        sym (take-append-drop (length g) k) ∙ ap (λ r. r ++ drop (length g) k) front ∙ ap (λ (i : ℕ). g ++ drop i k) (sym (zero-add (length g))) in
        ap (cleared zero (length g) (n - length g)) stands ∙ renewed_by zero n g k few fits ∙ renewed_past n g k l rest

    -- all of a list, cleared
    pub cleared_all : (n : ℕ) (l : List A) → length l ≡ n → cleared zero 0 n l ≡ replicate n zero
    unfolding over
    cleared_all n l h =
        ap (λ r. replicate n zero ++ r) (drop_all (0 + length (replicate n zero)) l (omega (arith, length-replicate n zero)))
        ∙ append-nil (replicate n zero)
