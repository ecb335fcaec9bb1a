-- A list written over another one: how long the whole is, and what stands where. Assumes nothing.
use Prim.Native.Nat.{ℕ, ◌+◌, ◌-◌, ◌≤◌, ◌<◌}
use mathlib.Core.Path.{◌≡◌, sym, ap, ◌∙◌}
use mathlib.Core.List.{List, ◌++◌, append_assoc}
use native.Mathlib.Omega.{arith}
use lib.ListN.{length, take, drop, get_or, length-append, length-drop, get_or-append}
use lib.Seq.{length-take-le, take_at, drop_at, drop-drop, get_or-append-add, get_or-take, get_or-drop}
use Rattle.buffers.specs.Buffers.{over}

module _ {A : Type 0} where
  module _ (o : ℕ) (g l : List A) (h : o + length g ≤ length l) where
    pub length_over : length (over o g l) ≡ length l
    unfolding over
    length_over =
        let a : length (take o l) ≡ o = length-take-le o l (omega arith) in
        let b : length (drop (o + length g) l) ≡ length l - (o + length g) = length-drop (o + length g) l in
        omega (arith, length-append (take o l) (g ++ drop (o + length g) l), length-append g (drop (o + length g) l))

    pub over-before : (i : ℕ) (d : A) → i < o → get_or (over o g l) i d ≡ get_or l i d
    unfolding over
    over-before i d q =
        let a : length (take o l) ≡ o = length-take-le o l (omega arith) in
        get_or-append (take o l) (g ++ drop (o + length g) l) d i (omega arith) ∙ get_or-take o l i d q

    pub over_in : (i : ℕ) (d : A) → i < length g → get_or (over o g l) (o + i) d ≡ get_or g i d
    unfolding over
    over_in i d q =
        let a : length (take o l) ≡ o = length-take-le o l (omega arith) in
        ap (λ (n : ℕ). get_or (take o l ++ (g ++ drop (o + length g) l)) (n + i) d) (sym a)
        ∙ get_or-append-add (take o l) (g ++ drop (o + length g) l) i d
        ∙ get_or-append g (drop (o + length g) l) d i q

    past : (k : ℕ) (d : A) → get_or (over o g l) (o + (length g + k)) d ≡ get_or l (o + length g + k) d
    unfolding over
    past k d =
        let a : length (take o l) ≡ o = length-take-le o l (omega arith) in
        ap (λ (n : ℕ). get_or (take o l ++ (g ++ drop (o + length g) l)) (n + (length g + k)) d) (sym a)
        ∙ get_or-append-add (take o l) (g ++ drop (o + length g) l) (length g + k) d
        ∙ get_or-append-add g (drop (o + length g) l) k d
        ∙ get_or-drop (o + length g) l k d

    pub over_after : (i : ℕ) (d : A) → o + length g ≤ i → get_or (over o g l) i d ≡ get_or l i d
    over_after i d q =
        let k : ℕ = i - (o + length g) in
        let e : i ≡ o + (length g + k) = omega arith in
        let f : o + length g + k ≡ i = omega arith in
        ap (λ (n : ℕ). get_or (over o g l) n d) e ∙ past k d ∙ ap (λ (n : ℕ). get_or l n d) f

    -- one after the other is one
    pub over-more : (k : List A) → over (o + length g) k (over o g l) ≡ over o (g ++ k) l
    unfolding over
    over-more k =
        let p : List A = take o l ++ g in
        let a : length (take o l) ≡ o = length-take-le o l (omega arith) in
        let b : length p ≡ o + length g = omega (arith, length-append (take o l) g) in
        let r : List A = drop (o + length g) l in
        let e : take o l ++ (g ++ r) ≡ p ++ r = sym (append_assoc (take o l) g r) in
        let t : take (o + length g) (p ++ r) ≡ p = take_at p r (o + length g) b in
        let u : drop (o + length g) (p ++ r) ≡ r = drop_at p r (o + length g) b in
        let f : o + length g + length k ≡ o + length (g ++ k) = omega (arith, length-append g k) in
        let w : drop (o + length g + length k) (p ++ r) ≡ drop (o + length (g ++ k)) l =
        sym (drop-drop (length k) (o + length g) (p ++ r)) ∙ ap (drop (length k)) u ∙ drop-drop (length k) (o + length g) l ∙ ap (λ (n : ℕ). drop n l) f in
        rw (e, t, w) (append_assoc (take o l) g (k ++ drop (o + length (g ++ k)) l) ∙ ap (λ (x : List A). take o l ++ x) (sym (append_assoc g k (drop (o + length (g ++ k)) l))))
