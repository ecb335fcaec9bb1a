-- Parts of a list, and a part of a list changed. Assumes nothing.
use mathlib.Core.Path.{◌≡◌, refl, sym, ap, ◌∙◌}
use mathlib.Core.List.{List, [], ◌∷◌, ◌++◌, map, append_assoc, append-nil}
use Prim.Native.Nat.{ℕ, zero, suc, ◌+◌, ◌-◌, ◌≤◌, ◌<◌}
use native.Mathlib.Numerals.{add-one}
use native.Mathlib.Omega.{arith}
use lib.ListN.{length, get_or, take, drop, set, length-append, length-drop, length-map, drop_of_length-le}
use native.Mathlib.Nat.{sub-zero, zero-sub, suc-sub-suc}
use lib.Seq.{take_all, length-take-le, take-nil, take-suc, take_at, take-take, take-append-le, drop-cons, drop_at, drop-drop, get_or-drop, set_at, append_snoc, get_or_at}
use Rattle.fgo_spec.specs.Lists.{segment}
use Rattle.search_rows.specs.Moves.{map_over}

module _ {A : Type 0} where
  pub segment_none : (a b : ℕ) (l : List A) → b ≤ a → segment a b l ≡ []
  segment_none a b l h = let z : b - a ≡ 0 = omega arith in rw z

  pub length-segment : (a b : ℕ) (l : List A) → b ≤ length l → length (segment a b l) ≡ b - a
  length-segment a b l h = length-take-le (b - a) (drop a l) (omega (arith, length-drop a l))

  -- one entry more at the end
  pub segment-more : (a b : ℕ) (l : List A) (z : A) → a ≤ b → b < length l → segment a (b + 1) l ≡ segment a b l ++ (get_or l b z ∷ [])
  segment-more a b l z h g =
      let e : b + 1 - a ≡ suc (b - a) = omega arith in
      let q : a + (b - a) ≡ b = omega arith in
      ap (λ (n : ℕ). take n (drop a l)) e
      ∙ take-suc (drop a l) (b - a) z (omega (arith, length-drop a l))
      ∙ ap (λ (x : A). segment a b l ++ (x ∷ [])) (get_or-drop a l (b - a) z ∙ ap (λ (n : ℕ). get_or l n z) q)

  -- the same part, cut off at its end first
  pub segment_cut : (a b : ℕ) (l : List A) → segment a b l ≡ drop a (take b l)
  segment_cut zero b l = ap (λ (n : ℕ). take n l) (sub-zero b)
  segment_cut (suc a) zero l = ap (λ (n : ℕ). take n (drop (suc a) l)) (zero-sub (suc a))
  segment_cut (suc a) (suc b) [] = take-nil (suc b - suc a)
  segment_cut (suc a) (suc b) (x ∷ l) = ap (λ (n : ℕ). take n (drop a l)) (suc-sub-suc b a) ∙ segment_cut a b l

-- ---- a part of a list replaced by another list of its length

module _ {A : Type 0} (a b : ℕ) (e l : List A) (from : a ≤ b) (within : b ≤ length l) (fits : length e ≡ b - a) where
  splice-head : length (take a l ++ e) ≡ b
  splice-head = omega (arith, length-append (take a l) e, length-take-le a l (omega arith))

  pub splice_length : length (take a l ++ (e ++ drop b l)) ≡ length l
  splice_length = ap length (sym (append_assoc (take a l) e (drop b l))) ∙ omega (arith, length-append (take a l ++ e) (drop b l), splice-head, length-drop b l)

  -- a part before it, the part itself, and a part after it
  pub splice_before : (c d : ℕ) → d ≤ a → segment c d (take a l ++ (e ++ drop b l)) ≡ segment c d l
  splice_before c d h =
      segment_cut c d (take a l ++ (e ++ drop b l))
      ∙ ap (drop c) (take-append-le d (take a l) (e ++ drop b l) (omega (arith, length-take-le a l (omega arith))) ∙ take-take d a l h)
      ∙ sym (segment_cut c d l)

  pub splice_at : segment a b (take a l ++ (e ++ drop b l)) ≡ e
  splice_at = ap (take (b - a)) (drop_at (take a l) (e ++ drop b l) a (length-take-le a l (omega arith))) ∙ take_at e (drop b l) (b - a) fits

  pub splice_after : (c d : ℕ) → b ≤ c → segment c d (take a l ++ (e ++ drop b l)) ≡ segment c d l
  splice_after c d h =
      let n : b + (c - b) ≡ c = omega arith in
      let r = take a l ++ (e ++ drop b l) in
      ap (take (d - c))
      (ap (λ (k : ℕ). drop k r) (sym n)
      ∙ sym (drop-drop (c - b) b r)
      ∙ ap (drop (c - b)) (ap (drop b) (sym (append_assoc (take a l) e (drop b l))) ∙ drop_at (take a l ++ e) (drop b l) b splice-head)
      ∙ drop-drop (c - b) b l
      ∙ ap (λ (k : ℕ). drop k l) n)

-- ---- the entries from a up to b changed

pub changed_length : (f : ℕ → ℕ) (a b : ℕ) (l : List ℕ) → b ≤ length l → length (map f (segment a b l)) ≡ b - a
changed_length f a b l h = length-map (segment a b l) f ∙ length-segment a b l h

map_snoc : (f : ℕ → ℕ) (l : List ℕ) (x : ℕ) → map f (l ++ (x ∷ [])) ≡ map f l ++ (f x ∷ [])
map_snoc f [] x = refl
map_snoc f (y ∷ l) x = ap (λ (r : List ℕ). f y ∷ r) (map_snoc f l x)

-- all of them
pub over_all : (f : ℕ → ℕ) (i : ℕ) (l : List ℕ) → length l ≤ i → map_over f 0 i l ≡ map f l
over_all f i l h = rw (sub-zero i, take_all i l h, drop_of_length-le l {i = i} h) (append-nil (map f l))

-- a part changed as a list of its own
pub over_part : (f : ℕ → ℕ) (a b : ℕ) (l : List ℕ) → a ≤ b → take a l ++ (map f (segment a b l) ++ drop (b - a) (drop a l)) ≡ map_over f a b l
over_part f a b l h =
    let e : a + (b - a) ≡ b = omega arith in
    ap (λ (r : List ℕ). take a l ++ (map f (segment a b l) ++ r)) (drop-drop (b - a) a l ∙ ap (λ (n : ℕ). drop n l) e)

module _ (f : ℕ → ℕ) (a i : ℕ) (l : List ℕ) (from : a ≤ i) (within : i < length l) where
  abbrev front : List ℕ
  front = take a l ++ map f (segment a i l)

  front_length : length front ≡ i
  front_length = splice-head a i (map f (segment a i l)) l from (omega arith) (changed_length f a i l (omega arith))

  over-split : map_over f a i l ≡ front ++ (get_or l i 0 ∷ drop (suc i) l)
  over-split = sym (append_assoc (take a l) (map f (segment a i l)) (drop i l)) ∙ ap (λ (r : List ℕ). front ++ r) (drop-cons l i 0 within)

  -- what stands at i is still the old entry
  over-old : get_or (map_over f a i l) i 0 ≡ get_or l i 0
  over-old = ap (λ (r : List ℕ). get_or r i 0) over-split ∙ get_or_at front (get_or l i 0) (drop (suc i) l) 0 i front_length

  over-more : set (map_over f a i l) i (f (get_or l i 0)) ≡ map_over f a (i + 1) l
  over-more =
      let y = get_or l i 0 in
      let rest = drop (suc i) l in
      ap (λ (r : List ℕ). set r i (f y)) over-split
      ∙ set_at front y rest (f y) i front_length
      ∙ sym (append_snoc front (f y) rest)
      ∙ ap (λ (r : List ℕ). r ++ rest) (append_assoc (take a l) (map f (segment a i l)) (f y ∷ []))
      ∙ ap (λ (r : List ℕ). (take a l ++ r) ++ rest) (sym (map_snoc f (segment a i l) y) ∙ ap (map f) (sym (segment-more a i l 0 from within)))
      ∙ append_assoc (take a l) (map f (segment a (i + 1) l)) rest
      ∙ ap (λ (n : ℕ). take a l ++ (map f (segment a (i + 1) l) ++ drop n l)) (sym (add-one i))

  -- one turn of a loop that changes entry after entry
  pub over_turn : (r : List ℕ) (v : ℕ) → r ≡ map_over f a i l → v ≡ f (get_or r i 0) → set r i v ≡ map_over f a (i + 1) l
  over_turn r v e q =
      ap (λ (s : List ℕ). set s i v) e ∙ ap (set (map_over f a i l) i) (q ∙ ap f (ap (λ (s : List ℕ). get_or s i 0) e ∙ over-old)) ∙ over-more
