-- Slots of equal size, used in turn: lists in slots one after another, no more than there are slots. What stands where,
-- and what a write, a list more and a list less make of it. Assumes nothing.
use Prim.Native.Nat.{ℕ, zero, suc, ◌+◌, ◌*◌, ◌/◌, ◌%◌, ◌≤◌, ◌<◌}
use mathlib.Core.Path.{◌≡◌, refl, sym, ap, ◌∙◌}
use mathlib.Core.Logic.{◌⊎◌, inl, inr}
use mathlib.Core.List.{List, [], ◌∷◌, ◌++◌}
use native.Mathlib.Decide.{dec_lt}
use native.Mathlib.Nat.{mul-le-mul_right, suc-mul, add-zero, mod-lt, mod-mod, suc-mod, div-add-mod'}
use native.Mathlib.Omega.{arith}
use lib.ListN.{length, take, drop, get_or, replicate, length-replicate}
use Rattle.buffers.specs.Buffers.{over, cleared}
use Rattle.buffers.specs.Slots.{slotted}
use Rattle.buffers.proofs.Over.{length_over, over_in}
use Rattle.buffers.proofs.Apart.{part_here, part_other, over_apart, over_within, clear_again}

-- ---- numbers in a round

-- less than a round apart
pub apart_in_round : (n a b : ℕ) → a < b → b < a + n → a % n ≡ b % n → ⊥
apart_in_round n a b h k e = go (dec_lt (a / n) (b / n))
  where
    go : Dec (a / n < b / n) → ⊥
    go (yes l) =
        let q : suc (a / n) ≤ b / n = omega arith in
        omega (arith, rw suc-mul at (mul-le-mul_right n q), div-add-mod' a n, div-add-mod' b n)
    go (no l) =
        let q : b / n ≤ a / n = omega arith in
        omega (arith, mul-le-mul_right n q, div-add-mod' a n, div-add-mod' b n)

-- the first of some in a row is none of the others
pub first_in_round : (n a m : ℕ) → m < n → (i : ℕ) → i < m → a % n ≡ (suc a + i) % n → ⊥
first_in_round n a m h i k = apart_in_round n a (suc a + i) (omega arith) (omega arith)

-- no list is longer than a slot
abbrev pub Narrow : {A : Type 0} → ℕ → List (List A) → Type 0
Narrow wide [] = Unit {0}
Narrow wide (g ∷ gs) = (length g ≤ wide) × Narrow wide gs

module _ {A : Type 0} (wide : ℕ) where
  pub narrow_at : (gs : List (List A)) → Narrow wide gs → (i : ℕ) → i < length gs → length (get_or gs i []) ≤ wide
  narrow_at [] w i h = absurd (omega arith)
  narrow_at (g ∷ gs) w zero h = w.0
  narrow_at (g ∷ gs) w (suc i) h = narrow_at gs w.1 i (omega arith)

  pub narrow_more : (gs hs : List (List A)) → Narrow wide gs → Narrow wide hs → Narrow wide (gs ++ hs)
  narrow_more [] hs w v = v
  narrow_more (g ∷ gs) hs w v = (w.0, narrow_more gs hs w.1 v)

module _ (wide slots : ℕ) where
  -- where the slot of a number begins
  abbrev pub slot_from : ℕ → ℕ
  slot_from n = n % slots * wide

  -- of two slots one ends before the other begins
  pub slots_apart : (a b : ℕ) → (a ≡ b → ⊥) → (a * wide + wide ≤ b * wide) ⊎ (b * wide + wide ≤ a * wide)
  slots_apart a b h = go (dec_lt a b)
    where
      end : (a b : ℕ) → a < b → a * wide + wide ≤ b * wide
      end a b l = rw (suc-mul a wide) at (mul-le-mul_right wide l)

      go : Dec (a < b) → (a * wide + wide ≤ b * wide) ⊎ (b * wide + wide ≤ a * wide)
      go (yes l) = inl (end a b l)
      go (no l) = inr (end b a (omega arith))

  -- a slot ends within the array
  pub slot_room : (n : ℕ) → 0 < slots → slot_from n + wide ≤ slots * wide
  slot_room n some = rw (suc-mul (n % slots) wide) at (mul-le-mul_right wide (mod-lt n some))

  module _ {A : Type 0} where
    -- ---- a list more at the end

    pub slotted_more : (n : ℕ) (gs hs : List (List A)) (l : List A) → slotted wide slots n (gs ++ hs) l ≡ slotted wide slots (n + length gs) hs (slotted wide slots n gs l)
    unfolding slotted
    slotted_more n [] hs l = ap (λ (m : ℕ). slotted wide slots m hs l) (sym (add-zero n))
    slotted_more n (g ∷ gs) hs l =
        let e : suc n + length gs ≡ n + suc (length gs) = omega arith in
        slotted_more (suc n) gs hs (over (slot_from n) g l) ∙ ap (λ (m : ℕ). slotted wide slots m hs (slotted wide slots n (g ∷ gs) l)) e

    pub slotted_snoc : (n : ℕ) (gs : List (List A)) (g l : List A) → slotted wide slots n (gs ++ (g ∷ [])) l ≡ over (slot_from (n + length gs)) g (slotted wide slots n gs l)
    unfolding slotted
    slotted_snoc n gs g l = slotted_more n gs (g ∷ []) l

    -- ---- the first number counts by its slot alone

    pub slotted_turned : (m n : ℕ) (gs : List (List A)) (l : List A) → m % slots ≡ n % slots → slotted wide slots m gs l ≡ slotted wide slots n gs l
    unfolding slotted
    slotted_turned m n [] l e = refl
    slotted_turned m n (g ∷ gs) l e =
        slotted_turned (suc m) (suc n) gs (over (slot_from m) g l) (suc-mod m slots ∙ ap (λ (k : ℕ). suc k % slots) e ∙ sym (suc-mod n slots))
        ∙ ap (λ (k : ℕ). slotted wide slots (suc n) gs (over (k * wide) g l)) e

    pub slotted_slot : (n : ℕ) (gs : List (List A)) (l : List A) → slotted wide slots (n % slots) gs l ≡ slotted wide slots n gs l
    slotted_slot n gs l = slotted_turned (n % slots) n gs l (mod-mod n slots)

    -- ---- what is written into one slot

    module _ (some : 0 < slots) where
      pub length_slotted : (n : ℕ) (gs : List (List A)) (l : List A) → Narrow wide gs → slots * wide ≤ length l → length (slotted wide slots n gs l) ≡ length l
      unfolding slotted
      length_slotted n [] l h room = refl
      length_slotted n (g ∷ gs) l h room =
          let e : length (over (slot_from n) g l) ≡ length l = length_over (slot_from n) g l (omega (arith, slot_room n some, h.0)) in
          length_slotted (suc n) gs (over (slot_from n) g l) h.1 (omega arith) ∙ e

      -- h is written into the slot of k, from place p on
      module _ (k p : ℕ) (h : List A) (from : slot_from k ≤ p) (to : p + length h ≤ slot_from k + wide) where
        inside : p + length h ≤ slots * wide
        inside = omega (arith, slot_room k some)

        -- the slot of n ends before that, or begins after it
        beside : (n : ℕ) → (k % slots ≡ n % slots → ⊥) → (slot_from n + wide ≤ p) ⊎ (p + length h ≤ slot_from n)
        beside n other = go (slots_apart (k % slots) (n % slots) other)
          where
            go : (slot_from k + wide ≤ slot_from n) ⊎ (slot_from n + wide ≤ slot_from k) → (slot_from n + wide ≤ p) ⊎ (p + length h ≤ slot_from n)
            go (inl a) = inr (omega arith)
            go (inr a) = inl (omega arith)

        -- and is as it was
        pub slot_kept : (n m : ℕ) (l : List A) → m ≤ wide → slots * wide ≤ length l → (k % slots ≡ n % slots → ⊥)
            → take m (drop (slot_from n) (over p h l)) ≡ take m (drop (slot_from n) l)
        slot_kept n m l few room other = go (beside n other)
          where
            go : (slot_from n + wide ≤ p) ⊎ (p + length h ≤ slot_from n) → take m (drop (slot_from n) (over p h l)) ≡ take m (drop (slot_from n) l)
            go (inl a) = part_other p h l (omega (arith, inside)) (slot_from n) m (inl (omega arith))
            go (inr a) = part_other p h l (omega (arith, inside)) (slot_from n) m (inr a)

        -- a list may be put there before it or after it
        swapped : (n : ℕ) (g l : List A) → length g ≤ wide → slots * wide ≤ length l → (k % slots ≡ n % slots → ⊥)
            → over p h (over (slot_from n) g l) ≡ over (slot_from n) g (over p h l)
        swapped n g l few room other = go (beside n other)
          where
            go : (slot_from n + wide ≤ p) ⊎ (p + length h ≤ slot_from n) → over p h (over (slot_from n) g l) ≡ over (slot_from n) g (over p h l)
            go (inl a) = sym (over_apart (slot_from n) p g h l (omega arith) (omega (arith, inside)))
            go (inr a) = over_apart p (slot_from n) h g l a (omega (arith, slot_room n some))

        -- and so may lists in other slots
        pub slot_other : (n : ℕ) (gs : List (List A)) (l : List A) → Narrow wide gs → slots * wide ≤ length l → ((i : ℕ) → i < length gs → k % slots ≡ (n + i) % slots → ⊥)
            → over p h (slotted wide slots n gs l) ≡ slotted wide slots n gs (over p h l)
        unfolding slotted
        slot_other n [] l w room other = refl
        slot_other n (g ∷ gs) l w room other =
            let e : length (over (slot_from n) g l) ≡ length l = length_over (slot_from n) g l (omega (arith, slot_room n some, w.0)) in
            slot_other (suc n) gs (over (slot_from n) g l) w.1 (omega arith)
            (λ i q r. let e : suc n + i ≡ n + suc i = omega arith in other (suc i) (omega arith) (r ∙ ap (λ (m : ℕ). m % slots) e))
            ∙ ap (slotted wide slots (suc n) gs) (swapped n g l w.0 room (λ r. other 0 (omega arith) (r ∙ ap (λ (m : ℕ). m % slots) (sym (add-zero n)))))

      -- a list in the slot of n, and no more others after it than there are other slots
      module _ (n : ℕ) (g : List A) (gs : List (List A)) (l : List A) (few : length gs < slots) (fits : length g ≤ wide) (narrow : Narrow wide gs) (room : slots * wide ≤ length l) where
        first_room : slot_from n + length g ≤ length l
        first_room = omega (arith, slot_room n some)

        -- it may be the last that is put there
        pub slotted_first : slotted wide slots n (g ∷ gs) l ≡ over (slot_from n) g (slotted wide slots (suc n) gs l)
        unfolding slotted
        slotted_first = sym (slot_other n (slot_from n) g (omega arith) (omega arith) (suc n) gs l narrow room (first_in_round slots n (length gs) few))

        -- a part of it is written anew
        pub slot_within : (j : ℕ) (h : List A) → j + length h ≤ length g → over (slot_from n + j) h (slotted wide slots n (g ∷ gs) l) ≡ slotted wide slots n (over j h g ∷ gs) l
        unfolding slotted
        slot_within j h inside =
            let e : length (over (slot_from n) g l) ≡ length l = length_over (slot_from n) g l first_room in
            slot_other n (slot_from n + j) h (omega arith) (omega arith) (suc n) gs (over (slot_from n) g l) narrow (omega arith) (first_in_round slots n (length gs) few)
            ∙ ap (slotted wide slots (suc n) gs) (over_within (slot_from n) j g h l inside first_room)

      -- it leaves a list that was clear: its slot is cleared, as far as it goes
      pub slot_cleared :
          (z : A) (m n k : ℕ) (g : List A) (gs : List (List A)) → length gs < slots → length g ≤ k → k ≤ wide → Narrow wide gs → slots * wide ≤ m →
          cleared z (slot_from n) k (slotted wide slots n (g ∷ gs) (replicate m z)) ≡ slotted wide slots (suc n) gs (replicate m z)
      unfolding slotted
      slot_cleared z m n k g gs few long fits narrow room =
          let c = length-replicate k z in
          let d = length-replicate m z in
          let l : List A = over (slot_from n) g (replicate m z) in
          let e : length l ≡ m = length_over (slot_from n) g (replicate m z) (omega (arith, slot_room n some, d)) ∙ d in
          slot_other n (slot_from n) (replicate k z) (omega arith) (omega (arith, c)) (suc n) gs l narrow (omega arith) (first_in_round slots n (length gs) few)
          ∙ ap (slotted wide slots (suc n) gs) (clear_again z (slot_from n) k m g long (omega (arith, slot_room n some)))

      -- ---- read back

      -- the list g in the slot of n, over what else stands there
      record InSlot (n : ℕ) (g l s : List A) : Type 0 where
        rest : List A
        long : length rest ≡ length l
        is : s ≡ over (slot_from n) g rest

      in_slot :
          (n : ℕ) (gs : List (List A)) (l : List A) → length gs ≤ slots → Narrow wide gs → slots * wide ≤ length l →
          (i : ℕ) → i < length gs → InSlot (n + i) (get_or gs i []) l (slotted wide slots n gs l)
      unfolding slotted
      in_slot n [] l few w room i h = absurd (omega arith)
      in_slot n (g ∷ gs) l few w room zero h =
          record {
            rest = slotted wide slots (suc n) gs l;
            long = length_slotted (suc n) gs l w.1 room;
            is = slotted_first n g gs l (omega arith) w.0 w.1 room ∙ ap (λ (m : ℕ). over (slot_from m) g (slotted wide slots (suc n) gs l)) (sym (add-zero n));
          }
      in_slot n (g ∷ gs) l few w room (suc i) h =
          let e : length (over (slot_from n) g l) ≡ length l = length_over (slot_from n) g l (omega (arith, slot_room n some, w.0)) in
          let q : suc n + i ≡ n + suc i = omega arith in
          let r = in_slot (suc n) gs (over (slot_from n) g l) (omega arith) w.1 (omega arith) i (omega arith) in
          record { rest = r.rest; long = r.long ∙ e; is = r.is ∙ ap (λ (m : ℕ). over (slot_from m) (get_or gs i []) r.rest) q }

      module _ (n : ℕ) (gs : List (List A)) (l : List A) (few : length gs ≤ slots) (narrow : Narrow wide gs) (room : slots * wide ≤ length l) (i : ℕ) (h : i < length gs) where
        -- the whole list
        pub slot_here : take (length (get_or gs i [])) (drop (slot_from (n + i)) (slotted wide slots n gs l)) ≡ get_or gs i []
        slot_here =
            let s = in_slot n gs l few narrow room i h in
            let g : List A = get_or gs i [] in
            ap (λ x. take (length g) (drop (slot_from (n + i)) x)) s.is
            ∙ part_here (slot_from (n + i)) g s.rest (omega (arith, slot_room (n + i) some, s.long))

        -- a cell
        pub slot_cell : (j : ℕ) (d : A) → j < length (get_or gs i []) → get_or (slotted wide slots n gs l) (slot_from (n + i) + j) d ≡ get_or (get_or gs i []) j d
        slot_cell j d q =
            let s = in_slot n gs l few narrow room i h in
            let g : List A = get_or gs i [] in
            ap (λ x. get_or x (slot_from (n + i) + j) d) s.is
            ∙ over_in (slot_from (n + i)) g s.rest (omega (arith, slot_room (n + i) some, s.long, narrow_at wide gs narrow i h)) j d q
