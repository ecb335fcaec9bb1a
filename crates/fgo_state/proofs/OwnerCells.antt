-- The owner table and its array: the words of the entries are its first cells, and are read back as the entries.
-- Assumes nothing.
use Prim.Native.Nat.{ℕ, zero, suc, ◌+◌, ◌-◌, ◌*◌, ◌≤◌}
use native.Mathlib.Nat.{zero-add}
use native.Mathlib.Omega.{arith}
use mathlib.Core.Path.{◌≡◌, refl, sym, ap, ◌∙◌}
use mathlib.Core.List.{List, [], ◌∷◌, ◌++◌, flat_map}
use lib.ListN.{length, take, drop, get_or, take-append-drop}
use lib.Seq.{length-take-le}
use Rattle.bounds.specs.Bounds.{OWNER}
use Rattle.engine.specs.Body.{rows}
use Rattle.engine.proofs.Laid.{length-flat}
use Rattle.engine.proofs.Passing.{length-rows}
use Rattle.buffers.specs.Buffers.{over, cleared, renewed}
use Rattle.fgo_state.specs.Memory.{owner_words, owner_entry, owners_in}
use Rattle.buffers.proofs.Agreeing.{cleared_behind}

-- the entries after the first
later : (a b : ℕ) (l : List ℕ) (o n : ℕ) → rows (owner_entry (a ∷ b ∷ l)) (suc o) n ≡ rows (owner_entry l) o n
unfolding rows
later a b l o zero = refl
later a b l o (suc n) =
    let e : OWNER * suc o ≡ suc (suc (OWNER * o)) = omega arith in
    let f : OWNER * suc o + 1 ≡ suc (suc (OWNER * o + 1)) = omega arith in
    λ i. (get_or (a ∷ b ∷ l) (e i) 0, get_or (a ∷ b ∷ l) (f i) 0) ∷ later a b l (suc o) n i

-- the first entry, and the rest
owners-first : (a b : ℕ) (l : List ℕ) (n : ℕ) → owners_in (a ∷ b ∷ l) (suc n) ≡ (a, b) ∷ owners_in l n
unfolding rows
owners-first a b l n = ap (λ os. (a, b) ∷ os) (later a b l 0 n)

-- the words of the first n entries
pub owner_cells : (l : List ℕ) (n : ℕ) → OWNER * n ≤ length l → flat_map owner_words (owners_in l n) ≡ take (OWNER * n) l
unfolding rows flat_map
owner_cells l zero h = refl
owner_cells [] (suc n) h = absurd (omega arith)
owner_cells (a ∷ []) (suc n) h = absurd (omega arith)
owner_cells (a ∷ b ∷ l) (suc n) h =
    let e : OWNER * suc n ≡ suc (suc (OWNER * n)) = omega arith in
    ap (flat_map owner_words) (owners-first a b l n)
    ∙ ap (λ ws. a ∷ b ∷ ws) (owner_cells l n (omega arith))
    ∙ ap (λ m. take m (a ∷ b ∷ l)) (sym e)

-- as many as they are
pub words_long : (os : List (ℕ × ℕ)) → length (flat_map owner_words os) ≡ OWNER * length os
words_long os = length-flat owner_words OWNER (λ o. refl) os

-- a table that holds past its first n entries what another one does is the words of its entries over that one
pub owners_over : (n : ℕ) (k l : List ℕ) → OWNER * n ≤ length l → length k ≡ length l → drop (OWNER * n) k ≡ drop (OWNER * n) l → k ≡ over 0 (flat_map owner_words (owners_in k n)) l
unfolding over
owners_over n k l fits long rest =
    let ws : List ℕ = take (OWNER * n) k in
    let a : 0 + length ws ≡ OWNER * n = zero-add (length ws) ∙ length-take-le (OWNER * n) k (omega arith) in
    sym (ap (λ g. g ++ drop (0 + length g) l) (owner_cells k n (omega arith)) ∙ ap (λ m. ws ++ drop m l) a ∙ ap (λ r. ws ++ r) (sym rest) ∙ take-append-drop (OWNER * n) k)

-- the words of entries are read back
read-back : (os : List (ℕ × ℕ)) (l : List ℕ) → owners_in (flat_map owner_words os ++ l) (length os) ≡ os
unfolding rows flat_map
read-back [] l = refl
read-back (o ∷ os) l = owners-first o.0 o.1 (flat_map owner_words os ++ l) (length os) ∙ ap (λ ps. o ∷ ps) (read-back os l)

-- so they are where they lie over a list
pub owners_back : (os : List (ℕ × ℕ)) (l : List ℕ) → owners_in (over 0 (flat_map owner_words os) l) (length os) ≡ os
unfolding over
owners_back os l = read-back os (drop (0 + length (flat_map owner_words os)) l)

-- The table k holds past its first n entries what l does, and those from w on are then cleared: the first w are as they
-- were, and the whole is l with their words in place of n entries.
pub owners_left :
    (w n : ℕ) (k l : List ℕ) {k' : List ℕ} → w ≤ n → OWNER * n ≤ length k → drop (OWNER * n) k ≡ drop (OWNER * n) l → k' ≡ cleared 0 (OWNER * w) (OWNER * (n - w)) k →
    (owners_in k' w ≡ owners_in k w) × (k' ≡ renewed 0 (OWNER * n) (flat_map owner_words (owners_in k' w)) l)
owners_left w n k l {k'} few fits rest e =
    let os = owners_in k w in
    let g : List ℕ = flat_map owner_words os in
    let m : length os ≡ w = length-rows (owner_entry k) 0 w in
    let a : length g ≡ OWNER * w = words_long os ∙ ap (λ (i : ℕ). OWNER * i) m in
    let b : OWNER * (n - w) ≡ OWNER * n - length g = omega arith in
    let front : take (length g) k ≡ g = ap (λ (i : ℕ). take i k) a ∙ sym (owner_cells k w (omega arith)) in
    let is : k' ≡ renewed 0 (OWNER * n) g l = e ∙ (λ t. cleared 0 (sym a t) (b t) k) ∙ cleared_behind 0 (OWNER * n) g k l (omega arith) fits front rest in
    let same : owners_in k' w ≡ os = (λ t. owners_in (is t) (sym m t)) ∙ owners_back os (cleared 0 0 (OWNER * n) l) in
    (same, is ∙ ap (λ os'. renewed 0 (OWNER * n) (flat_map owner_words os') l) (sym same))
