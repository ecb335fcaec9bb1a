-- The table of owners as it lies in its array: changing an entry, adding one. Assumes nothing.
use Prim.Native.Nat.{ℕ, zero, suc, ◌+◌, ◌-◌, ◌*◌, ◌≤◌, ◌<◌}
use native.Mathlib.Numerals.{add-one}
use native.Mathlib.Omega.{arith}
use native.Mathlib.Nat.{zero-add, add-zero, sub-zero}
use mathlib.Core.Path.{◌≡◌, refl, sym, ap, ◌∙◌, subst}
use mathlib.Core.Bool.{Bool, true, false}
use mathlib.Core.List.{List, [], ◌∷◌, ◌++◌, append_assoc, flat_map}
use lib.ListN.{length, drop, length-append}
use lib.Dec.{ltb, lit<}
use borrow.Author.Tests.{eq-eqb, ne_eqb, le-leb, lt-leb, ltb-true, ltb-false}
use Rattle.bounds.specs.Bounds.{OWNED, OWNER, OWNERS}
use Rattle.buffers.specs.Buffers.{over}
use Rattle.buffers.proofs.Over.{length_over, over-before, over_in, over_after}
use Rattle.engine.specs.Body.{rows}
use Rattle.fgo_spec.specs.Lists.{assign}
use Rattle.fgo_state.specs.Memory.{engine_at, owner_entry, owner_words, owners_in}
use Rattle.fgo_state.proofs.OwnerCells.{owners_back}
use Rattle.buffers.proofs.Agreeing.{drop_later, drop_over}
use Rattle.fgo_place.specs.Placing.{assigned_in, Grown}
use Rattle.engine.proofs.Passing.{length-rows}
use Rattle.fgo_spec.proofs.Rows.{front_more, rows_parts, rows_same, rows_step, rows_end}

-- the entries before k, and those from k on
in_parts : {A : Type 0} (g : ℕ → A) (n k : ℕ) → k ≤ n → rows g 0 n ≡ rows g 0 k ++ rows g k (n - k)
in_parts g n k h =
    let d : n ≡ k + (n - k) = omega arith in
    ap (rows g 0) d ∙ rows_parts g 0 k (n - k) ∙ ap (λ (i : ℕ). rows g 0 k ++ rows g i (n - k)) (zero-add k)

module _ (owners : List ℕ) (e n k x : ℕ) where
  assign-here : k < n → engine_at owners k ≡ e → assign e x (rows (owner_entry owners) k (n - k)) ≡ (e, x) ∷ rows (owner_entry owners) (k + 1) (n - (k + 1))
  unfolding assign
  assign-here h q = ap (assign e x) (rows_step (owner_entry owners) k n k h refl) ∙ rw (eq-eqb e (engine_at owners k) (sym q))

  assign-later : k < n → (engine_at owners k ≡ e → ⊥) → assign e x (rows (owner_entry owners) k (n - k)) ≡ owner_entry owners k ∷ assign e x (rows (owner_entry owners) (k + 1) (n - (k + 1)))
  unfolding assign
  assign-later h q = ap (assign e x) (rows_step (owner_entry owners) k n k h refl) ∙ rw (ne_eqb e (engine_at owners k) (λ d. q (sym d)))

  assign-none : n ≤ k → assign e x (rows (owner_entry owners) k (n - k)) ≡ (e, x) ∷ []
  unfolding assign
  assign-none h = ap (assign e x) (rows_end (owner_entry owners) k n k h)

-- ---- an entry put

-- the table with an entry put at place w
abbrev pub owning : List ℕ → ℕ → ℕ → ℕ → List ℕ
owning os w e x = over (OWNER * w) (owner_words (e, x)) os

pair_same : {a a' b b' : ℕ} → a ≡ a' → b ≡ b' → ◌≡◌ {A = ℕ × ℕ} (a, b) (a', b')
pair_same e f = rw (e, f)

module _ (os : List ℕ) (w e x : ℕ) (room : OWNER * w + OWNER ≤ length os) where
  pub owning_long : length (owning os w e x) ≡ length os
  owning_long = length_over (OWNER * w) (owner_words (e, x)) os room

  pub owning_at : owner_entry (owning os w e x) w ≡ (e, x)
  owning_at =
      let first : engine_at (owning os w e x) w ≡ e = rw add-zero at (over_in (OWNER * w) (owner_words (e, x)) os room 0 0 (lit< tt)) in
      pair_same first (over_in (OWNER * w) (owner_words (e, x)) os room 1 0 (lit< tt))

  -- the others are as they were
  pub owning_else : (i : ℕ) → (i ≡ w → ⊥) → owner_entry (owning os w e x) i ≡ owner_entry os i
  owning_else i ne = go (ltb i w) refl
    where
      go : (b : Bool) → ltb i w ≡ b → owner_entry (owning os w e x) i ≡ owner_entry os i
      go true q =
          let h = ltb-true i w q in
          pair_same (over-before (OWNER * w) (owner_words (e, x)) os room (OWNER * i) 0 (omega arith)) (over-before (OWNER * w) (owner_words (e, x)) os room (OWNER * i + 1) 0 (omega arith))
      go false q =
          let h : w < i = omega (arith, ltb-false i w q, ne) in
          pair_same (over_after (OWNER * w) (owner_words (e, x)) os room (OWNER * i) 0 (omega arith)) (over_after (OWNER * w) (owner_words (e, x)) os room (OWNER * i + 1) 0 (omega arith))

  -- and so is all that is past n of them
  pub owning_rest : (n : ℕ) → w < n → drop (OWNER * n) (owning os w e x) ≡ drop (OWNER * n) os
  owning_rest n h = drop_over (OWNER * w) (owner_words (e, x)) os room (OWNER * n) (omega arith)

  pub owning_same : (o m : ℕ) → ((i : ℕ) → o ≤ i → i < o + m → i ≡ w → ⊥) → rows (owner_entry os) o m ≡ rows (owner_entry (owning os w e x)) o m
  owning_same o m d = rows_same (owner_entry os) (owner_entry (owning os w e x)) o m (λ i a b. sym (owning_else i (d i a b)))

  -- one entry more, behind those before it
  pub owning_more : owners_in (owning os w e x) (w + 1) ≡ owners_in os w ++ ((e, x) ∷ [])
  owning_more =
      front_more (owner_entry (owning os w e x)) w
      ∙ ap (λ (l : List (ℕ × ℕ)). l ++ (owner_entry (owning os w e x) w ∷ [])) (sym (owning_same 0 w (λ i a b z. omega arith)))
      ∙ ap (λ (o : ℕ × ℕ). owners_in os w ++ (o ∷ [])) owning_at

-- where the words of entries lie at the front, as many entries are these
pub owners_are : (os : List (ℕ × ℕ)) (l : List ℕ) {k : ℕ} {l' : List ℕ} → k ≡ length os → l' ≡ over 0 (flat_map owner_words os) l → owners_in l' k ≡ os
owners_are os l many is = (λ i. owners_in (is i) (many i)) ∙ owners_back os l

-- ---- a table grows

pub grown_none : (n : ℕ) (os : List ℕ) → Grown n n os os
grown_none n os = record { more = omega arith; rest = refl }

-- an entry is put, of r
pub grown_put : (n r k e x : ℕ) (os : List ℕ) {os' : List ℕ} → n ≤ r → k < r → OWNER * r ≤ length os → os' ≡ owning os k e x → Grown n r os os'
grown_put n r k e x os m h room is = record { more = m; rest = ap (drop (OWNER * r)) is ∙ owning_rest os k e x (omega arith) r h }

-- and grows on
pub grown_more : {n r q : ℕ} {os os' os'' : List ℕ} → Grown n r os os' → Grown r q os' os'' → Grown n q os os''
grown_more {n} {r} {q} {os} {os'} g f =
    let a = g.more in
    let b = f.more in
    record { more = omega arith; rest = f.rest ∙ drop_later os' os (OWNER * r) (OWNER * q) (omega arith) g.rest }

-- ---- an engine id gets an owner

fits : (e x : ℕ) (os : List (ℕ × ℕ)) → length (assign e x os) ≤ OWNED → assign e x os ≡ assigned_in e x os
fits e x os h = rw (le-leb (length (assign e x os)) OWNED h)

module _ (owners : List ℕ) (e n x : ℕ) where
  -- the entries before k have other engine ids
  abbrev pub Passed : ℕ → Type 0
  Passed k = assign e x (owners_in owners n) ≡ rows (owner_entry owners) 0 k ++ assign e x (rows (owner_entry owners) k (n - k))

  pub passed_none : Passed 0
  unfolding rows
  passed_none = sym (ap (λ (m : ℕ). assign e x (rows (owner_entry owners) 0 m)) (sub-zero n))

  pub passed_more : (k : ℕ) → k < n → (engine_at owners k ≡ e → ⊥) → Passed k → Passed (k + 1)
  passed_more k h q p =
      let l : List (ℕ × ℕ) = assign e x (rows (owner_entry owners) (k + 1) (n - (k + 1))) in
      p
      ∙ ap (λ m. rows (owner_entry owners) 0 k ++ m) (assign-later owners e n k x h q)
      ∙ sym (append_assoc (rows (owner_entry owners) 0 k) (owner_entry owners k ∷ []) l)
      ∙ ap (λ m. m ++ l) (sym (front_more (owner_entry owners) k))

  -- none of the first k entries has it
  pub passed_all : (k : ℕ) → k ≤ n → ((j : ℕ) → j < k → e ≡ engine_at owners j → ⊥) → Passed k
  passed_all zero h none = passed_none
  passed_all (suc k) h none =
      let s : k + 1 ≡ suc k = add-one k in
      rw s at (passed_more k (omega arith) (λ d. none k (omega arith) (sym d)) (passed_all k (omega arith) (λ j l. none j (omega arith))))

  -- entry k has the engine id: it is changed
  pub assigned_here :
      (k : ℕ) → k < n → n ≤ OWNED → length owners ≡ OWNERS → engine_at owners k ≡ e → Passed k →
      owners_in (owning owners k e x) n ≡ assigned_in e x (owners_in owners n)
  assigned_here k h few long q p = sym both ∙ fits e x (owners_in owners n) (subst (λ (m : ℕ). m ≤ OWNED) (sym (ap length both ∙ length-rows (owner_entry after) 0 n)) few)
    where
      after : List ℕ
      after = owning owners k e x

      room : OWNER * k + OWNER ≤ length owners
      room = omega arith

      both : assign e x (owners_in owners n) ≡ owners_in after n
      both =
          p
          ∙ ap (λ l. rows (owner_entry owners) 0 k ++ l) (assign-here owners e n k x h q)
          ∙ ap (λ l. l ++ ((e, x) ∷ rows (owner_entry owners) (k + 1) (n - (k + 1)))) (owning_same owners k e x room 0 k (λ i a b z. omega arith))
          ∙ ap (λ l. rows (owner_entry after) 0 k ++ ((e, x) ∷ l)) (owning_same owners k e x room (k + 1) (n - (k + 1)) (λ i a b z. omega arith))
          ∙ ap (λ o. rows (owner_entry after) 0 k ++ (o ∷ rows (owner_entry after) (k + 1) (n - (k + 1)))) (sym (owning_at owners k e x room))
          ∙ ap (λ l. rows (owner_entry after) 0 k ++ l) (sym (rows_step (owner_entry after) k n k h refl))
          ∙ sym (in_parts (owner_entry after) n k (omega arith))

  -- no entry has it: one more
  pub assigned_end : n < OWNED → length owners ≡ OWNERS → Passed n → owners_in (owning owners n e x) (n + 1) ≡ assigned_in e x (owners_in owners n)
  assigned_end few long p = sym both ∙ fits e x (owners_in owners n) (subst (λ (m : ℕ). m ≤ OWNED) (sym (ap length both ∙ length-rows (owner_entry (owning owners n e x)) 0 (n + 1))) (omega arith))
    where
      both : assign e x (owners_in owners n) ≡ owners_in (owning owners n e x) (n + 1)
      both = p ∙ ap (λ l. rows (owner_entry owners) 0 n ++ l) (assign-none owners e n n x (omega arith)) ∙ sym (owning_more owners n e x (omega arith))

  -- no room
  pub assigned_full : OWNED ≤ n → Passed n → owners_in owners n ≡ assigned_in e x (owners_in owners n)
  assigned_full full p = rw (lt-leb (length (assign e x (owners_in owners n))) OWNED (omega (arith, longer)))
    where
      longer : length (assign e x (owners_in owners n)) ≡ n + 1
      longer = ap length (p ∙ ap (λ l. rows (owner_entry owners) 0 n ++ l) (assign-none owners e n n x (omega arith))) ∙ length-append (rows (owner_entry owners) 0 n) ((e, x) ∷ []) ∙ ap (λ (m : ℕ). m + 1) (length-rows (owner_entry owners) 0 n)
