-- The holder of an engine id among gathered detections is found before the last place where it stands. Assumes nothing.
use Prim.Native.Nat.{ℕ, zero, suc, ◌+◌, ◌-◌, ◌≤◌, ◌<◌, max}
use native.Mathlib.Omega.{arith}
use borrow.Author.Tests.{eqb-true}
use mathlib.Core.Path.{◌≡◌, refl, sym, ap, ◌∙◌}
use mathlib.Core.Bool.{Bool, true, false, cond}
use mathlib.Core.List.{List, foldr}
use lib.Dec.{eqb}
use lib.ListN.{get_or}
use Rattle.engine.specs.Body.{rows}
use Rattle.fgo_spec.specs.Owning.{or_else}
use Rattle.fgo_state.specs.Gathering.{holder_of, latest_of}

module _ (e : ℕ) (ids engines : List ℕ) where
  -- the id of a place, where it has the engine id
  abbrev passing : ℕ → ℕ
  passing i = cond (eqb e (get_or engines i 0)) (get_or ids i 0) 0

  -- the engine id stands at no place from c to before b
  abbrev pub Absent : ℕ → ℕ → Type 0
  Absent c b = (i : ℕ) → c ≤ i → i < b → e ≡ get_or engines i 0 → ⊥

  none_here : (i : ℕ) → (e ≡ get_or engines i 0 → ⊥) → passing i ≡ 0
  none_here i h = go (eqb e (get_or engines i 0)) refl
    where
      go : (t : Bool) → eqb e (get_or engines i 0) ≡ t → cond t (get_or ids i 0) 0 ≡ 0
      go true q = absurd (h (eqb-true e (get_or engines i 0) q))
      go false q = refl

  none_of : (a n : ℕ) → Absent a (a + n) → foldr max 0 (rows passing a n) ≡ 0
  unfolding rows
  none_of a zero h = refl
  none_of a (suc n) h = let x = none_here a (h a (omega arith) (omega arith)) in let r = none_of (suc a) n (λ i p q. h i (omega arith) (omega arith)) in omega arith

  first-ones : (a m n : ℕ) → m ≤ n → Absent (a + m) (a + n) → foldr max 0 (rows passing a m) ≡ foldr max 0 (rows passing a n)
  unfolding rows
  first-ones a zero n l h = sym (none_of a n (λ i p q. h i (omega arith) q))
  first-ones a (suc m) zero l h = elim l [ ]
  first-ones a (suc m) (suc n) l h = ap (max (passing a)) (first-ones (suc a) m n (omega arith) (λ i p q. h i (omega arith) (omega arith)))

  -- no place counts from c on, where the engine id does not stand
  pub holder_before : (a b c : ℕ) → c ≤ b → Absent c b → holder_of e ids engines a c ≡ holder_of e ids engines a b
  unfolding holder_of
  holder_before a b c l h = first-ones a (c - a) (b - a) (omega arith) (λ i p q. h i (omega arith) (omega arith))

  -- where it stands nowhere, nothing holds it
  pub none_latest : (starts : List ℕ) (k : ℕ) → ((j : ℕ) → j ≤ k → Absent 0 (get_or starts j 0)) → latest_of e ids engines starts k ≡ 0
  unfolding latest_of holder_of
  none_latest starts zero h = refl
  none_latest starts (suc k) h =
      let a = get_or starts k 0 in
      let b = get_or starts (suc k) 0 in
      let x : holder_of e ids engines a b ≡ 0 = none_of a (b - a) (λ i p q. h (suc k) (omega arith) i (omega arith) (omega arith)) in
      ap (λ (x : ℕ). or_else x (latest_of e ids engines starts k)) x ∙ none_latest starts k (λ j l. h j (omega arith))
