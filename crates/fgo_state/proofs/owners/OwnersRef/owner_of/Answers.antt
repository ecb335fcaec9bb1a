use Prim.Native.Nat.{ℕ, zero, suc, ◌+◌, ◌≤◌, ◌<◌}
use native.Mathlib.Nat.{eq-or-lt_of_le}
use native.Mathlib.Omega.{arith}
use mathlib.Core.Path.{◌≡◌, refl, sym, ap, ◌∙◌}
use mathlib.Core.Logic.{⊎_elim}
use borrow.Author.Tests.{eq-eqb, ne_eqb}
use Rattle.std.proofs.Common.{rules, tests}
use Rattle.std.specs.Option.{MatchOption}
use Rattle.std.specs.Prelude.{Option, None, Some}
use Rattle.engine.specs.Body.{rows}
use Rattle.fgo_spec.specs.Lists.{find}
use Rattle.fgo_state.specs.Memory.{owner_of, owner_entry, or_none}
use Rattle.fgo_state.specs.Owners.{id_from}
use Rattle.fgo_state.proofs.Tracks.{number, kept, at_some}
use Rattle.fgo_state.proofs.owners.OwnersRef.owner_of.Goals as goal

module _ (g : ℕ → ℕ × ℕ) (e : ℕ) where
  -- the first entry of the key
  found : (o n i : ℕ) → o ≤ i → i < o + n → e ≡ (g i).0 → ((k : ℕ) → o ≤ k → k < i → e ≡ (g k).0 → ⊥) → or_none (find e (rows g o n)) ≡ (g i).1
  unfolding rows find
  found o zero i h l q none = absurd (omega arith)
  found o (suc n) i h l q none =
      ⊎_elim
      (λ (d : o ≡ i). let s : e ≡ (g o).0 = rw d q in rw (eq-eqb e (g o).0 s, d) refl)
      (λ (d : o < i). rw (ne_eqb e (g o).0 (none o (omega arith) d)) (found (suc o) n i (omega arith) (omega arith) q (λ k a b. none k (omega arith) b)))
      (eq-or-lt_of_le h)

  -- no entry has it
  lacking : (o n : ℕ) → ((k : ℕ) → o ≤ k → k < o + n → e ≡ (g k).0 → ⊥) → or_none (find e (rows g o n)) ≡ 0
  unfolding rows find
  lacking o zero none = refl
  lacking o (suc n) none = rw (ne_eqb e (g o).0 (none o (omega arith) (omega arith))) (lacking (suc o) n (λ k a b. none k (omega arith) (omega arith)))

-- two facts of one value, or of none
either : {A N M : Type 0} {S T : ℕ → Type 0} (r : Option ℕ) → MatchOption r N S → MatchOption r M T → (N → M → A) → ((i : ℕ) → S i → T i → A) → A
either None h k n s = n h k
either (Some i) h k n s = s i h k

pub returns : goal.returns
returns c =
    let a = c.args.self.now in
    let e = c.args.e.0 in
    let os = a.entries.now in
    let owner : number c.map.result ≡ owner_of os a.owned e =
    either c.place_of.result c.place_of.ensures c.map.ensures.cases
    (λ none r. ap number r ∙ sym (lacking (owner_entry os) e 0 a.owned (λ k h l. none k (omega arith))))
    (λ i first r. at_some c.map.result r (λ y q. search (rules, tests)) ∙ sym (found (owner_entry os) e 0 a.owned i (omega arith) (omega arith) first.1 (λ k h l. first.2 k l))) in
    kept _ _ c.filter.ensures (λ x b q. search (rules, tests)) ∙ ap id_from owner
