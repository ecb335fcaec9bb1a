use Prim.Native.Nat.{ℕ}
use native.Mathlib.Omega.{arith}
use mathlib.Core.Path.{◌≡◌}
use Rattle.std.proofs.Common.{rules, tests}
use Rattle.std.proofs.lemmas.Iterator.{first_from_Range}
use Rattle.std.specs.Prelude.{Option, None, Some}
use Rattle.std.specs.Option.{MatchOption}
use Rattle.fgo_state.specs.Memory.{engine_at}
use Rattle.fgo_state.proofs.owners.OwnersRef.place_of.Goals as goal

-- the same, by other facts of the value or of none
told : {N M : Type 0} {S T : ℕ → Type 0} (r : Option ℕ) → (N → M) → ((i : ℕ) → S i → T i) → MatchOption r N S → MatchOption r M T
told None n s h = n h
told (Some i) n s h = s i h

pub returns : goal.returns
returns c =
    let a = c.args.self.now in
    let e = c.args.e.0 in
    let os = a.entries.now in
    told c.find.result (λ none k h. none k (omega arith) (omega arith)) (λ i first. (omega arith, first.2, λ k h. first.3 k (omega arith) h))
    (first_from_Range _ _ _ _ (λ k. e ≡ engine_at os k) (λ k. e ≡ engine_at os k → ⊥) c.find.ensures.ran (λ k q t. search (rules, tests)) (λ k q t. search (rules, tests)))
