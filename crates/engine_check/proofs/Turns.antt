-- `all` over a range by a closure that keeps a state: what is asked of each call, and what is answered. Assumes
-- nothing.
use Prim.Native.Nat.{ℕ, ◌+◌, ◌<◌}
use mathlib.Core.Path.{◌≡◌, sym, ◌∙◌}
use mathlib.Core.Bool.{Bool, true, false}
use mathlib.Core.List.{List}
use denote.Param.Members.{Mut}
use Rattle.std.specs.Fn.{Called}
use Rattle.std.specs.Iterator.{YieldsThen, CallableAtEachTurn}
use Rattle.std.specs.List.{FoldsTo}
use Rattle.std.specs.Option.{MatchOption}
use Rattle.std.specs.Prelude.{Option, None, Some}
use Rattle.std.specs.declared.ops.Range.{Range}
use Rattle.std.proofs.iter.Yields.{nat_range_steps}
use Rattle.engine.specs.Body.{all}
use Rattle.engine.proofs.Every.{all_none, all_more, all-less}
use Rattle.engine.proofs.Turns.{asked, ended}

module _ {F : Type 0} {g : Mut F (ℕ × Unit) Bool} (p : ℕ → Bool) (n : ℕ) (J : ℕ → F → Type 0)
    (goes : (i : ℕ) (q v : F) → i < n → J i q → Called g q (i, tt) true v → (p i ≡ true) × J (i + 1) v) where
  -- before turn i
  record Passed (i : ℕ) (q : F) : Type 0 where
    passed : all p i ≡ true
    state : J i q

  more : (i : ℕ) (q v : F) → i < n → Passed i q → Called g q (i, tt) true v → Passed (i + 1) v
  more i q v h b c = let o = goes i q v h b.state c in record { passed = all_more p i b.passed o.0; state = o.1 }

  module _ {s : Range ℕ} {f : F} (begins : s ≡ record { start = 0; end = n }) (j : J 0 f) where
    first : Passed 0 f
    first = record { passed = all_none p; state = j }

    -- what is asked of each call
    pub called_kept : {Q : F → ℕ → Type 0} → ((i : ℕ) (q : F) → i < n → J i q → Q q i) → CallableAtEachTurn nat_range_steps (λ q x v. Called g q (x, tt) true v) Q s f
    called_kept h = asked (λ q x v. Called g q (x, tt) true v) n Passed more begins first (λ i q l b. h i q l b.state)

    -- what is answered
    pub all_kept : {u : Range ℕ} {r : Bool}
        → (xs : List ℕ) × (o : Option ℕ) × (j : F) × YieldsThen nat_range_steps s xs o u × FoldsTo (λ p x q. Called g p (x, tt) true q) f xs j × MatchOption o (r ≡ true) (λ x. (r ≡ false) × ((h : F) × Called g j (x, tt) false h))
        → ((i : ℕ) (q v : F) → i < n → J i q → Called g q (i, tt) false v → p i ≡ false)
        → r ≡ all p n
    all_kept {u} {r} ran stops = go ran.1 ran.2 (ended (λ q x v. Called g q (x, tt) true v) n Passed more begins first u ran.0 ran.1 ran.2 ran.3 ran.4) ran.5
      where
        go : (o : Option ℕ) (q : F) → MatchOption o (Passed n q) (λ x. (x < n) × Passed x q) → MatchOption o (r ≡ true) (λ x. (r ≡ false) × ((h : F) × Called g q (x, tt) false h)) → r ≡ all p n
        go None q b m = m ∙ sym b.passed
        go (Some x) q b m = m.0 ∙ sym (all-less p x n b.0 (stops x q m.1.0 b.0 b.1.state m.1.1))
