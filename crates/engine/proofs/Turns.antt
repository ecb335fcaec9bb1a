-- A fold over a range, by what holds of its state before each turn. Assumes nothing.
use Prim.Native.Nat.{ℕ, ◌+◌, ◌<◌, ◌≤◌}
use mathlib.Core.Path.{◌≡◌, sym, ap, subst, ◌∙◌}
use mathlib.Core.List.{List, [], ◌∷◌}
use native.Mathlib.Omega.{arith}
use Rattle.std.specs.Iterator.{Yields, YieldsThen, CallableAtEachTurn}
use Rattle.std.specs.List.{FoldsTo}
use Rattle.std.specs.Option.{MatchOption}
use Rattle.std.specs.Prelude.{Option, None, Some}
use Rattle.std.specs.declared.ops.Range.{Range}
use Rattle.std.proofs.iter.Yields.{nat_range_steps}

module _ {P : Type 0} (R : P → ℕ → P → Type 0) (n : ℕ) (J : ℕ → P → Type 0) (goes : (i : ℕ) (q v : P) → i < n → J i q → R q i v → J (i + 1) v) where
  -- before turn i
  record Before (i : ℕ) (q : P) : Type 0 where
    few : i ≤ n
    state : J i q

  turn : (i k : ℕ) (q v : P) → i < n → k ≡ i + 1 → Before i q → R q i v → Before k v
  turn i k q v h e b c = subst (λ k. Before k v) (sym e) (record { few = omega arith; state = goes i q v h b.state c })

  turns : (xs : List ℕ) (s t : Range ℕ) (q v : P) → s.end ≡ n → Yields nat_range_steps s xs t → FoldsTo R q xs v → Before s.start q → (t.end ≡ n) × Before t.start v
  turns [] s t q v e y c b = (sym (ap (λ k. k.end) y) ∙ e, subst (λ (r : Range ℕ). Before r.start v) y (subst (λ q. Before s.start q) c b))
  turns (x ∷ xs) s t q v e y c b =
      turns xs y.0 t c.0 v (y.1.0 ∙ e) y.2 c.2 (turn s.start y.0.start q c.0 (omega (arith, e, y.1.1.0)) y.1.1.2 b (subst (λ z. R q z c.0) y.1.1.1 c.1))

  module _ {s : Range ℕ} {p : P} (begins : s ≡ record { start = 0; end = n }) (j : J 0 p) where
    first : Before s.start p
    first = subst (λ (r : Range ℕ). Before r.start p) (sym begins) (record { few = omega arith; state = j })

    -- what is asked of each turn
    pub asked : {Q : P → ℕ → Type 0} → ((i : ℕ) (q : P) → i < n → J i q → Q q i) → CallableAtEachTurn nat_range_steps R Q s p
    asked {Q} h = record {
      at = λ xs t q x u y c e.
          let w = turns xs s t p q (ap (λ (r : Range ℕ). r.end) begins) y c first in
          subst (Q q) (sym e.1.1) (h t.start q (omega (arith, w.0, e.1.0)) w.1.state);
    }

    -- after the last turn, or at the turn that broke off
    pub ended : (u : Range ℕ) (xs : List ℕ) (o : Option ℕ) (q : P) → YieldsThen nat_range_steps s xs o u → FoldsTo R p xs q → MatchOption o (J n q) (λ x. (x < n) × J x q)
    ended u xs o q y c = let w = turns xs s y.0 p q (ap (λ (r : Range ℕ). r.end) begins) y.1 c first in go o y.0 w.0 w.1 y.2
      where
        go : (o : Option ℕ) (t : Range ℕ) → t.end ≡ n → Before t.start q → nat_range_steps t o u → MatchOption o (J n q) (λ x. (x < n) × J x q)
        go None t e b z = subst (λ k. J k q) (let l = b.few in omega (arith, e, z.1.0)) b.state
        go (Some x) t e b z = let l : t.start < n = omega (arith, e, z.1.0) in subst (λ k. (k < n) × J k q) (sym z.1.1) (l, b.state)
