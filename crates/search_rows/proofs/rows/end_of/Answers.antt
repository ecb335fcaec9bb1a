use Rattle.std.proofs.Common.{◌≡◌, ℕ, ◌+◌, ◌<◌, ◌≤◌, List, length, get_or, refl, ◌∙◌, arith, rules}
use Rattle.std.specs.Prelude.{Option, Some, None}
use lib.ListN.{get_or-eq_default}
use native.Mathlib.Decide.{dec_lt}
use Rattle.search_rows.proofs.RowEnds.{end-at}
use Rattle.search_rows.proofs.rows.end_of.Goals as goal

by_last : {P : Type 0} (o : Option ℕ) → (o ≡ None → P) → ((k : ℕ) → o ≡ Some k → P) → P
by_last None f g = f refl
by_last (Some k) f g = g k refl

past_end : (r : List ℕ) (e j : ℕ) → ((k : ℕ) → e ≤ k → k < length r → get_or r k 0 ≤ 0) → e ≤ j → get_or r j 0 ≤ 0
past_end r e j f h = elim (dec_lt j (length r)) [ yes l ↦ f j h l | no l ↦ rw (get_or-eq_default r 0 {n = j} (omega arith)) (omega arith) ]

pub returns : goal.returns
returns c =
    let r = c.args.row.now in
    by_last c.rposition.result
    (λ e. let z : c.map_or.result ≡ 0 = search (rules, e) in z ∙ end-at r 0 (λ h. absurd (omega arith)) (λ j h. past_end r 0 j (λ k a b. search (rules, e, a, b)) h))
    (λ i e. let z : c.map_or.result ≡ i + 1 = search (rules, e) in z ∙ end-at r (i + 1) (λ h. search (rules, e)) (λ j h. past_end r (i + 1) j (λ k a b. search (rules, e, a, b)) h))
