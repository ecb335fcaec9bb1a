use Prim.Native.Nat.{ℕ}
use mathlib.Core.Path.{◌≡◌, refl, ap, ◌∙◌}
use mathlib.Core.Bool.{Bool, false, ◌&&◌}
use mathlib.Core.List.{List}
use lib.Dec.{eqb}
use Rattle.std.specs.Prelude.{Result, Ok, Err}
use Rattle.std.specs.Result.{MatchResult}
use Rattle.engine.specs.Body.{Body, body_of, body_refusal}
use Rattle.refusals.specs.declared.Refusal.{Refusal}
use Rattle.refusals.specs.Refusals.{number_of}
use Rattle.refusals.proofs.Refused.{numbered}
use Rattle.fgo_rule.specs.Tests.{column_in, scan_ok}
use Rattle.fgo_rule.proofs.scan_ok.Goals as goal

module _ (next : ℕ) (columns : List ℕ) (n : ℕ) {a b : Body} (e : a ≡ b) {t : Bool} where
  -- of a body that passes, and of one that does not
  column : body_refusal a ≡ 0 → t ≡ column_in next columns a n → t ≡ (eqb (body_refusal b) 0 && column_in next columns b n)
  column z h = rw (← e, z) h

  other : eqb (body_refusal a) 0 ≡ false → t ≡ false → t ≡ (eqb (body_refusal b) 0 && column_in next columns b n)
  other z h = rw (← e, z) h

-- a body that is refused
refused : {T : Type 0} (P : T → Type 0) (n : ℕ) (r : Result T Refusal) → MatchResult r P (λ e. number_of e ≡ n) → ((x : T) → r ≡ Ok x → ⊥) → eqb n 0 ≡ false
refused P n (Ok x) h e = absurd (e x refl)
refused P n (Err e) h q = rw (← h) (numbered e)

pub returns-in_default : goal.returns-in_default
unfolding scan_ok
returns-in_default c = other _ _ _ c.body.ensures (refused _ _ c.check_body.result c.check_body.ensures c.in_default.not-Ok) refl

pub returns : goal.returns
unfolding scan_ok
returns c = column _ _ _ (ap body_of c.in-Ok.ensures ∙ c.body.ensures) c.in-Ok.frame.passes c.column_ok.ensures
