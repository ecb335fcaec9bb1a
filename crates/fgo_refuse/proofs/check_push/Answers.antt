use Prim.Native.Nat.{ℕ, zero, suc}
use native.Mathlib.Omega.{arith}
use mathlib.Core.Path.{◌≡◌, refl, ◌∙◌}
use borrow.Author.Tests.{eqb-false}
use Rattle.std.proofs.lemmas.Result.{err_from_is_err_and}
use Rattle.refusals.proofs.Refused.{numbered}
use Rattle.std.proofs.lemmas.Bool.Decides.{nat_tests}
use Rattle.fgo_refuse.specs.Refusing.{refused_by, push_refusal}
use Rattle.engine.specs.Body.{body_of}
use Rattle.fgo_refuse.proofs.Joining.{joined_most}
use Rattle.fgo_refuse.proofs.check_push.Goals.{else-r-ids-gt-OWNED-via-then-r-ids-gt-OWNED+else-joined_count-gt-OWNED, else-r-ids-gt-OWNED-via-else-r-ids-gt-OWNED}
use Rattle.fgo_refuse.proofs.check_push.Goals as goal

-- 5, 6 and 7 come first
first_one : (m n : ℕ) → (m ≡ 0 → ⊥) → m ≡ refused_by m n
first_one zero n h = absurd (h refl)
first_one (suc m) n h = refl

pub returns-in_err-b : goal.returns-in_err-b
unfolding push_refusal
returns-in_err-b c =
    let r = c.in_err-b.field-0.0 in
    let p = err_from_is_err_and c.from_residual.result c.from_residual.ensures.1 in
    rw (p.1, p.2) (c.in_err-b.ensures ∙ first_one _ _ (λ e. eqb-false _ 0 (numbered r) (c.in_err-b.ensures ∙ e)))

pub returns-then-is_full : goal.returns-then-is_full
unfolding push_refusal
returns-then-is_full c = grind (arith, nat_tests)

pub overflow_add-r : goal.overflow_add-r
overflow_add-r c = record { fits = omega (arith, c.requires.frozen, c.requires.room) }

pub overflow_add-r-2 : goal.overflow_add-r-2
overflow_add-r-2 c = record { fits = omega (arith, c.requires.frozen, c.requires.room, c.id_count-ids.ensures.1) }

pub returns-then-r-detections-gt-DETECTIONS : goal.returns-then-r-detections-gt-DETECTIONS
unfolding push_refusal
returns-then-r-detections-gt-DETECTIONS c = grind (arith, nat_tests)

pub returns-then-joined_count-gt-OWNED : goal.returns-then-joined_count-gt-OWNED
unfolding push_refusal
returns-then-joined_count-gt-OWNED c = grind (arith, nat_tests)

pub returns : goal.returns
unfolding push_refusal
returns c =
    let few = joined_most c.args.owners.now c.args.r.now.owned (body_of c.args.b.now) in
    elim c.else-r-ids-gt-OWNED.branch [
      | else-r-ids-gt-OWNED-via-then-r-ids-gt-OWNED+else-joined_count-gt-OWNED w ↦ grind (arith, nat_tests)
      | else-r-ids-gt-OWNED-via-else-r-ids-gt-OWNED w ↦ grind (arith, nat_tests, few)
    ]
