use Prim.Native.Nat.{ℕ, ◌*◌, ◌≤◌}
use native.Mathlib.Omega.{arith}
use mathlib.Core.Path.{sym, ap, ◌∙◌}
use mathlib.Core.Bool.{Bool}
use lib.ListN.{length}
use Rattle.bounds.specs.Bounds.{OWNER}
use Rattle.fgo_state.specs.Memory.{engine_at}
use Rattle.fgo_place.proofs.Owners.{owning}
use Rattle.fgo_place.proofs.Compacting.{compacts_none, compacts_more, compacts_same, compacts_all}
use Rattle.fgo_place.proofs.own.keep_owners.Invariants.{lives}
use Rattle.fgo_place.proofs.own.keep_owners.Goals as goal
use Rattle.fgo_place.proofs.own.keep_owners.Goals.{then-has, else-has}

pub loop-k-init : goal.loop-k-init
loop-k-init c = compacts_none _ _ _

pub loop-k-preserved : goal.loop-k-preserved
loop-k-preserved c = let a = c.args in
    let l = c.loop-k in
    let few : OWNER * a.owned ≤ length a.owners.now = omega (arith, c.requires) in
    let lives-here : ℕ → Bool = λ x. lives a.live.now (engine_at l.owners l.k, x) in
    let tested = sym (c.has.ensures ∙ ap lives-here c.owner_at-x.ensures) in
    elim c.if-has.branch [
      | then-has w ↦ compacts_more _ _ _ l.invariant c.loop-k-test.true few (tested ∙ w.if-has.true) (w.owners-is ∙ w.put_owner.ensures ∙ (λ i. owning l.owners l.w (w.engine_at.ensures i) (c.owner_at-x.ensures i))) w.w-is
      | else-has w ↦ compacts_same _ _ _ l.invariant c.loop-k-test.true (tested ∙ w.if-has.false) w.owners-is w.w-is
    ]

pub returns : goal.returns
returns c =
    let few : OWNER * c.args.owned ≤ length c.args.owners.now = omega (arith, c.requires) in
    compacts_all _ _ _ c.loop-k.invariant c.loop-k-test.false few c.clear.ensures
