use Prim.Native.Nat.{◌<◌}
use native.Mathlib.Omega.{arith}
use Rattle.engine.specs.Body.{body_of, associations_in}
use Rattle.fgo_state.proofs.GatheringScan.{gathers_none, gathers_room, gathers_held, gathers_clutter, gathers_all}
use Rattle.fgo_state.proofs.gather.gather_scan.Goals as goal
use Rattle.fgo_state.proofs.gather.gather_scan.Goals.{then-id-gt0, else-id-gt0}

pub loop-j-init : goal.loop-j-init
loop-j-init c = gathers_none _ _ _ _ _ _

pub offset_bounds-ids-p : goal.offset_bounds-ids-p
offset_bounds-ids-p c =
    let r = gathers_room _ _ _ _ _ _ c.requires c.loop-j.invariant (omega (arith, c.loop-j-test.true, c.count-j-end.ensures.count)) (omega (arith, c.id-id.ensures, c.if-id-gt0.true)) in omega (arith, c.loop-j.invariant.ids.long, r.0)

pub bounds-ids-p : goal.bounds-ids-p
bounds-ids-p c = (gathers_room _ _ _ _ _ _ c.requires c.loop-j.invariant (omega (arith, c.loop-j-test.true, c.count-j-end.ensures.count)) (omega (arith, c.id-id.ensures, c.if-id-gt0.true))).0

pub offset_bounds-engines-p : goal.offset_bounds-engines-p
offset_bounds-engines-p c =
    let r = gathers_room _ _ _ _ _ _ c.requires c.loop-j.invariant (omega (arith, c.loop-j-test.true, c.count-j-end.ensures.count)) (omega (arith, c.id-id.ensures, c.if-id-gt0.true)) in omega (arith, c.loop-j.invariant.ids.long, r.0)

pub bounds-engines-p : goal.bounds-engines-p
bounds-engines-p c = (gathers_room _ _ _ _ _ _ c.requires c.loop-j.invariant (omega (arith, c.loop-j-test.true, c.count-j-end.ensures.count)) (omega (arith, c.id-id.ensures, c.if-id-gt0.true))).1

pub overflow_add-p : goal.overflow_add-p
overflow_add-p c =
    let r = gathers_room _ _ _ _ _ _ c.requires c.loop-j.invariant (omega (arith, c.loop-j-test.true, c.count-j-end.ensures.count)) (omega (arith, c.id-id.ensures, c.if-id-gt0.true)) in omega (arith, c.loop-j.invariant.ids.long, r.0)

pub loop-j-preserved : goal.loop-j-preserved
loop-j-preserved c =
    let a = c.args in
    let v = c.loop-j in
    let e = c.count-j-end.ensures in
    let l = c.loop-j-test.true in
    let few : v.j < associations_in (body_of a.s.now.frame.body) = omega arith in
    let i = c.id-id.ensures in
    elim c.if-id-gt0.branch [
      | then-id-gt0 w ↦ gathers_held _ _ _ _ _ _ c.requires v.invariant few i w.if-id-gt0.true w.engine_of.ensures w.ids-is w.engines-is w.p-is
      | else-id-gt0 w ↦ gathers_clutter _ _ _ _ _ _ c.requires v.invariant few i (omega (arith, w.if-id-gt0.false)) w.ids-is w.engines-is w.p-is
    ]

pub returns : goal.returns
returns c = let e = c.count-j-end.ensures in gathers_all _ _ _ _ _ _ c.requires c.loop-j.invariant (omega (arith, c.loop-j-test.false))
