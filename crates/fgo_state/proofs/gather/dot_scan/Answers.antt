use Prim.Native.Nat.{◌<◌}
use native.Mathlib.Omega.{arith}
use mathlib.Core.Path.{◌≡◌, ap, ◌∙◌}
use borrow.Author.Rules.{rules}
use lib.ListN.{length, set}
use Rattle.bounds.specs.Bounds.{DETECTIONS}
use Rattle.engine.specs.Body.{body_of, associations_in}
use Rattle.fgo_state.proofs.GatheringScan.{dots_none, dots_room, dots_held, dots_clutter, dots_all}
use Rattle.fgo_state.proofs.gather.dot_scan.Goals as goal
use Rattle.fgo_state.proofs.gather.dot_scan.Goals.{then-id-gt0, else-id-gt0}

pub loop-j-init : goal.loop-j-init
loop-j-init c = dots_none _ _ _ _ _ _

pub offset_bounds-dots-p : goal.offset_bounds-dots-p
offset_bounds-dots-p c =
    let e = c.count-j-end.ensures in
    let l = c.loop-j-test.true in
    let i = c.id.ensures in
    let h = c.if-id-gt0.true in
    omega (arith, dots_room _ _ _ _ _ _ (search rules) c.requires c.loop-j.invariant (omega arith) (omega arith))

pub bounds-dots-p : goal.bounds-dots-p
bounds-dots-p c =
    let e = c.count-j-end.ensures in
    let l = c.loop-j-test.true in
    let i = c.id.ensures in
    let h = c.if-id-gt0.true in
    dots_room _ _ _ _ _ _ (search rules) c.requires c.loop-j.invariant (omega arith) (omega arith)

pub overflow_add-p : goal.overflow_add-p
overflow_add-p c =
    let e = c.count-j-end.ensures in
    let l = c.loop-j-test.true in
    let i = c.id.ensures in
    let h = c.if-id-gt0.true in
    omega (arith, dots_room _ _ _ _ _ _ (search rules) c.requires c.loop-j.invariant (omega arith) (omega arith))

pub loop-j-preserved : goal.loop-j-preserved
loop-j-preserved c =
    let a = c.args in
    let v = c.loop-j in
    let e = c.count-j-end.ensures in
    let l = c.loop-j-test.true in
    let long : length a.dots.now ≡ DETECTIONS = search rules in
    let few : v.j < associations_in (body_of a.s.now.frame.body) = omega arith in
    let i = c.id.ensures in
    elim c.if-id-gt0.branch [
      | then-id-gt0 w ↦ dots_held _ _ _ _ _ _ long c.requires v.invariant few i w.if-id-gt0.true (w.dots-is ∙ ap (set v.dots v.p) w.dot_in.ensures) w.p-is
      | else-id-gt0 w ↦ dots_clutter _ _ _ _ _ _ long c.requires v.invariant few i (omega (arith, w.if-id-gt0.false)) w.dots-is w.p-is
    ]

pub returns : goal.returns
returns c =
    let e = c.count-j-end.ensures in
    let both = dots_all _ _ _ _ _ _ (search rules) c.requires c.loop-j.invariant (omega (arith, c.loop-j-test.false)) in
    record { count = both.0; dots = both.1 }
