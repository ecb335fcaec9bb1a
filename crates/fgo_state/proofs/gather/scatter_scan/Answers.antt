use Prim.Native.Nat.{◌+◌, ◌*◌}
use native.Mathlib.Omega.{arith}
use mathlib.Core.Path.{◌≡◌, ap}
use Rattle.bounds.specs.Bounds.{COLUMN}
use Rattle.fgo_state.proofs.ScatteringScan.{scatters_none, scatters_held, scatters_clutter, scatters_room, scatters_all}
use Rattle.fgo_state.proofs.gather.scatter_scan.Goals as goal
use Rattle.fgo_state.proofs.gather.scatter_scan.Goals.{then-columns-a-gt0, else-columns-a-gt0}

pub loop-j-init : goal.loop-j-init
loop-j-init c = (omega arith, scatters_none _ _ _ _)

pub offset_bounds-ids-p : goal.offset_bounds-ids-p
offset_bounds-ids-p c =
    let v = c.loop-j in
    let few = c.requires.0 in
    let slot = c.slot_of.ensures in
    omega (arith, scatters_room _ _ _ _ _ few v.invariant.1 (ap (λ i. COLUMN * i + 1) slot.0) c.requires.1 c.loop-j-test.true c.if-columns-a-gt0.true)

pub bounds-ids-p : goal.bounds-ids-p
bounds-ids-p c =
    let v = c.loop-j in
    let few = c.requires.0 in
    let slot = c.slot_of.ensures in
    omega (arith, scatters_room _ _ _ _ _ few v.invariant.1 (ap (λ i. COLUMN * i + 1) slot.0) c.requires.1 c.loop-j-test.true c.if-columns-a-gt0.true)

pub overflow_add-p : goal.overflow_add-p
overflow_add-p c =
    let v = c.loop-j in
    let few = c.requires.0 in
    let slot = c.slot_of.ensures in
    omega (arith, scatters_room _ _ _ _ _ few v.invariant.1 (ap (λ i. COLUMN * i + 1) slot.0) c.requires.1 c.loop-j-test.true c.if-columns-a-gt0.true)

pub loop-j-preserved : goal.loop-j-preserved
loop-j-preserved c =
    let v = c.loop-j in
    let few = c.requires.0 in
    let slot = c.slot_of.ensures in
    let l = c.loop-j-test.true in (
      omega arith,
      elim c.if-columns-a-gt0.branch [
        | then-columns-a-gt0 w ↦ scatters_held _ _ _ _ v.invariant.1 w.if-columns-a-gt0.true (omega arith) w.columns-is w.p-is
        | else-columns-a-gt0 w ↦ scatters_clutter _ _ _ _ v.invariant.1 (omega (arith, w.if-columns-a-gt0.false)) w.columns-is w.p-is
      ],
    )

pub returns : goal.returns
returns c =
    let v = c.loop-j in
    let few = c.requires.0 in
    let slot = c.slot_of.ensures in
    let e : v.j ≡ c.args.m = omega (arith, c.loop-j-test.false) in
    let both = scatters_all _ _ _ _ _ few v.invariant.1 (ap (λ i. COLUMN * i + 1) slot.0) e in
    record { count = both.0; ids = both.1 }
