use native.Mathlib.Omega.{arith}
use mathlib.Core.Path.{◌≡◌}
use lib.ListN.{length}
use borrow.Author.Rules.{rules}
use Rattle.bounds.specs.Bounds.{COLUMNS}
use Rattle.fgo_state.proofs.ScatteringHeld.{scatters_held_none, scatters_held_fits, scatters_held_more, scatters_held_all}
use Rattle.fgo_state.proofs.gather.scatter.Goals as goal

pub loop-k-init : goal.loop-k-init
loop-k-init c = (omega arith, scatters_held_none _ _ _ _ c.requires)

pub scatter_scan-p-requires : goal.scatter_scan-p-requires
scatter_scan-p-requires c =
    let v = c.loop-k in
    let n = c.later-n.ensures in
    rw n (scatters_held_fits _ _ _ _ c.requires v.invariant.1 c.loop-k-test.true (rw n at c.count_of-m.ensures))

pub loop-k-preserved : goal.loop-k-preserved
loop-k-preserved c =
    let v = c.loop-k in
    let n = c.later-n.ensures in
    let m = rw n at c.count_of-m.ensures in
    let wide : length c.args.columns.now ≡ COLUMNS = search rules in
    (omega (arith, c.loop-k-test.true), scatters_held_more _ _ _ _ c.requires v.invariant.1 c.loop-k-test.true m wide (rw n at c.scatter_scan-p.ensures.count, rw n at c.scatter_scan-p.ensures.ids))

pub returns : goal.returns
returns c = scatters_held_all _ _ _ _ c.requires c.loop-k.invariant.1 (omega (arith, c.loop-k.invariant.0, c.loop-k-test.false))
