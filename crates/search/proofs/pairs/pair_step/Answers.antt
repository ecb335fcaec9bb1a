use native.Mathlib.Omega.{arith}
use mathlib.Core.Path.{ap}
use lib.ListN.{get_or}
use lib.Ieee.{binary64, add}
use Rattle.search_rows.specs.declared.moves.Tally.{Tally}
use Rattle.search_rows.specs.Moves.{pair_ids}
use Rattle.search.specs.Stands.{scene_under}
use Rattle.search.proofs.Costing.{row_fit}
use Rattle.search.proofs.Stepping.{pair_best_is, pair_stays_is, pair_moves_is, pair_long, pair_leaves}
use Rattle.search.proofs.Resting.{stands_anew}
use Rattle.search.proofs.pairs.pair_step.Goals as goal

pub new-a-requires : goal.new-a-requires
new-a-requires c = let s = c.args in (row_fit (scene_under s.pass.now) s.state.now.ids (get_or s.pass.now.list.now.table s.i 0) c.row_now-ra.ensures c.fold_of.ensures).idle

pub new-b-requires : goal.new-b-requires
new-b-requires c = let s = c.args in (row_fit (scene_under s.pass.now) s.state.now.ids (get_or s.pass.now.list.now.table s.j 0) c.row_now-rb.ensures c.fold_of-2.ensures).idle

pub returns-in_default-clause-step : goal.returns-in_default-clause-step
returns-in_default-clause-step c =
    let s = c.args in
    let e = scene_under s.pass.now in
    let a = get_or s.pass.now.list.now.table s.i 0 in
    let b = get_or s.pass.now.list.now.table s.j 0 in
    let p = c.requires in
    let x = c.new-a.ensures in
    let y = c.new-b.ensures in
    let best = pair_best_is e s.close.now a b s.state.now.ids c.fold_of.ensures c.fold_of-2.ensures c.row_now-ra.ensures c.row_now-rb.ensures
    (λ i. add binary64 (p.2.costed.each s.i (omega (arith, p.0, p.1)) i) (p.2.costed.each s.j p.1 i)) (rw (x.id, x.from, x.row, x.cost, y.id, y.from, y.row, y.cost) at c.best_of_pair.ensures) in
    pair_stays_is e s.close.now a b s.state.now.ids s.state.now.tally best c.in_default.is

pub returns-in-Some-clause-step : goal.returns-in-Some-clause-step
unfolding pair_ids
returns-in-Some-clause-step c =
    let s = c.args in
    let e = scene_under s.pass.now in
    let a = get_or s.pass.now.list.now.table s.i 0 in
    let b = get_or s.pass.now.list.now.table s.j 0 in
    let p = c.requires in
    let x = c.new-a.ensures in
    let y = c.new-b.ensures in
    let best = pair_best_is e s.close.now a b s.state.now.ids c.fold_of.ensures c.fold_of-2.ensures c.row_now-ra.ensures c.row_now-rb.ensures
    (λ i. add binary64 (p.2.costed.each s.i (omega (arith, p.0, p.1)) i) (p.2.costed.each s.j p.1 i)) (rw (x.id, x.from, x.row, x.cost, y.id, y.from, y.row, y.cost) at c.best_of_pair.ensures) in
    pair_moves_is e s.close.now a b s.state.now.ids s.state.now.tally best c.in-Some.is c.row_now-ra.ensures c.row_now-rb.ensures c.apply.ensures c.count-state.ensures

pub returns-in-Some-clause-swept : goal.returns-in-Some-clause-swept
unfolding pair_ids
returns-in-Some-clause-swept c =
    let s = c.args in
    let e = scene_under s.pass.now in
    let a = get_or s.pass.now.list.now.table s.i 0 in
    let b = get_or s.pass.now.list.now.table s.j 0 in
    let p = c.requires in
    let begins = s.pass.now.scene.now.starts.now.rise in
    let long = pair_long e begins a b s.state.now.ids p.2.costed.all c.in-Some.m c.row_now-ra.result c.row_now-rb.result c.apply.ensures in
    stands_anew s.pass.now.ids p.2 s.i s.j p.0 p.1 (ap (λ (t : Tally). t.next_id.0) c.count-state.ensures) _ long
    (pair_leaves e begins a b s.state.now.ids p.2.costed.all c.in-Some.m c.row_now-ra.result c.row_now-rb.result c.apply.ensures)
    c.track_cost.result c.track_cost-in-Some.result c.track_cost.ensures c.track_cost-in-Some.ensures
