use Rattle.search.specs.Stands.{scene_under}
use Rattle.search.proofs.Sweeps.{SweptOne}
use Rattle.search.proofs.pairs.sweep_one.Given as goal

abbrev pub invariant-loop-j : goal.invariant-loop-j
invariant-loop-j l =
    let p = l.pass in
    SweptOne (scene_under p) p.list.now.count l.i p.list.now.table p.list.now.rows l.initial.state.ids l.initial.state.moved l.initial.state.tally l.state.ids l.state.costs l.state.moved l.state.tally l.j
