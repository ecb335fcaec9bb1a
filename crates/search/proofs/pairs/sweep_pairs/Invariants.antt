use Rattle.search.specs.Stands.{scene_under}
use Rattle.search.proofs.Sweeps.{SweptAll}
use Rattle.search.proofs.pairs.sweep_pairs.Given as goal

abbrev pub invariant-loop-i : goal.invariant-loop-i
invariant-loop-i l =
    let p = l.pass in
    SweptAll (scene_under p) p.list.now.count p.list.now.table p.list.now.rows l.initial.state.ids l.initial.state.tally l.state.ids l.state.costs l.state.moved l.state.tally l.i
