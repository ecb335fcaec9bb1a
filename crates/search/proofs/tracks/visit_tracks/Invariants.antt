use Rattle.search.specs.Stands.{scene_under}
use Rattle.search.proofs.Visits.{Visited}
use Rattle.search.proofs.tracks.visit_tracks.Given as goal

abbrev pub invariant-loop-i : goal.invariant-loop-i
invariant-loop-i l =
    let p = l.pass in
    Visited (scene_under p) p.list.now.count p.list.now.table p.list.now.rows l.initial.state.ids l.initial.state.moved l.initial.state.tally l.state.ids l.state.costs l.state.moved l.state.tally l.i
