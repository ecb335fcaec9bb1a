use Rattle.search.proofs.Visits.{visits_past, visits_on}
use Rattle.search.proofs.tracks.track_turn.Goals as goal

pub returns-then-rests-clause-step : goal.returns-then-rests-clause-step
returns-then-rests-clause-step c =
    let s = c.args in
    let p = c.requires in
    let f = c.rests.ensures c.if-rests.true in
    (visits_past s.state.now.tally s.pass.now.ids p.0 p.1 s.pass.now.due f).0

pub returns-clause-visits : goal.returns-clause-visits
returns-clause-visits c =
    let s = c.args in
    let p = c.requires in
    let r = c.track_step.ensures in
    visits_on s.state.now.tally s.pass.now.ids p.0 p.1 s.pass.now.scene.now.starts.now.rise r.step r.stepped
