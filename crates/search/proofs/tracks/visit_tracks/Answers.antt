use native.Mathlib.Omega.{arith}
use Rattle.search.proofs.Visits.{visit-step, visit_done}
use Rattle.search.proofs.tracks.visit_tracks.Goals as goal

pub loop-i-preserved : goal.loop-i-preserved
loop-i-preserved c =
    let p = c.args.pass.now in
    let r = c.track_turn.ensures in
    visit-step p.ids c.loop-i.invariant c.loop-i-test.true r.step r.visits r.grows

pub returns-clause-visited : goal.returns-clause-visited
returns-clause-visited c = (visit_done c.args.pass.now.ids c.loop-i.invariant (omega arith)).0
