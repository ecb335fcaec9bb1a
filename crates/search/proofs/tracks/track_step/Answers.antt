use mathlib.Core.Path.{sym, ap, ◌∙◌}
use native.Mathlib.Omega.{arith}
use Rattle.std.specs.Prelude.{is_none}
use Rattle.search_rows.specs.Moves.{track_ids}
use Rattle.search.specs.Lent.{scene_in}
use Rattle.search.proofs.Costing.{row_fit}
use Rattle.search.proofs.Stepping.{track_best_is, track_stays_is, track_moves_is}
use Rattle.search.proofs.Resting.{stay_track}
use Rattle.search.proofs.Visits.{stepped_none}
use Rattle.search.proofs.tracks.track_step.Goals as goal

pub new-w-requires : goal.new-w-requires
new-w-requires c = let s = c.args in (row_fit (scene_in s.scene.now) s.state.now.ids s.turn.id.0 c.requires.0 c.fold_of.ensures).idle

pub returns-in_default-clause-step : goal.returns-in_default-clause-step
returns-in_default-clause-step c =
    let s = c.args in
    let p = c.requires in
    let x = c.new-w.ensures in
    track_stays_is (scene_in s.scene.now) s.turn.id.0 s.state.now.ids s.state.now.tally
    (track_best_is (scene_in s.scene.now) s.turn.id.0 s.state.now.ids c.fold_of.ensures p.0 p.1 (rw (x.from, x.row, x.cost) at c.best_of_track.ensures)) c.in_default.is

pub returns-in_default-clause-stepped : goal.returns-in_default-clause-stepped
returns-in_default-clause-stepped c =
    let s = c.args in
    let e = scene_in s.scene.now in
    let p = c.requires in
    let x = c.new-w.ensures in
    let best = track_best_is e s.turn.id.0 s.state.now.ids c.fold_of.ensures p.0 p.1 (rw (x.from, x.row, x.cost) at c.best_of_track.ensures) in
    stepped_none (omega arith) (omega arith) (omega arith) p.1 (stay_track e s.turn.id.0 s.state.now.ids (ap is_none (sym best ∙ c.in_default.is)))

pub returns-in-Some-clause-step : goal.returns-in-Some-clause-step
unfolding track_ids
returns-in-Some-clause-step c =
    let s = c.args in
    let e = scene_in s.scene.now in
    let p = c.requires in
    let x = c.new-w.ensures in
    let best = track_best_is e s.turn.id.0 s.state.now.ids c.fold_of.ensures p.0 p.1 (rw (x.from, x.row, x.cost) at c.best_of_track.ensures) in
    track_moves_is e s.turn.id.0 s.state.now.ids s.state.now.tally best c.in-Some.is c.apply.ensures c.count-state.ensures
