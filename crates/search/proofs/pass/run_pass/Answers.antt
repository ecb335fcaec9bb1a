use mathlib.Core.Path.{refl, ap, ◌∙◌}
use lib.ListN.{take}
use Rattle.search_rows.specs.Moves.{begun}
use Rattle.search.specs.Lent.{scene_in}
use Rattle.search.specs.Pass.{Progress, progress_of, sweep, visit}
use Rattle.search.proofs.Listing.{present_listed}
use Rattle.search.proofs.Passes.{pass_is, pass_leaves}
use Rattle.search.proofs.pass.run_pass.Goals as goal

pub invariant_of-pass : goal.invariant_of-pass
invariant_of-pass c =
    let b = c.begin_pass.ensures in
    record { squared = refl; ids = present_listed c.args.scene.now.detections c.args.state.now.ids _ _ b.listed; due = b.due; extents = c.fill_extents.ensures }

pub returns-clause-passed : goal.returns-clause-passed
returns-clause-passed c =
    let s = c.args in
    let e = scene_in s.scene.now in
    let b = c.begin_pass.ensures in
    let l = c.begin_pass.new.list in
    let w = c.sweep_pairs.ensures.swept_all s.state.now.ids b.rows in
    let start = ap (λ (p : Progress). sweep e s.state.now.ids (take l.count l.table) (progress_of p.ids c.begin-state.result)) b.stays in
    pass_is e s.state.now.ids s.state.now.tally l.count _ b.listed.is (c.begin-state.ensures ∙ ap (λ (p : Progress). begun p.tally) b.stays)
    (c.visit_tracks.ensures.visited ∙ ap (visit e (take l.count l.table)) (w.0 ∙ start))

pub returns-clause-left : goal.returns-clause-left
returns-clause-left c =
    let s = c.args in
    let b = c.begin_pass.ensures in
    let v = c.visit_tracks.ensures in
    pass_leaves (present_listed s.scene.now.detections s.state.now.ids _ _ b.listed) (c.sweep_pairs.ensures.swept_all s.state.now.ids b.rows).1 v.visits v.grows
