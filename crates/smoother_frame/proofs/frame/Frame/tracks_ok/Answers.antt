use mathlib.Core.Path.{◌≡◌, refl, ap, ◌∙◌}
use Rattle.std.proofs.Common.{rules, tests}
use Rattle.engine.specs.Body.{all}
use Rattle.smoother_frame.specs.Frame.{track_count, track_ok}
use Rattle.engine.proofs.Ranges.{all_of_range}
use Rattle.smoother_frame.proofs.frame.Frame.tracks_ok.Goals as goal

pub returns : goal.returns
returns c =
    let v = c.args.self.now in
    let n : c.self.inside.counts.tracks ≡ track_count v.words = c.self.invariant.counts.tracks ∙ ap (λ v. track_count v.words) c.self.view_is in
    all_of_range (track_ok v.words) c.self.inside.counts.tracks refl c.all.ensures.ran (λ x b q k. search (rules, tests)) ∙ ap (all (track_ok v.words)) n
