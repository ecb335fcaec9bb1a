use mathlib.Core.Path.{◌≡◌, refl, ap, ◌∙◌}
use Rattle.std.proofs.Common.{rules, tests}
use Rattle.engine.specs.Body.{all}
use Rattle.smoother_frame.specs.Frame.{association_count, association_ok}
use Rattle.engine.proofs.Ranges.{all_of_range}
use Rattle.smoother_frame.proofs.frame.Frame.associations_ok.Goals as goal

pub returns : goal.returns
returns c =
    let v = c.args.self.now in
    let n : c.self.inside.counts.associations ≡ association_count v.words = c.self.invariant.counts.associations ∙ ap (λ v. association_count v.words) c.self.view_is in
    all_of_range (association_ok v.words v.numbers) c.self.inside.counts.associations refl c.all.ensures.ran (λ x b q k. search (rules, tests)) ∙ ap (all (association_ok v.words v.numbers)) n
