use mathlib.Core.Path.{refl, ap, ◌∙◌}
use Rattle.std.proofs.Common.{rules, tests}
use Rattle.smoother_pass.specs.Pass.{last_at}
use Rattle.smoother_pass.proofs.Finding.{last_of_range}
use Rattle.smoother_pass.proofs.pass.find.Goals as goal

pub returns : goal.returns
returns c =
    let w = c.args.frame.now.words in
    last_of_range c.args.id.0 w (λ x b q k. search (rules, tests)) _ _ refl c.rfind.ensures.ran ∙ ap (last_at c.args.id.0 w) c.counts.ensures.tracks
