use Rattle.std.proofs.Common.{refl, length, rules, tests}
use Rattle.engine.proofs.Ranges.{all_of_range}
use Rattle.fgo_rule.specs.Tests.{last_at, distinct_in}
use Rattle.fgo_rule.proofs.are_distinct.Goals as goal

pub returns : goal.returns
unfolding distinct_in
returns c =
    let ids = c.args.ids.now.ids.now in
    all_of_range (last_at ids) (length ids) refl c.all.ensures.ran (λ i b q t. search (rules, tests))
