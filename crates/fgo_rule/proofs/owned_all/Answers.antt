use Rattle.std.proofs.Common.{refl, length, rules, tests}
use Rattle.engine.proofs.Ranges.{all_of_range}
use Rattle.fgo_rule.specs.Tests.{owned_at, owned_all}
use Rattle.fgo_rule.proofs.owned_all.Goals as goal

pub returns : goal.returns
unfolding owned_all
returns c =
    let g = c.args.g.now in
    let o = c.args.o.now.owners in
    let engines = c.args.engines.now.ids.now in
    let test = owned_at g.ids engines g.starts g.held o.entries.now o.owned in
    all_of_range test (length engines) refl c.all.ensures.ran (λ i b q t. search (rules, tests))
