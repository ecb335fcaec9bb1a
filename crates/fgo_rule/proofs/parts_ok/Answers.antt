use Rattle.std.proofs.Common.{refl, rules, tests}
use Rattle.fgo_rule.specs.Tests.{part_ok, parts_ok}
use Rattle.engine.proofs.Ranges.{all_of_range}
use Rattle.fgo_rule.proofs.parts_ok.Goals as goal

pub returns : goal.returns
unfolding parts_ok
returns c =
    let a = c.args in
    let n = a.frozen in
    let test = part_ok a.first.0 a.next.0 a.tracks.now in
    all_of_range test n refl c.all.ensures.ran (λ i b q t. search (rules, tests))
