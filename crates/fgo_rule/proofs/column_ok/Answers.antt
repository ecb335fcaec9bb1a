use Rattle.std.proofs.Common.{refl, ap, ◌∙◌, rules, tests}
use Rattle.engine.specs.Body.{body_of, all}
use Rattle.fgo_rule.specs.Tests.{id_ok, column_in}
use Rattle.engine.proofs.Ranges.{all_of_range}
use Rattle.fgo_rule.proofs.column_ok.Goals as goal

pub returns : goal.returns
unfolding column_in
returns c =
    let a = c.args in
    let n = c.count.result in
    let test = id_ok a.next.0 a.s.now.scans.now.columns (body_of a.s.now.frame.body) a.s.now.n.0 in
    all_of_range test n refl c.all.ensures.ran (λ i b q t. search (rules, tests)) ∙ ap (all test) c.count.ensures.count
