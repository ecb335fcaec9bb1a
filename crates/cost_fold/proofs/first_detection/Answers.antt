use Rattle.std.proofs.Common.{◌<◌, ◌≤◌, rules, tests}
use Rattle.std.proofs.lemmas.Iterator.{YieldsList-from_slice, IsFirst-from_position}
use Rattle.cost_fold.proofs.Steps.{first_by}
use Rattle.cost_fold.proofs.first_detection.Goals as goal

pub returns : goal.returns
returns c =
    let r = c.args.slots.now in
    first_by r c.position.result (IsFirst-from_position _ _ _ (λ x. 0 < x) (λ x. x ≤ 0) c.position.ensures.ran (YieldsList-from_slice r cc) (λ x q k. search (rules, tests)) (λ x q k. search (rules, tests)))
