use Rattle.std.proofs.Common.{refl, rules, tests, ◌+◌, ◌*◌}
use Rattle.std.proofs.iter.Serving.{serving}
use Rattle.bounds.specs.Bounds.{ASSOCIATION}
use Rattle.engine.specs.Body.{layout_of, association_ok, associations_ok}
use Rattle.engine.proofs.Passing.{sized}
use Rattle.engine.proofs.Ranges.{all_of_range}
use Rattle.engine_check.proofs.headed.HeadedBody.associations_ok.Goals as goal

pub all-requires-clause-callable : goal.all-requires-clause-callable
all-requires-clause-callable c = let z = sized _ _ c.args.self.now.headed in grind (serving, z.exact)

pub returns : goal.returns
unfolding associations_ok
returns c = rw (c.association_count.ensures.count, c.associations_from-from.ensures.place) at (all_of_range (λ i. association_ok (layout_of c.args.self.now.body.kind).width c.args.self.now.body.bytes.now (c.associations_from-from.result + ASSOCIATION * i)) _ refl c.all.ensures.ran (λ x b q k. search (rules, tests)))
