use Rattle.std.proofs.Common.{refl, rules, tests, ◌+◌, ◌*◌}
use Rattle.std.proofs.iter.Serving.{serving}
use Rattle.bounds.specs.Bounds.{OBSERVATION}
use Rattle.engine.specs.Body.{observation_ok, observations_ok}
use Rattle.engine.proofs.Passing.{sized}
use Rattle.engine.proofs.Ranges.{all_of_range}
use Rattle.engine_check.proofs.headed.HeadedBody.observations_ok.Goals as goal

pub all-requires-clause-callable : goal.all-requires-clause-callable
all-requires-clause-callable c = let z = sized _ _ c.args.self.now.headed in grind (serving, z.exact)

pub returns : goal.returns
unfolding observations_ok
returns c = rw (c.observation_count.ensures.count, c.observations_from-from.ensures.place) at (all_of_range (λ i. observation_ok c.args.self.now.body.bytes.now (c.observations_from-from.result + OBSERVATION * i)) _ refl c.all.ensures.ran (λ x b q k. search (rules, tests)))
