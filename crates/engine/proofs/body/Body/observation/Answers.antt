use Rattle.std.proofs.Common.{rules, tests}
use Rattle.engine.specs.Body.{layout_of}
use Rattle.engine.proofs.Reading.{and_where, read_by, observation_passed}
use Rattle.engine.proofs.body.Body.observation.Goals as goal

pub returns : goal.returns
returns c = and_where (observation_passed (layout_of c.args.self.now.kind) _ _) (read_by _ _ _ _ _ _ _ _ (rw (c.observation_count.ensures.count, c.observations_from-from.ensures.place) at c.row_from.ensures.place) c.map_or.ensures c.no_observation.ensures (λ x h. search (rules, tests)))
