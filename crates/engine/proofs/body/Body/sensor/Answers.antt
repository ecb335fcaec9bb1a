use Rattle.std.proofs.Common.{refl, rules, tests}
use Rattle.engine.specs.Body.{layout_of}
use Rattle.engine.proofs.Reading.{and_where, read_by, sensor_passed}
use Rattle.engine.proofs.body.Body.sensor.Goals as goal

pub returns : goal.returns
returns c = and_where (sensor_passed (layout_of c.args.self.now.kind) _ _) (read_by _ _ _ _ _ _ _ _ (rw (c.sensor_count.ensures.count, c.sensors_from.ensures.place) at c.row_from.ensures.place) c.map_or.ensures refl (λ x h. search (rules, tests)))
