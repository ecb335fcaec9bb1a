use Rattle.engine.proofs.Layouts.{sensors_at}
use Rattle.engine.proofs.body.Body.sensor_count.Goals as goal

pub returns-clause-count : goal.returns-clause-count
returns-clause-count c = sensors_at c.args.self.now.kind c.args.self.now.bytes.now c.byte_at.ensures.value
