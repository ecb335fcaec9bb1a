use Rattle.engine.proofs.Layouts.{associations_at}
use Rattle.engine.proofs.body.Body.association_count.Goals as goal

pub returns-clause-count : goal.returns-clause-count
returns-clause-count c = associations_at c.args.self.now.kind c.args.self.now.bytes.now c.byte_at.ensures.value
