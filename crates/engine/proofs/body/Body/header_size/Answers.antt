use Rattle.engine.proofs.Layouts.{head_is}
use Rattle.engine.proofs.body.Body.header_size.Goals as goal

pub returns-clause-size : goal.returns-clause-size
returns-clause-size c = head_is c.args.self.now.kind
