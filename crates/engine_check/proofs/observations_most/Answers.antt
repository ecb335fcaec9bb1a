use Rattle.engine_check.proofs.Forms.{observations_most}
use Rattle.engine_check.proofs.observations_most.Goals as goal

pub returns : goal.returns
returns c = observations_most c.args.kind
