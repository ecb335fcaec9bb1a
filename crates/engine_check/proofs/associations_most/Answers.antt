use Rattle.engine_check.proofs.Forms.{associations_most}
use Rattle.engine_check.proofs.associations_most.Goals as goal

pub returns : goal.returns
returns c = associations_most c.args.kind
