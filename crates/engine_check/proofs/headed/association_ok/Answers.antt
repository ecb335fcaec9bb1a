use Rattle.engine_check.proofs.Forms.{association_tested}
use Rattle.engine_check.proofs.headed.association_ok.Goals as goal

pub returns : goal.returns
returns c = association_tested c.args.b.now.kind c.args.b.now.bytes.now c.args.o c.narrow_association_ok.ensures
