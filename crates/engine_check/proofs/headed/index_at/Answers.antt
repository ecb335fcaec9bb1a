use Rattle.engine_check.proofs.Forms.{index_read}
use Rattle.engine_check.proofs.headed.index_at.Goals as goal

pub returns : goal.returns
returns c = index_read c.args.b.now.kind c.args.b.now.bytes.now c.args.o
