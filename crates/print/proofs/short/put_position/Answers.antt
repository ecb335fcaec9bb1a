use Rattle.print.specs.Text.{position}
use Rattle.print.proofs.Putting.{puts_more}
use Rattle.print.proofs.short.put_position.Goals as goal

pub returns : goal.returns
unfolding position
returns c = puts_more c.put_bits-a.ensures (puts_more c.put_bits-b.ensures c.put_bits.ensures)
