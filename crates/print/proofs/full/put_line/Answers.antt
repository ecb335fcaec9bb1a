use Rattle.print.proofs.Putting.{puts_more}
use Rattle.print.proofs.full.put_line.Goals as goal

pub returns : goal.returns
returns g c past = puts_more c.put_text-a.ensures (puts_more (c.put_each-b.ensures past) c.put_text.ensures)
