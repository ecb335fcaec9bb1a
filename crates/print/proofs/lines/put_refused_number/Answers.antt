use Rattle.print.specs.Text.{refused_line}
use Rattle.print.proofs.Putting.{puts_more}
use Rattle.print.proofs.lines.put_refused_number.Goals as goal

pub returns : goal.returns
unfolding refused_line
returns c = rw (← c.from.ensures) (puts_more c.put_text-a.ensures (puts_more c.put_decimal-b.ensures c.put_text.ensures))
