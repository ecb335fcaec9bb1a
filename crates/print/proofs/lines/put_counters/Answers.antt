use Rattle.print.specs.Text.{counters_line}
use Rattle.print.proofs.Putting.{puts_more}
use Rattle.print.proofs.lines.put_counters.Goals as goal

pub returns : goal.returns
unfolding counters_line
returns c = puts_more c.put_text-a.ensures (puts_more c.put_decimal-b.ensures (puts_more c.put_decimal-c.ensures (puts_more c.put_decimal-d.ensures (puts_more c.put_decimal-e.ensures c.put_text.ensures))))
