use Rattle.print.specs.Text.{assoc_line}
use Rattle.print.proofs.Putting.{puts_more}
use Rattle.print.proofs.short.put_association.Goals as goal

pub returns : goal.returns
unfolding assoc_line
returns c = puts_more c.put_text-a.ensures (puts_more c.put_word-b.ensures (puts_more c.put_word-c.ensures (puts_more c.put_word-d.ensures c.put_text.ensures)))
