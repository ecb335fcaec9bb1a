use Rattle.print.specs.Text.{frame_line}
use Rattle.print.proofs.Putting.{puts_more}
use Rattle.print.proofs.short.put_head.Goals as goal

pub returns : goal.returns
unfolding frame_line
returns c = puts_more c.put_text-a.ensures (puts_more c.put_signed_word-b.ensures (puts_more c.put_word-c.ensures (puts_more c.put_word-d.ensures c.put_text.ensures)))
