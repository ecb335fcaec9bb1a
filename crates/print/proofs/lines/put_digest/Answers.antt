use Rattle.print.specs.Text.{digest_line}
use Rattle.print.proofs.Putting.{puts_more}
use Rattle.print.proofs.lines.put_digest.Goals as goal

pub returns : goal.returns
unfolding digest_line
returns c = puts_more c.put_text-d.ensures (puts_more c.put_hex-e.ensures (puts_more c.put_hex-f.ensures (puts_more c.put_hex-g.ensures c.put_text.ensures)))
