use Rattle.print.specs.Text.{track_line}
use Rattle.print.proofs.Putting.{puts_more}
use Rattle.print.proofs.short.put_track.Goals as goal

pub returns : goal.returns
unfolding track_line
returns c = puts_more c.put_text-a.ensures (puts_more c.put_word-b.ensures (puts_more c.put_word-c.ensures (puts_more c.put_signed_word-d.ensures (puts_more c.put_word-e.ensures (puts_more c.put_position-f.ensures c.put_text.ensures)))))
