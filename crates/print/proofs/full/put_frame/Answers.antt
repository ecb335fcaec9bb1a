use lib.Ieee.{nan}
use Rattle.print.specs.Text.{words_line, numbers_line, full_form}
use Rattle.print.proofs.Putting.{puts_more}
use Rattle.print.proofs.full.put_frame.Goals as goal

pub returns : goal.returns
unfolding words_line numbers_line full_form
returns c = puts_more (c.put_line-a.ensures 0) (c.put_line.ensures nan)
