use Rattle.print.proofs.Putting.{puts_more}
use Rattle.print.proofs.fields.put_decimal.Goals as goal

pub returns : goal.returns
returns c = puts_more c.put_text-at.ensures c.put_digits.ensures
