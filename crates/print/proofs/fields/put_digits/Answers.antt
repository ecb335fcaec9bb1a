use Rattle.print.proofs.Putting.{puts_same, decimal-text}
use Prim.Native.Nat.{◌≤◌}
use borrow.Author.Rules.{rules}
use Rattle.print.proofs.fields.put_digits.Goals as goal

pub returns : goal.returns
returns c = let k : c.args.x ≤ 18446744073709551615 = search rules in puts_same (decimal-text c.args.x c.decimal-k.result k c.decimal-k.ensures.len c.decimal-k.ensures.digits) c.put_text.ensures
