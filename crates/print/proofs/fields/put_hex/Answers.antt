use Rattle.print.proofs.Putting.{puts_more, puts_same, hex_text}
use Prim.Native.Nat.{◌≤◌}
use borrow.Author.Rules.{rules}
use Rattle.print.proofs.fields.put_hex.Goals as goal

pub returns : goal.returns
returns c = let k : c.args.x ≤ 18446744073709551615 = search rules in puts_more c.put_text-at.ensures (puts_same (hex_text c.args.x c.hex-k.result k c.hex-k.ensures.len c.hex-k.ensures.digits) c.put_text.ensures)
