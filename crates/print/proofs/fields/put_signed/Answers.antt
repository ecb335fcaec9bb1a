use Rattle.print.proofs.Putting.{puts_more, puts_same, signed_low, signed_high}
use Rattle.print.specs.Text.{field}
use mathlib.Core.Path.{sym, ap}
use Prim.Native.Nat.{◌<◌}
use borrow.Author.Rules.{rules}
use Rattle.print.proofs.fields.put_signed.Goals as goal

pub returns-then-word-lt9223372036854775808 : goal.returns-then-word-lt9223372036854775808
returns-then-word-lt9223372036854775808 c = puts_same (ap field (sym (signed_low c.args.word c.if-word-lt9223372036854775808.true))) c.put_decimal.ensures

pub returns : goal.returns
returns c =
    let k : c.args.word < 18446744073709551616 = search rules in
    let r : c.wrapping_neg.result < 18446744073709551616 = search rules in
    puts_same (ap field (sym (signed_high c.args.word c.wrapping_neg.result c.if-word-lt9223372036854775808.false k r c.wrapping_neg.ensures))) (puts_more c.put_text-at.ensures c.put_digits.ensures)
