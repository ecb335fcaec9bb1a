use Rattle.std.proofs.Common.{lt_of_lt_of_le, mod-eq_of_lt, lit≤}
use Rattle.scalar.proofs.Positive.{shift, full}
use Rattle.scalar.proofs.digits.full_digits.Goals as goal

pub overflow_sub-shift : goal.overflow_sub-shift
overflow_sub-shift c = (shift c.args.q c.requires.0 c.requires.1).zeros

pub returns : goal.returns
returns c =
    let s = shift c.args.q c.requires.0 c.requires.1 in
    rw (mod-eq_of_lt (lt_of_lt_of_le s.most (lit≤ tt))) (full c.args.y s)
