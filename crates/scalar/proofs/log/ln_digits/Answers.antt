use Rattle.scalar.proofs.Logarithm.{one_no_nan, brought, above, not_above}
use Rattle.scalar.proofs.log.ln_digits.Goals as goal

pub float_from_bits-m : goal.float_from_bits-m
float_from_bits-m c = one_no_nan _ c.full_digits-full.ensures.most

pub returns-then-m : goal.returns-then-m
returns-then-m c = rw (brought c.requires.0 c.requires.1 c.full_digits-full.ensures, above _ _ c.if-m.true) c.ln_near.ensures

pub returns : goal.returns
returns c = rw (brought c.requires.0 c.requires.1 c.full_digits-full.ensures, not_above _ _ c.if-m.false) c.ln_near-2.ensures
