use Rattle.std.proofs.Common.{T, sym, subst}
use Rattle.scalar.specs.Digits.{Falls}
use Rattle.scalar.proofs.Positive.{falls_in}
use Rattle.scalar.proofs.digits.digits_of.Goals as goal

pub returns-then-a-clause-kind : goal.returns-then-a-clause-kind
returns-then-a-clause-kind c = subst (Falls c.args.a) (sym c.digits_in.ensures) (falls_in c.args.a (subst T (sym c.well_formed.0.1) tt) c.if-a.true)
