use Rattle.std.proofs.Common.{T, sym, subst, arith}
use Rattle.cost.proofs.LogTable.{found}
use Rattle.cost.proofs.logs.Logs.log_of.Goals as goal

pub returns-then-old-b : goal.returns-then-old-b
returns-then-old-b c = found c.args.s (subst T (sym c.well_formed.1.0.1) tt) c.if-s.true _ (c.args.self.now.kept.right _ (omega arith)) c.if-old-b.true
