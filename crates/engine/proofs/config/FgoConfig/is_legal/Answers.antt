use Rattle.std.proofs.Common.{arith}
use Rattle.std.proofs.lemmas.Bool.Decides.{nat_tests}
use Rattle.engine.specs.Config.{legal}
use Rattle.engine.proofs.config.FgoConfig.is_legal.Goals as goal

pub returns-then-is_finite-6 : goal.returns-then-is_finite-6
unfolding legal
returns-then-is_finite-6 c = grind (arith, nat_tests)

pub returns-else-is_finite-6 : goal.returns-else-is_finite-6
unfolding legal
returns-else-is_finite-6 c = grind (arith, nat_tests)
