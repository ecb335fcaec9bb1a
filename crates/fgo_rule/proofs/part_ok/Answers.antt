use Rattle.std.proofs.Common.{arith}
use Rattle.std.proofs.lemmas.Bool.Decides.{nat_tests}
use Rattle.fgo_rule.specs.Tests.{part_ok}
use Rattle.fgo_rule.proofs.part_ok.Goals as goal

pub returns-then-lt-3 : goal.returns-then-lt-3
unfolding part_ok
returns-then-lt-3 c = grind (arith, nat_tests)

pub returns-else-lt-3 : goal.returns-else-lt-3
unfolding part_ok
returns-else-lt-3 c = grind (arith, nat_tests)
