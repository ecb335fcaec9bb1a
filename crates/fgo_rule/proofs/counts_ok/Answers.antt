use Rattle.std.proofs.Common.{arith}
use Rattle.std.proofs.lemmas.Bool.Decides.{nat_tests}
use Rattle.fgo_rule.specs.Tests.{counts_ok}
use Rattle.fgo_rule.proofs.FewScans.{lag_few}
use Rattle.fgo_rule.proofs.counts_ok.Goals as goal

pub overflow_add-r : goal.overflow_add-r
overflow_add-r c = record { fits = grind (arith, nat_tests, lag_few) }

pub returns-then-r-le-FROZEN : goal.returns-then-r-le-FROZEN
unfolding counts_ok
returns-then-r-le-FROZEN c = grind (arith, nat_tests)

pub returns-else-r-le-FROZEN : goal.returns-else-r-le-FROZEN
unfolding counts_ok
returns-else-r-le-FROZEN c = grind (arith, nat_tests)
