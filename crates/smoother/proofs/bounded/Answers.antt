use Rattle.std.proofs.Common.{arith}
use Rattle.std.proofs.lemmas.Bool.Decides.{nat_tests}
use Rattle.smoother_window.specs.Config as Config
use Rattle.smoother.proofs.bounded.Goals as goal

pub returns-then-c-le-LAG : goal.returns-then-c-le-LAG
unfolding Config.bounded
returns-then-c-le-LAG c = let v = c.contains.ensures.value in rw v (grind (arith, nat_tests))

pub returns-else-c-le-LAG : goal.returns-else-c-le-LAG
unfolding Config.bounded
returns-else-c-le-LAG c = grind (arith, nat_tests)
