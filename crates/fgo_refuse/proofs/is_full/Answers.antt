use Rattle.std.proofs.Common.{arith}
use Rattle.std.proofs.lemmas.Bool.Decides.{nat_tests}
use Rattle.fgo_refuse.specs.Refusing.{full_in}
use Rattle.fgo_refuse.proofs.is_full.Goals as goal

pub returns-then-k-gt-COUNTED-3 : goal.returns-then-k-gt-COUNTED-3
unfolding full_in
returns-then-k-gt-COUNTED-3 c = grind (arith, nat_tests)

pub returns-else-k-gt-COUNTED-3 : goal.returns-else-k-gt-COUNTED-3
unfolding full_in
returns-else-k-gt-COUNTED-3 c = grind (arith, nat_tests)
