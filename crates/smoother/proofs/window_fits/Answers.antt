use Rattle.std.proofs.Common.{arith}
use Rattle.std.proofs.lemmas.Bool.Decides.{nat_tests}
use Rattle.smoother.specs.Smoother as Smoother
use Rattle.smoother.proofs.window_fits.Goals as goal

pub returns : goal.returns
unfolding Smoother.window_fits
returns c = grind (arith, nat_tests)
