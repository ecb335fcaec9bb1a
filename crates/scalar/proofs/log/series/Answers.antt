use lib.Ieee.{of_bits, of_int, round}
use Rattle.scalar.specs.Ln.{odds_down}
use Rattle.scalar.proofs.Reciprocals.{series_is}
use Rattle.scalar.proofs.log.series.Goals as goal

-- each literal is the whole number that it writes
pub returns : goal.returns
unfolding of_bits of_int round odds_down
returns c = series_is c.args.w
