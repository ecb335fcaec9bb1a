use mathlib.Core.Path.{refl}
use lib.Ieee.{of_bits}
use Rattle.engine.proofs.body.no_observation.Goals as goal

pub returns : goal.returns
unfolding of_bits
returns c = refl
