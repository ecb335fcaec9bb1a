use mathlib.Core.Path.{refl}
use Rattle.search_neighbours.specs.Near.{near_points}
use Rattle.search_neighbours.proofs.near_points.Goals as goal

pub returns : goal.returns
unfolding near_points
returns c = refl
