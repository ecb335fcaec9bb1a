use mathlib.Core.Bool.{◌&&◌, not}
use lib.Dec.{ltb}
use Rattle.std.proofs.Common.{rules, tests}
use Rattle.fgo_spec.specs.Lists.{any, has}
use Rattle.fgo_state.proofs.Tracks.{filtered}
use Rattle.fgo_state.proofs.Standing.{contains-has}
use Rattle.fgo_place.proofs.place.free_owner.Goals as goal

pub returns : goal.returns
unfolding any
returns c =
    let a = c.args in
    filtered (λ n. ltb n a.old.0 && not (has n a.ids.now)) _ c.owner_of.result c.filter.result c.owner_of.ensures c.filter.ensures (λ x b q. search (rules, tests, contains-has))
