use mathlib.Core.Path.{◌∙◌}
use Rattle.fgo_part.proofs.Places.{part_has}
use Rattle.fgo_part.proofs.FrozenTracks.has.Goals as goal

pub returns : goal.returns
returns c =
    let s = c.args.self.now in
    c.is_some.ensures ∙ part_has s.tracks.now s.count c.args.id.0 c.find.result c.find.ensures
