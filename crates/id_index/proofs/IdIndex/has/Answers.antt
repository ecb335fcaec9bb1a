use Rattle.std.proofs.Common.{◌∙◌}
use Rattle.id_index.proofs.Standing.{place-has}
use Rattle.id_index.proofs.IdIndex.has.Goals as goal

pub returns : goal.returns
returns c = c.is_some.ensures ∙ place-has c.args.x c.args.self.now.ids.now c.place_of.result c.place_of.ensures
