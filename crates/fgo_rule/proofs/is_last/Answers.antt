use Rattle.std.proofs.Common.{◌∙◌}
use Rattle.fgo_rule.proofs.LastPlace.{last_told}
use Rattle.fgo_rule.proofs.is_last.Goals as goal

pub returns : goal.returns
returns c = c.eq.ensures ∙ last_told c.args.ids.now.ids.now c.args.k c.requires c.place_of.result c.place_of.ensures
