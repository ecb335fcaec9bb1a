use mathlib.Core.Path.{◌≡◌, ◌∙◌}
use lib.ListN.{length}
use Rattle.bounds.specs.Bounds.{HEIGHTS}
use Rattle.fgo_part.proofs.Parts.{heights_over}
use borrow.Author.Rules.{rules}
use Rattle.fgo_part.proofs.Heights.numbers.Goals as goal

pub returns : goal.returns
returns c =
    let s = c.args.self in
    let high : length s.values ≡ HEIGHTS = search rules in
    c.put.ensures ∙ heights_over s.values s.count high c.requires
