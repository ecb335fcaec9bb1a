use mathlib.Core.Path.{◌≡◌, ◌∙◌}
use lib.ListN.{length}
use Rattle.bounds.specs.Bounds.{HEIGHTS}
use Rattle.fgo_part.proofs.Parts.{copy_over}
use Rattle.fgo_part.proofs.Recent.{few_heights, full_heights}
use borrow.Author.Rules.{rules}
use Rattle.fgo_part.proofs.Heights.with.Goals as goal

pub returns-then-self-lt-HEIGHTS-clause-heights : goal.returns-then-self-lt-HEIGHTS-clause-heights
returns-then-self-lt-HEIGHTS-clause-heights c =
    let s = c.args.self in
    let l : length s.values ≡ HEIGHTS = search rules in
    few_heights s.values s.count c.args.z l c.if-self-lt-HEIGHTS.true

pub returns-clause-heights : goal.returns-clause-heights
returns-clause-heights c =
    let s = c.args.self in
    let l : length s.values ≡ HEIGHTS = search rules in
    rw (c.copy_within.ensures.after ∙ copy_over s.values 1 4 0 (search rules)) (full_heights s.values s.count c.args.z l c.requires c.if-self-lt-HEIGHTS.false)
