use mathlib.Core.Path.{◌≡◌}
use lib.ListN.{length}
use borrow.Author.Rules.{rules}
use Rattle.bounds.specs.Bounds.{PARTS, FILTERS}
use Rattle.fgo_freeze.proofs.Raising.{raised}
use Rattle.fgo_freeze.proofs.make_room.Goals as goal

pub returns : goal.returns
returns c =
    let a = c.args in
    let w : length a.parts.now.tracks ≡ PARTS = search rules in
    let d : length a.parts.now.filters ≡ FILTERS = search rules in
    raised a.k a.frozen _ _ _ _ c.requires.0 c.requires.1 w d c.copy_within.ensures.after c.copy_within-2.ensures.after
