use Rattle.std.proofs.Common.{sym, ◌∙◌, arith}
use Rattle.fgo_part.specs.Parts.{prefix_in}
use Rattle.fgo_emit.proofs.Listing.{puts_none, puts_more, puts_same}
use Rattle.fgo_emit.proofs.put_tracks.Goals as goal
use Rattle.fgo_emit.proofs.put_tracks.Goals.{then-is_listed, else-is_listed}

pub loop-k-init : goal.loop-k-init
loop-k-init c = (omega arith, puts_none _ _ _ _ _ _)

pub is_listed-requires : goal.is_listed-requires
unfolding prefix_in
is_listed-requires c = (omega (arith, c.requires.0.few), (c.requires.0.parts c.loop-k.k c.loop-k-test.true).timed)

pub loop-k-preserved : goal.loop-k-preserved
loop-k-preserved c = let few = c.requires.0.few in
    let taken = c.loop-k-test.true in
    let done = c.loop-k.invariant.1 in
    let listed = c.is_listed.ensures in (
      omega arith,
      elim c.if-is_listed.branch [
        | then-is_listed w ↦ puts_more _ _ _ _ _ _ done (sym listed ∙ w.if-is_listed.true) (omega (arith, c.requires.1.words, done.few)) (omega (arith, c.requires.1.numbers, done.few)) w.put_track.ensures w.words-is w.numbers-is w.i-is
        | else-is_listed w ↦ puts_same _ _ _ _ _ _ done (sym listed ∙ w.if-is_listed.false) w.words-is w.numbers-is w.i-is
      ],
    )
