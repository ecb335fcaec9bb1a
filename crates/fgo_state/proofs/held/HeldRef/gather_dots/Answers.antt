use native.Mathlib.Omega.{arith}
use borrow.Author.Rules.{rules}
use Rattle.fgo_state.proofs.GatheringHeld.{lies_at, dots_held_none, dots_held_fits, dots-held-more}
use Rattle.fgo_state.proofs.held.HeldRef.gather_dots.Goals as goal

pub loop-k-init : goal.loop-k-init
loop-k-init c = (omega arith, dots_held_none _ _ _ _ _)

pub dot_scan-p-requires : goal.dot_scan-p-requires
dot_scan-p-requires c =
    dots_held_fits _ _ _ _ _ c.requires c.loop-k.invariant.1 c.loop-k-test.true (search rules) (lies_at c.held-s.result c.held-s.ensures c.later.ensures)

pub loop-k-preserved : goal.loop-k-preserved
loop-k-preserved c = (
  omega (arith, c.loop-k-test.true),
  dots-held-more _ _ _ _ _ c.requires c.loop-k.invariant.1 c.loop-k-test.true (search rules) (lies_at c.held-s.result c.held-s.ensures c.later.ensures) c.dot_scan-p.ensures.count c.dot_scan-p.ensures.dots,
)
