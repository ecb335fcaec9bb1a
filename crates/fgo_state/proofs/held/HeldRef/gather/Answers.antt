use native.Mathlib.Omega.{arith}
use borrow.Author.Rules.{rules}
use mathlib.Core.Path.{refl}
use Rattle.fgo_state.proofs.GatheringHeld.{lies_at}
use Rattle.fgo_state.proofs.AddingScan.{none_gathered, add_fits, added}
use Rattle.fgo_state.proofs.held.HeldRef.gather.Goals as goal

pub loop-k-init : goal.loop-k-init
loop-k-init c = (omega arith, none_gathered _ _ _ _ refl refl refl refl)

pub add-requires : goal.add-requires
add-requires c = add_fits _ _ _ c.requires c.loop-k-test.true c.loop-k.invariant.1 (lies_at c.held-s.result c.held-s.ensures c.later.ensures)

pub loop-k-preserved : goal.loop-k-preserved
loop-k-preserved c = (
  omega (arith, c.loop-k-test.true),
  added _ _ _ c.requires c.loop-k-test.true c.loop-k.invariant.1 (lies_at c.held-s.result c.held-s.ensures c.later.ensures) (search rules) c.add.ensures,
)
