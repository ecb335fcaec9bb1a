use Prim.Native.Nat.{◌<◌}
use native.Mathlib.Omega.{arith}
use Rattle.playback.proofs.Playing.{take_more}
use Rattle.playback.proofs.steps.Player.take_all.Goals as goal

pub loop-self-preserved : goal.loop-self-preserved
loop-self-preserved g c =
    let some : 0 < c.loop-self.self.refiner.held = omega (arith, c.loop-self-test.true) in
    let t = c.take_one.ensures in
    take_more _ _ c.requires c.loop-self.invariant some t.fewer t.leads
