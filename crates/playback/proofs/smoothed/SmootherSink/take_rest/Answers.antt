use Prim.Native.Nat.{◌<◌}
use native.Mathlib.Omega.{arith}
use mathlib.Core.Path.{◌∙◌}
use Rattle.playback.proofs.Serving.{tells_fewer}
use Rattle.playback.proofs.smoothed.SmootherSink.take_rest.Goals as goal

pub loop-self-init : goal.loop-self-init
loop-self-init g c = (omega arith, omega arith)

pub loop-self-preserved : goal.loop-self-preserved
loop-self-preserved g c =
    let long = c.loop-self.invariant in
    let p = c.take-end.ensures.promised in
    (p.words ∙ long.0, p.numbers ∙ long.1)

pub loop-self-smaller : goal.loop-self-smaller
loop-self-smaller g c =
    let some : 0 < c.loop-self.self.state.held = omega (arith, c.loop-self-test.true) in
    let long = c.loop-self.invariant in
    omega (arith, tells_fewer long.0 long.1 some c.take-end.ensures)
