use Rattle.std.proofs.Common.{arith, ◌≡◌, ◌+◌, ◌-◌}
use Rattle.engine.specs.Body.{body_of, frame_in}
use Rattle.fgo_state.proofs.Counts.{sensors_long}
use Rattle.buffers.proofs.Filling.{filled}
use Rattle.fgo_emit.proofs.put_sensors.Goals as goal

pub returns : goal.returns
returns c =
    let s = body_of c.args.s.now.frame.body in
    let o = c.args.o in
    let n = c.sensor_count.result in
    let k : o + n - o ≡ n = omega arith in
    filled o (o + n - o) c.args.words.now c.loop-i.w-items (frame_in s).sensors 0 (omega (arith, c.loop-i.auto.w-items)) (omega (arith, sensors_long s, c.sensor_count.ensures.count)) (λ j h. c.loop-i.invariant j (omega (arith, c.loop-i-test.false)))
