use Rattle.std.proofs.Common.{◌≡◌, ℕ, ◌<◌, get_or}
use Rattle.engine.specs.Body.{body_of, frame_in}
use Rattle.fgo_emit.proofs.put_sensors.Given as goal

abbrev pub invariant-loop-i : goal.invariant-loop-i
invariant-loop-i l = (k : ℕ) → k < l.i → get_or l.w-items k 0 ≡ get_or (frame_in (body_of l.s.frame.body)).sensors k 0
