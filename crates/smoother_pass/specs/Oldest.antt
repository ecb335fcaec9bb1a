-- The oldest held frame, smoothed. Definitions only.
use Rattle.std.specs.Prelude.{ℕ, List, Float}
use Rattle.buffers.specs.Answer.{Written}
use Rattle.smoother_window.specs.declared.FixedLagSmoother.{FixedLagSmoother}
use Rattle.smoother_window.specs.Window.{held_frame, frames_in}
use Rattle.smoother_pass.specs.Pass.{emitted}

-- the oldest held frame, smoothed
unfoldable pub oldest : FixedLagSmoother → List ℕ → List Float → Written
oldest s win nums = emitted s.config (frames_in s win nums) (held_frame s win nums 0)
