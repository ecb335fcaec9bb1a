-- The frames that a lent window holds. Definitions only.
use Rattle.std.specs.Prelude.{ℕ, List}
use Rattle.buffers.specs.Answer.{Written}
use Rattle.smoother_window.specs.declared.FixedLagSmoother.{FixedLagSmoother}
use Rattle.smoother_window.specs.declared.held.HeldFrames.{HeldFrames}
use Rattle.smoother_window.specs.Window.{held_frame, frames_in}

-- the state of the smoother
abbrev pub state_of : HeldFrames → FixedLagSmoother
state_of h = h.window.state

-- all of them, oldest first
abbrev pub frames_of : HeldFrames → List Written
frames_of h = frames_in h.window.state h.window.words.now h.window.values.now

-- the k-th of them
abbrev pub frame_of : HeldFrames → ℕ → Written
frame_of h k = held_frame h.window.state h.window.words.now h.window.values.now k
