use Rattle.smoother_window.specs.Held.{state_of, frames_of, frame_of}
use Rattle.smoother_pass.proofs.Writing.{Stated}
use Rattle.smoother_pass.proofs.emit.put_states.Given as goal

abbrev pub invariant-loop-i : goal.invariant-loop-i
invariant-loop-i l = Stated (state_of l.held).config (frames_of l.held) (frame_of l.held 0) l.initial.out l.out l.i
