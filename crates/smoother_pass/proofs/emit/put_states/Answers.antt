use Rattle.std.proofs.Common.{◌≡◌, ◌+◌, ◌*◌, ◌≤◌, ◌∙◌, length, rules, arith, length-append}
use Rattle.bounds.specs.Bounds.{VECTOR, COVARIANCE, STATE}
use Rattle.rts.specs.Smoothing.{estimate_of}
use Rattle.smoother_frame.specs.Frame.{track_count}
use Rattle.smoother_window.specs.Held.{state_of, frames_of, frame_of}
use Rattle.smoother_pass.specs.Pass.{flat, states_to}
use Rattle.smoother_pass.proofs.Writing.{front, none_stated, one_stated}
use Rattle.smoother_pass.proofs.emit.put_states.Goals as goal

pub loop-i-init : goal.loop-i-init
loop-i-init c = none_stated _ _ _ c.args.out.now

pub loop-i-preserved : goal.loop-i-preserved
loop-i-preserved c =
    let h = c.args.held.now in
    let a = c.smooth.result in
    let x : length a.x ≡ VECTOR = search rules in
    let y : length a.p ≡ COVARIANCE = search rules in
    let l : length (flat (estimate_of a)) ≡ STATE = omega (arith, length-append a.x a.p) in
    let b : STATE * c.loop-i.i + STATE ≤ length c.args.out.now = omega (arith, c.counts-i-end.result.few_tracks) in
    one_stated (state_of h).config (frames_of h) (frame_of h 0) c.args.out.now c.loop-i.i (estimate_of a) c.smooth.ensures l b c.loop-i.invariant c.put_state.ensures

pub returns-clause-written : goal.returns-clause-written
returns-clause-written c =
    let h = c.args.held.now in
    let t : c.counts-i-end.result.tracks ≡ track_count (frame_of h 0).words = rw c.frame.ensures at c.counts-i-end.ensures.tracks in
    let e : c.loop-i.i ≡ track_count (frame_of h 0).words = omega arith in
    let w = rw e at c.loop-i.invariant in
    w.same ∙ front (states_to (state_of h).config (frames_of h) (frame_of h 0) _) c.args.out.now w.long
