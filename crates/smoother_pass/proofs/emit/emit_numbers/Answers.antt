use Rattle.std.proofs.Common.{◌≡◌, ◌*◌, sym, ap, ◌∙◌, length, drop, arith}
use Rattle.bounds.specs.Bounds.{STATE}
use Rattle.buffers.specs.Buffers.{over}
use Rattle.smoother_frame.specs.Frame.{track_count, costs_from, numbers_long}
use Rattle.smoother_window.specs.Held.{state_of, frames_of, frame_of}
use Rattle.smoother_pass.specs.Pass.{states_to, emitted}
use Rattle.smoother_pass.specs.Oldest.{oldest}
use Rattle.smoother_pass.proofs.Writing.{front, and_then, rest_long}
use Rattle.smoother_pass.proofs.emit.emit_numbers.Goals as goal

pub returns-clause-many : goal.returns-clause-many
unfolding emitted oldest
returns-clause-many c =
    let g = c.args in
    let f = c.frame-frame.ensures in
    let l : length (frame_of g.held.now 0).numbers ≡ numbers_long (frame_of g.held.now 0).words = rw f at c.numbers.ensures.whole in
    ap length c.numbers.ensures.value ∙ ap (λ f. length f.numbers) f ∙ rest_long _ g.numbers.now c.put_states.ensures.whole (frame_of g.held.now 0).numbers (omega arith)

pub returns-clause-written : goal.returns-clause-written
unfolding emitted oldest
returns-clause-written c =
    let g = c.args in
    let h = g.held.now in
    let f = c.frame-frame.ensures in
    let s = states_to (state_of h).config (frames_of h) (frame_of h 0) (track_count (frame_of h 0).words) in
    let k = c.costs_from.ensures ∙ ap (λ n. STATE * n) c.counts.ensures.tracks ∙ ap (λ f. costs_from f.words) f in
    let v = c.costs.ensures ∙ ap (λ f. drop (costs_from f.words) f.numbers) f in
    let t : track_count c.frame-frame.result.words ≡ track_count (frame_of h 0).words = ap (λ f. track_count f.words) f in
    and_then s g.numbers.now c.put_states.ensures.whole (drop (costs_from (frame_of h 0).words) (frame_of h 0).numbers) (omega (arith, c.counts.result.few_tracks, c.counts.ensures.tracks))
    (c.put_states.ensures.written ∙ sym (front s g.numbers.now c.put_states.ensures.whole))
    (c.put.ensures ∙ (λ i. over (k i) (v i) c.put_states.new.out))
