use Rattle.std.proofs.Common.{sym, ap, ◌∙◌, ◌∷◌, arith}
use lib.ListN.{length-set}
use Rattle.buffers.specs.Answer.{Frame}
use Rattle.smoother_window.specs.Window.{words_in, held_frame, frames_in}
use Rattle.smoother_pass.specs.Pass.{smoothed_flag, emitted}
use Rattle.smoother_pass.specs.Oldest.{oldest}
use Rattle.smoother.specs.Promise.{window}
use Rattle.smoother.proofs.emit_oldest.Goals as goal

pub returns : goal.returns
unfolding oldest emitted
returns c =
    let s = c.args.s.now in
    let a = c.emit_words.ensures.many ∙ sym (length-set (words_in s c.args.window.now 0) 5 (smoothed_flag s.config)) in
    let b = c.emit_numbers.ensures.many in
    let d = c.drop_oldest.ensures in
    let n = c.drop_oldest.new in
    record {
      answer = λ i. Frame (a i) (b i);
      state = d.state;
      window = λ i. window (d.words_cleared i) (d.numbers_cleared i);
      frames = d.frames ∙ ap (λ r. held_frame s c.args.window.now c.args.values.now 0 ∷ frames_in r n.words n.values) d.state;
      words = c.emit_words.ensures.written;
      numbers = c.emit_numbers.ensures.written;
      small = (
        omega (arith, a, c.emit_words.ensures.within),
        omega (arith, b, c.emit_numbers.ensures.within),
      );
    }
