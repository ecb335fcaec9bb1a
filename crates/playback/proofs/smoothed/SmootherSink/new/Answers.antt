use native.Mathlib.Omega.{arith}
use mathlib.Core.Path.{◌≡◌, ◌∙◌}
use lib.Seq.{length-take-le}
use Rattle.bounds.specs.Bounds.{TRACKS, words_for, numbers_for}
use Rattle.playback.proofs.Opening.{first_serves}
use Rattle.playback.proofs.smoothed.SmootherSink.new.Goals as goal

pub invariant_of-result : goal.invariant_of-result
invariant_of-result c =
    let size = c.window_size.result in
    let words : size.words ≡ words_for TRACKS = omega (arith, c.window_size.ensures) in
    let numbers : size.numbers ≡ numbers_for TRACKS = omega (arith, c.window_size.ensures) in
    record {
      fits = (omega (arith, words), omega (arith, numbers));
      led = ∣ first_serves _ (length-take-le size.words _ (omega (arith, words)) ∙ words) (length-take-le size.numbers _ (omega (arith, numbers)) ∙ numbers) ∣₁;
    }
