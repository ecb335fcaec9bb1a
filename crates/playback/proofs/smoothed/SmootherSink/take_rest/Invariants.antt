use mathlib.Core.Path.{◌≡◌}
use lib.ListN.{length}
use Rattle.bounds.specs.Bounds.{WORDS, NUMBERS}
use Rattle.playback.proofs.smoothed.SmootherSink.take_rest.Given as goal

abbrev pub invariant-loop-self : goal.invariant-loop-self
invariant-loop-self g l = (length l.self.output.words ≡ WORDS) × (length l.self.output.numbers ≡ NUMBERS)

abbrev pub decreases-loop-self : goal.decreases-loop-self
decreases-loop-self g l = l.self.state.held
