-- What is told of an answer: the text that stands at the start of the lent bytes, ready to be written. Definitions
-- only.
use Rattle.std.specs.Prelude.{ℕ, ◌≡◌, List, [], take, replicate, Float}
use Rattle.bounds.specs.Bounds.{WORDS, NUMBERS}
use Rattle.scalar.specs.Digits.{nil}
use Rattle.buffers.specs.Answer.{Op, pushed, Written, Answer, Refused, Held, Frame}
use Rattle.print.specs.Text.{Ready, refused_line, full_answer}
use Rattle.smoother_frame.specs.Frame.{frame}
use Rattle.smoother.specs.Promise.{Window, window, lent_of, Promised, Pushed}
use Rattle.playback.specs.declared.output.FrameBuffers.{FrameBuffers}
use Rattle.playback.specs.declared.smoothed.Smoother.{Smoother}

-- output buffers that were never used
abbrev pub empty_buffers : FrameBuffers
empty_buffers = record { words = replicate WORDS 0; numbers = replicate NUMBERS nil }

-- a text is told, and k, of which k' is left, stays as it was: the lent bytes, and where the text in them ends
pub record Puts {K : Type 0} (k k' : K) (out' : List ℕ) (end : ℕ) (line : List ℕ) : Type 0 where
  pub stays : k' ≡ k
  pub text : Ready line out' end

-- the window that is lent to a smoother
abbrev pub lent_to : Smoother → Window
lent_to k = lent_of k.size (window k.words k.values)

-- of a smoother k: what is left of it, the lent bytes, and where the text in them ends
module _ (k k' : Smoother) (out' : List ℕ) (end : ℕ) where
  -- it is pushed a frame, or taken from, by its contract, with its output buffers, and its answer is told in full
  pub record Tells (o : Op Written) : Type 0 where
    pub given : Pushed
    pub promised : Promised o k.state (lent_to k) k.output.words k.output.numbers given (lent_to k') k'.output.words k'.output.numbers
    pub state : k'.state ≡ given.state
    pub text : Ready (full_answer given.answer k'.output.words k'.output.numbers) out' end

  -- an answer of the refiner, whose frame stands at the front of the words ws and the numbers ns, comes to it: a
  -- refusal is told, and a frame is pushed
  abbrev pub Smooths : Answer → List ℕ → List Float → Type 0
  Smooths (Refused n) ws ns = Puts k k' out' end (refused_line n)
  Smooths Held ws ns = Puts k k' out' end []
  Smooths (Frame m n) ws ns = Tells (pushed (frame (take m ws) (take n ns)))
