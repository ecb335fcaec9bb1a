-- What a caller lends for output, and the frame that the refiner gave last. Definitions only.
use Rattle.std.specs.Prelude.{ℕ, ◌≤◌, ◌≡◌, List, length, take, drop, Float}
use Rattle.bounds.specs.Bounds.{WORDS, NUMBERS, LENT_WORDS, LENT_NUMBERS}
use Rattle.buffers.specs.Answer.{Written}
use Rattle.buffers.specs.declared.FrameSize.{FrameSize}
use Rattle.calls_cells.specs.declared.lent.FrameRoom.{FrameRoom}

-- the output buffers
abbrev pub Output : Type 0
Output = FrameRoom LENT_WORDS LENT_NUMBERS

-- what of them is lent
abbrev pub words_lent : Output → List ℕ
words_lent o = take o.size.words o.words

abbrev pub numbers_lent : Output → List Float
numbers_lent o = take o.size.numbers o.numbers

-- so much of two buffers can be lent
pub record Lends (lent : FrameSize) (ws : List ℕ) (ns : List Float) : Type 0 where
  pub words : lent.words ≤ length ws
  pub numbers : lent.numbers ≤ length ns

-- so much of them was: that was done to it, and the rest stays
pub record Lent (Done : List ℕ → List Float → List ℕ → List Float → Type 0) (lent : FrameSize)
    (ws : List ℕ) (ns : List Float) (ws' : List ℕ) (ns' : List Float) : Type 0 where
  pub done : Done (take lent.words ws) (take lent.numbers ns) (take lent.words ws') (take lent.numbers ns')
  pub words : drop lent.words ws' ≡ drop lent.words ws
  pub numbers : drop lent.numbers ns' ≡ drop lent.numbers ns

-- from one to the next: as much is lent, and what is not lent stays
pub record RestStays (o o' : Output) : Type 0 where
  pub lent : o'.size ≡ o.size
  pub words : drop o.size.words o'.words ≡ drop o.size.words o.words
  pub numbers : drop o.size.numbers o'.numbers ≡ drop o.size.numbers o.numbers

-- where the frame that the refiner gave last is kept
abbrev pub LastFrame : Type 0
LastFrame = FrameRoom WORDS NUMBERS

-- that frame
abbrev pub last_frame : LastFrame → Written
last_frame l = record { words = take l.size.words l.words; numbers = take l.size.numbers l.numbers }
