-- What a frame must be for it to be printed. Definitions, and a lemma of the fact that a struct keeps.
use Rattle.std.specs.Prelude.{ℕ, ◌≤◌, List, length, take, Float}
use Rattle.std.specs.Coded.{Unit-prop, le_prop}
use Rattle.bounds.specs.Bounds.{WORDS, NUMBERS}
use Rattle.smoother_frame.specs.Frame.{Counts}
use Rattle.buffers.specs.Answer.{Answer, Refused, Held, Frame}

-- a frame of so many words and numbers stands at the front of the words ws and the numbers xs, and is no longer than a
-- frame may be
pub record Stands (w x : ℕ) (ws : List ℕ) (xs : List Float) : Type 0 where
  pub words : w ≤ length ws
  pub numbers : x ≤ length xs
  pub wide : w ≤ WORDS
  pub deep : x ≤ NUMBERS

-- that of an answer, if it gives one
abbrev pub Shown : Answer → List ℕ → List Float → Type 0
Shown (Refused n) ws xs = Unit {0}
Shown Held ws xs = Unit {0}
Shown (Frame w x) ws xs = Stands w x ws xs

-- and its counts are in bounds
abbrev pub Counted : Answer → List ℕ → Type 0
Counted (Refused n) ws = Unit {0}
Counted Held ws = Unit {0}
Counted (Frame w x) ws = Counts (take w ws)

-- that it is shown has one proof at most
pub shown_prop : (a : Answer) (ws : List ℕ) (xs : List Float) → IsProp (Shown a ws xs)
shown_prop (Refused n) ws xs = Unit-prop
shown_prop Held ws xs = Unit-prop
shown_prop (Frame w x) ws xs =
    λ h k i.
    record {
      words = le_prop h.words k.words i;
      numbers = le_prop h.numbers k.numbers i;
      wide = le_prop h.wide k.wide i;
      deep = le_prop h.deep k.deep i;
    }
