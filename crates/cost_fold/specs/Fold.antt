-- What the fold over a row asks. Definitions only.
use Rattle.std.specs.Prelude.{ℕ, ◌+◌, ◌^◌, ◌<◌, ◌≤◌, ◌≡◌, List, [], length, get_or, drop}
use Rattle.bounds.specs.Bounds.{SCANS}
use Rattle.cost.specs.declared.Fold.{Fold}
use Rattle.cost.specs.Cost.{View, measurements, misses_of}

-- a row's part of few slots, and few misses so far
pub record Asks (slots : List ℕ) (k : ℕ) (from : Fold) : Type 0 where
  pub short : k + length slots ≤ SCANS
  pub few : misses_of from < 2 ^ 60

-- no slot of a row has a detection
abbrev pub Bare : List ℕ → Type 0
Bare slots = (v : View) (k : ℕ) → measurements v k slots ≡ []

-- the first detection of a row stands at place n: the slots before it are left out
pub record Leading (slots : List ℕ) (n : ℕ) : Type 0 where
  pub rest : (v : View) (k : ℕ) → measurements v k slots ≡ measurements v (k + n) (drop n slots)
  pub within : n < length slots
  pub found : 0 < get_or slots n 0
