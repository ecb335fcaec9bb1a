-- The bodies "exactly fill the rest, in order without gaps", as a law of what is read. Definitions only.
use Rattle.std.specs.Prelude.{ℕ, ◌+◌, ◌*◌, ◌<◌, ◌≡◌, true, false, take}
use mathlib.Core.List.{List, ◌++◌, flatten}
use Rattle.bounds.specs.Bounds.{CONTENTS, ENTRY}
use Rattle.engine.specs.Body.{rows}
use Rattle.recording.specs.Recording.{count, ill_sized, fills, holds, recorded_body}

-- a recording is its contents and its bodies
pub record Filled (s : List ℕ) : Type 0 where
  -- settings, count and contents table, and then every body in turn: no byte is in none of them or in two
  pub bytes : s ≡ take (CONTENTS + ENTRY * count s) s ++ flatten (rows (recorded_body s) 0 (count s))
  pub held : (i : ℕ) → i < count s → holds s i ≡ true

-- for a recording that 11 and 12 do not refuse, whatever its settings
abbrev pub PassesFilled : Type 0
PassesFilled = (s : List ℕ) → ill_sized s ≡ false → fills s ≡ true → Filled s
