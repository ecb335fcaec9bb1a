-- Document 01, "Recording and print", and what a recording is refused for: 11, 12, then 1. Definitions only.
use Rattle.std.specs.Prelude.{ℕ, zero, suc, ◌+◌, ◌*◌, List, [], length, take, drop, Result, Ok, Err}
use Rattle.std.specs.Prelude.{Bool, cond, not, ◌&&◌, ◌||◌, leb, ltb, eqb}
use Rattle.bounds.specs.Bounds.{SETTING, SETTINGS, CONTENTS, ENTRY, FRAMES, RECORDING}
use Rattle.engine.specs.Little.{little}
use Rattle.engine.specs.Body.{all}
use Rattle.engine.specs.Config.{legal, config_by}
use Rattle.engine.specs.declared.config.FgoConfig.{FgoConfig}
use Rattle.refusals.specs.declared.Refusal.{Refusal}
use Rattle.refusals.specs.Refusals.{number_of}
use Rattle.recording.specs.declared.Contents.{Contents as Start}

module _ (s : List ℕ) where
  -- "settings (11 fields of 8 bytes, `FgoConfig` order)"
  unfoldable pub settings : FgoConfig
  settings = config_by (λ i. little SETTING s (SETTING * i))

  -- "u32 count"
  abbrev pub count : ℕ
  count = little 4 s SETTINGS

  -- "per frame u32 offset (from the recording's start)"
  abbrev pub offset : ℕ → ℕ
  offset i = little 4 s (CONTENTS + ENTRY * i)

  -- "and length"
  abbrev pub size : ℕ → ℕ
  size i = little 4 s (CONTENTS + ENTRY * i + 4)

  -- where the body of frame i has to begin: "in order without gaps"
  unfoldable pub start : ℕ → ℕ
  start zero = CONTENTS + ENTRY * count
  start (suc i) = start i + size i

  -- 11: "over 65,536 bytes, over 256 frames, or shorter than its contents table"
  unfoldable pub ill_sized : Bool
  ill_sized = ltb RECORDING (length s) || (ltb FRAMES count || ltb (length s) (CONTENTS + ENTRY * count))

  -- not 12: the bodies "exactly fill the rest, in order without gaps"
  unfoldable pub fills : Bool
  fills = all (λ i. eqb (offset i) (start i)) count && eqb (start count) (length s)

  -- in the order of the table 11, 12, then 1: "a setting out of bounds or not finite"; 0 for none
  unfoldable pub refusal : ℕ
  refusal = cond ill_sized 11 (cond (not fills) 12 (cond (not (legal settings)) 1 0))

  -- the contents table is there as far as entry i, has that entry, and the recording has the bytes that it names
  unfoldable pub holds : ℕ → Bool
  holds i = leb (CONTENTS + ENTRY * i + ENTRY) (length s) && (ltb i count && leb (offset i + size i) (length s))

  -- the body of frame i; nothing where the recording does not hold one
  unfoldable pub recorded_body : ℕ → List ℕ
  recorded_body i = cond (holds i) (take (size i) (drop (offset i) s)) []

-- what a recording says at its start, by value: a refusal's number, or the settings and how many frames there are
pub data Contents : Type 0 where
  Refused : ℕ → Contents
  Frames : FgoConfig → ℕ → Contents

-- what the code answers, so read
abbrev pub contents_in : Result Start Refusal → Contents
contents_in (Ok a) = Frames a.config a.count
contents_in (Err r) = Refused (number_of r)

-- by the refusal that a recording gets
abbrev pub contents_by : ℕ → FgoConfig → ℕ → Contents
contents_by zero c n = Frames c n
contents_by (suc r) c n = Refused (suc r)

-- what a recording says at its start: its settings and the number of its frames, or 11, 12 or 1
unfoldable pub contents_of : List ℕ → Contents
contents_of s = contents_by (refusal s) (settings s) (count s)
