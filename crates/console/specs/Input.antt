-- What reading gives. Definitions only.
use Rattle.std.specs.Prelude.{List, ℕ, ◌≡◌, ◌<◌, ◌≤◌, length, take, Option, Some, None}
use Rattle.std.specs.Io.KnownBytes.{Consumes, IsAtEnd}

-- the bytes that were read stand at the front of the buffer
abbrev pub Within : Option ℕ → List ℕ → Type 0
Within (Some n) buf = (n ≤ length buf) × (n ≡ length (take n buf))
Within None buf = Unit {0}

-- reading a reader whose bytes are known to its end: all its bytes, or as many as there is room for
abbrev pub Exhausts : Option (List ℕ) → Option (List ℕ) → Option ℕ → List ℕ → Type 0
Exhausts old new (Some n) buf = Consumes old new (take n buf) × (n < length buf → IsAtEnd new)
Exhausts old new None buf = Unit {0}
