-- "little-endian". Definitions only.
use Rattle.std.specs.Prelude.{ℕ, zero, suc, ◌+◌, ◌*◌, List, get_or}

-- the number of w bytes of s from place o on, the lowest first; past the end stand zeros
unfoldable pub little : ℕ → List ℕ → ℕ → ℕ
little zero s o = 0
little (suc w) s o = get_or s o 0 + 256 * little w s (suc o)
