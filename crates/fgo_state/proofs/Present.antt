-- The ids that have a window are those of the columns of the held scans. Assumes nothing.
use Prim.Native.Nat.{ℕ}
use mathlib.Core.Path.{◌≡◌}
use mathlib.Core.Bool.{◌&&◌}
use mathlib.Core.List.{List}
use lib.Dec.{ltb}
use Rattle.fgo_spec.specs.Lists.{has}
use Rattle.fgo_spec.specs.Windows.{Scan, present}
use Rattle.fgo_spec.proofs.Presence as spec
use Rattle.fgo_state.specs.Memory.{in_window}

pub present-has : (x : ℕ) (ss : List Scan) → has x (present ss) ≡ (ltb 0 x && in_window x ss)
unfolding in_window
present-has x ss = spec.present-has x ss
