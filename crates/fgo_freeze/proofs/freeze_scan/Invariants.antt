use Prim.Native.Nat.{◌≤◌}
use Rattle.fgo_part.specs.Parts.{table_in}
use Rattle.fgo_state.specs.Memory.{scan_in}
use Rattle.fgo_freeze.specs.Frozen.{Past}
use Rattle.fgo_freeze.proofs.FrozenScan.{Going}
use Rattle.fgo_freeze.proofs.freeze_scan.Given as goal

abbrev pub invariant-loop-j : goal.invariant-loop-j
invariant-loop-j l = (l.j ≤ l.j-end) × Past l.f l.initial.parts.tracks l.initial.parts.filters l.parts.tracks l.parts.filters × Going l.c l.fn.n.0 (scan_in l.scans.bodies l.scans.columns l.fn.n.0) (table_in l.initial.parts.tracks l.initial.parts.filters l.frozen) l.j (table_in l.parts.tracks l.parts.filters l.f)
