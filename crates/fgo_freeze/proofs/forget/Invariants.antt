use Prim.Native.Nat.{◌≤◌}
use Rattle.fgo_state.specs.Memory.{scans_in}
use Rattle.fgo_freeze.proofs.Forgetting.{Keeping}
use Rattle.fgo_freeze.proofs.forget.Given as goal

abbrev pub invariant-loop-k : goal.invariant-loop-k
invariant-loop-k l = (l.k ≤ l.frozen) × Keeping l.fn.c l.time (scans_in l.held.scans.now.bodies l.held.scans.now.columns l.held.first.0 l.held.count) l.initial.parts.tracks l.initial.parts.filters l.k l.w l.parts.tracks l.parts.filters
