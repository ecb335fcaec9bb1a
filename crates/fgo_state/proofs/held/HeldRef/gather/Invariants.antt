use Prim.Native.Nat.{◌≤◌}
use Rattle.fgo_state.specs.Gathered.{GatheredOf}
use Rattle.fgo_state.proofs.held.HeldRef.gather.Given as goal

abbrev pub invariant-loop-k : goal.invariant-loop-k
invariant-loop-k l = (l.k ≤ l.self.count) × GatheredOf l.self.scans.now l.self.first.0 l.k l.initial.engines l.g l.engines
