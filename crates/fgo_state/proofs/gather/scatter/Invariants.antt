use Prim.Native.Nat.{◌≤◌}
use Rattle.fgo_state.proofs.ScatteringHeld.{ScattersHeld}
use Rattle.fgo_state.proofs.gather.scatter.Given as goal

abbrev pub invariant-loop-k : goal.invariant-loop-k
invariant-loop-k l = (l.k ≤ l.held) × ScattersHeld l.bodies l.first.0 l.held l.k l.p l.ids l.initial.columns l.columns
