use Prim.Native.Nat.{◌≤◌}
use Rattle.fgo_state.proofs.GatheringHeld.{DotsHeld}
use Rattle.fgo_state.proofs.held.HeldRef.gather_dots.Given as goal

abbrev pub invariant-loop-k : goal.invariant-loop-k
invariant-loop-k l = (l.k ≤ l.self.count) × DotsHeld l.c l.self.scans.now.bodies l.self.scans.now.columns l.self.first.0 l.k l.p l.initial.dots l.dots
