use Prim.Native.Nat.{◌≤◌}
use Rattle.bounds.specs.Bounds.{OWNED}
use Rattle.fgo_place.proofs.Telling.{Telling}
use Rattle.fgo_place.proofs.own.hold_latest.Given as goal

abbrev pub invariant-loop-k : goal.invariant-loop-k
invariant-loop-k l = (l.k ≤ l.owned) × (l.owned ≤ OWNED) × Telling l.gathered.ids l.engines.ids.now l.gathered.starts l.gathered.held l.initial.owners l.owned l.k l.owners
