use Rattle.std.proofs.Common.{◌≡◌, ℕ, ◌<◌, get_or}
use Rattle.fgo_state.specs.Memory.{engine_at}
use Rattle.fgo_state.proofs.owners.OwnersRef.keys.Given as goal

abbrev pub invariant-loop-k : goal.invariant-loop-k
invariant-loop-k l = (j : ℕ) → j < l.k → get_or l.id-items j 0 ≡ engine_at l.self.entries.now j
