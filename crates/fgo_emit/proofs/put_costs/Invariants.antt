use Rattle.std.proofs.Common.{◌≡◌, ℕ, ◌<◌, get_or}
use Rattle.engine.specs.Frame.{no_association}
use Rattle.engine.specs.Body.{body_of}
use Rattle.fgo_spec.specs.Emitting.{cost_number}
use Rattle.fgo_emit.specs.Writing.{costs_in}
use Rattle.fgo_emit.proofs.put_costs.Given as goal

abbrev pub invariant-loop-j : goal.invariant-loop-j
invariant-loop-j l = (k : ℕ) → k < l.j → get_or l.x-items k (cost_number no_association.cost) ≡ get_or (costs_in (body_of l.s.frame.body)) k (cost_number no_association.cost)
