use Prim.Native.Nat.{◌+◌}
use Rattle.search_rows.proofs.Renamed.{Renaming}
use Rattle.search_rows.proofs.moves.apply.Given as goal

abbrev pub invariant-loop-k : goal.invariant-loop-k
invariant-loop-k g l = Renaming l.starts.places.now l.a.0 l.b.0 (λ k. g.M.Renames.targets_of l.m l.a.0 l.b.0 k (l.first.0 + k)) l.initial.ids l.ids l.k
