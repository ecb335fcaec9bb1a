use Prim.Native.Nat.{◌≤◌}
use Rattle.fgo_state.proofs.ScatteringScan.{Scatters}
use Rattle.fgo_state.proofs.gather.scatter_scan.Given as goal

abbrev pub invariant-loop-j : goal.invariant-loop-j
invariant-loop-j l = (l.j ≤ l.m) × Scatters l.a l.o l.j l.p l.ids l.initial.columns l.columns
