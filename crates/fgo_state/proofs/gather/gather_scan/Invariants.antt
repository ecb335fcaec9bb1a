use Rattle.engine.specs.Body.{body}
use Rattle.fgo_state.proofs.GatheringScan.{Gathers}
use Rattle.fgo_state.proofs.gather.gather_scan.Given as goal

abbrev pub invariant-loop-j : goal.invariant-loop-j
invariant-loop-j l = Gathers l.s.scans.now.columns l.s.n.0 (body l.s.frame.body.kind l.s.frame.body.bytes.now) l.o l.j l.p l.initial.ids l.initial.engines l.ids l.engines
