use Rattle.engine.specs.Body.{body}
use Rattle.fgo_state.proofs.GatheringScan.{Dots}
use Rattle.fgo_state.proofs.gather.dot_scan.Given as goal

abbrev pub invariant-loop-j : goal.invariant-loop-j
invariant-loop-j l = Dots l.c l.s.scans.now.columns l.s.n.0 (body l.s.frame.body.kind l.s.frame.body.bytes.now) l.o l.j l.p l.initial.dots l.dots
