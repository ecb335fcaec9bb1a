use Rattle.engine.specs.Body.{body_of}
use Rattle.fgo_refuse.proofs.Joining.{Joins}
use Rattle.fgo_refuse.proofs.joined_count.Given as goal

abbrev pub invariant-loop-j : goal.invariant-loop-j
invariant-loop-j l = Joins l.o.entries.now l.o.owned (body_of l.b.body) l.joined.all l.joined.count l.j
