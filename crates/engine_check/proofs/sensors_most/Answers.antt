use borrow.Author.Tests.{eq-eqb, ne_eqb}
use Rattle.engine_check.proofs.sensors_most.Goals as goal

pub returns-then-tracks-eq0 : goal.returns-then-tracks-eq0
returns-then-tracks-eq0 c = simp (eq-eqb _ _ c.if-tracks-eq0.true)

pub returns-else-tracks-eq0 : goal.returns-else-tracks-eq0
returns-else-tracks-eq0 c = simp (ne_eqb _ _ c.if-tracks-eq0.false)
