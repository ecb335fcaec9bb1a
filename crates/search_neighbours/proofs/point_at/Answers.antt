use borrow.Author.Tests.{eq-eqb, ne_eqb}
use lib.Ieee.{of_bits}
use Rattle.search_neighbours.specs.Near.{point_at}
use Rattle.search_neighbours.proofs.point_at.Goals as goal

pub returns-then-i-eq0 : goal.returns-then-i-eq0
unfolding point_at of_bits
returns-then-i-eq0 c = rw (eq-eqb _ _ c.if-i-eq0.true)

pub returns : goal.returns
unfolding point_at
returns c = rw (ne_eqb _ _ c.if-i-eq0.false, c.dot_at-d.ensures)
