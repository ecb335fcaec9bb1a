use mathlib.Core.Path.{sym}
use Rattle.fgo_state.proofs.Columns.{stands}
use Rattle.fgo_state.proofs.scans.Scans.holds.Goals as goal

pub returns : goal.returns
returns c = let a = c.args in sym (stands a.self.now.bodies a.self.now.columns a.n.0 a.id.0 c.count_of.ensures c.stands_in.ensures)
