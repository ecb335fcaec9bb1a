use mathlib.Core.Path.{◌≡◌}
use Prim.Native.Nat.{◌≤◌}
use Rattle.search.specs.Pass.{Carried}
use Rattle.search.specs.Lent.{scene_in}
use Rattle.search.proofs.tables.begin_pass.Given as goal

abbrev pub invariant-loop-i : goal.invariant-loop-i
invariant-loop-i l =
    Carried (scene_in l.scene) l.last.count l.last.table.now l.last.moved.now l.list.table l.initial.state.ids l.i l.state.costs l.list.due
    × (l.k ≤ l.last.count) × (l.list.count ≡ l.initial.list.count) × (l.list.table ≡ l.initial.list.table) × (l.list.rows ≡ l.initial.list.rows) × (l.state.ids ≡ l.initial.state.ids) × (l.state.tally ≡ l.initial.state.tally)
