use Prim.Native.Nat.{◌*◌}
use native.Mathlib.Omega.{arith}
use mathlib.Core.Path.{◌≡◌, ◌∙◌}
use mathlib.Core.List.{[], ◌∷◌}
use borrow.Author.Rules.{rules}
use lib.ListN.{length}
use Rattle.bounds.specs.Bounds.{COLUMN, COLUMNS}
use Rattle.fgo_part.proofs.Parts.{two-over}
use Rattle.fgo_state.proofs.scans.Scans.put.Goals as goal

pub returns-clause-columns : goal.returns-clause-columns
returns-clause-columns c =
    let a = c.args in
    let long : length a.self.now.columns ≡ COLUMNS = search rules in
    two-over a.self.now.columns (COLUMN * c.slot_of-o.result) (c.head_for.result ∷ []) a.ids.now (omega (arith, c.slot_of-o.ensures.1)) c.put-2.ensures c.put-3.ensures
    ∙ rw (c.head_for.ensures, c.slot_of-o.ensures.0)
