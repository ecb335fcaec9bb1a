use Prim.Native.Nat.{◌-◌}
use Rattle.std.proofs.Common.{refl, ◌∙◌, rules, tests}
use lib.Dec.{eqb}
use Rattle.std.proofs.lemmas.Iterator.{YieldsList-from_range}
use Rattle.std.proofs.lemmas.Iterator.Search.{any_from_yields_List}
use Rattle.fgo_part.proofs.Places.{any_range}
use Rattle.fgo_state.specs.Memory.{id_at}
use Rattle.fgo_state.proofs.scans.stands_in.Goals as goal

pub returns : goal.returns
returns c =
    let a = c.args in
    let ids = id_at a.columns.now a.n.0 in
    any_from_yields_List (λ j. eqb a.id.0 (ids j)) _ _ _ c.any.ensures.ran (YieldsList-from_range a.i a.e (a.e - a.i) refl refl) (λ j b q t. search (rules, tests))
    ∙ any_range (eqb a.id.0) ids a.i (a.e - a.i)
