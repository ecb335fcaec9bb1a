use Rattle.std.proofs.Common.{refl, ◌∙◌, arith, rules, tests}
use Rattle.std.proofs.lemmas.Iterator.{YieldsList-from_range}
use Rattle.std.proofs.lemmas.Iterator.Search.{any_from_yields_List}
use Rattle.fgo_spec.specs.Windows.{Scan}
use Rattle.fgo_spec.specs.Lists.{has}
use Rattle.fgo_part.proofs.Places.{any_range}
use Rattle.fgo_state.specs.Memory.{scan_in, in_window}
use Rattle.fgo_state.proofs.held.HeldRef.windows_in.Goals as goal

pub returns : goal.returns
unfolding in_window
returns c =
    let a = c.args.self.now in
    let scan = scan_in a.scans.now.bodies a.scans.now.columns in
    any_from_yields_List (λ n. has c.args.id.0 (scan n).ids) _ _ _ c.any.ensures.ran (YieldsList-from_range a.first.0 _ a.count refl (omega arith)) (λ n b q t. search (rules, tests))
    ∙ any_range (λ (s : Scan). has c.args.id.0 s.ids) scan a.first.0 a.count
