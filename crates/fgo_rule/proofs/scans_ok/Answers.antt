use Prim.Native.Nat.{ℕ, ◌+◌}
use mathlib.Core.Bool.{Bool}
use lib.Dec.{eqb}
use Rattle.std.proofs.Common.{refl, ◌∙◌, rules, tests}
use Rattle.engine.specs.Body.{body_refusal}
use Rattle.fgo_state.specs.Memory.{body_at}
use Rattle.fgo_state.specs.Sound.{bodies_ok}
use Rattle.fgo_rule.specs.Tests.{column_in, scan_ok, columns_ok}
use Rattle.engine.proofs.Ranges.{all_of_range}
use Rattle.fgo_rule.proofs.AllOf.{all_both}
use Rattle.fgo_rule.proofs.scans_ok.Goals as goal

pub returns : goal.returns
unfolding bodies_ok columns_ok scan_ok
returns c =
    let a = c.args in
    let h = a.h.now in
    let n = h.count in
    let body = λ (i : ℕ). body_at h.scans.now.bodies h.scans.now.columns (h.first.0 + i) in
    let test : ℕ → Bool = λ i. scan_ok a.next.0 h.scans.now.bodies h.scans.now.columns (h.first.0 + i) in
    all_of_range test n refl c.all.ensures.ran (λ i b q t. search (rules, tests))
    ∙ all_both (λ i. eqb (body_refusal (body i)) 0) (λ i. column_in a.next.0 h.scans.now.columns (body i) (h.first.0 + i)) n
