use mathlib.Core.Path.{◌∙◌}
use native.Mathlib.Omega.{arith}
use Rattle.cost.specs.Cost.{view_in}
use Rattle.cost_row.proofs.Heads.{rest_gone, rest-held}
use Rattle.cost_row.proofs.rest_cost.Goals as goal

pub returns-then-row-k : goal.returns-then-row-k
returns-then-row-k c =
    let s = c.args in
    let p = s.prices.now in
    c.close.ensures ∙ rest_gone s.row.now.ends p.config (view_in p) s.f.now s.k c.if-row-k.true

pub returns : goal.returns
returns c =
    let s = c.args in
    let p = s.prices.now in
    let h = c.if-row-k.false in
    c.cost_of.ensures ∙ rest-held s.row.now.ends p.config (view_in p) s.f.now s.k (omega arith)
