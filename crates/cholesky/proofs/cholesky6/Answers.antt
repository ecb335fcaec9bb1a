use mathlib.Core.Path.{◌∙◌}
use Rattle.scalar.specs.F64.{f64}
use Rattle.linalg.specs.Grown.{tabulate}
use Rattle.linalg.specs.Cholesky.{less}
use Rattle.cholesky.proofs.Factored.{factored}
use Rattle.cholesky.proofs.cholesky6.Goals as goal

pub returns-then-above6 : goal.returns-then-above6
unfolding tabulate less
returns-then-above6 c =
    let f = factored f64 c.args.a.now _ _ _ _ _ _ c.sqrt-l00.ensures c.sqrt-l11.ensures c.sqrt-l22.ensures c.sqrt-l33.ensures c.sqrt-l44.ensures c.sqrt-l55.ensures c.above6.ensures in
    (f.0 ∙ c.if-above6.true, f.1)

pub returns-else-above6 : goal.returns-else-above6
unfolding tabulate less
returns-else-above6 c =
    let f = factored f64 c.args.a.now _ _ _ _ _ _ c.sqrt-l00.ensures c.sqrt-l11.ensures c.sqrt-l22.ensures c.sqrt-l33.ensures c.sqrt-l44.ensures c.sqrt-l55.ensures c.above6.ensures in
    (f.0 ∙ c.if-above6.false, f.1)
