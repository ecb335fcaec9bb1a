use Rattle.std.proofs.Common.{rules}
use Rattle.scalar.specs.F64.{f64}
use Rattle.linalg.specs.Grown.{tabulate}
use Rattle.linalg.specs.Rows.{row, column, dot_of}
use Rattle.linalg.proofs.Made.{made_of}
use Rattle.linalg.proofs.matrix.mul_row.Goals as goal

pub returns : goal.returns
unfolding tabulate
returns c = made_of _ (λ j. dot_of f64 (row f64 c.args.a.now c.args.i) (column f64 c.args.b.now j)) 6 _ (λ k x t l e. search rules) _ c.from_fn.ensures.items
