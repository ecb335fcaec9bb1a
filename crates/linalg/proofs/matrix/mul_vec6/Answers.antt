use Rattle.std.proofs.Common.{rules}
use Rattle.scalar.specs.F64.{f64}
use Rattle.linalg.specs.Grown.{tabulate}
use Rattle.linalg.specs.Matrix.{mul_vec}
use Rattle.linalg.specs.Rows.{row, dot_of}
use Rattle.linalg.proofs.Made.{made_of}
use Rattle.linalg.proofs.matrix.mul_vec6.Goals as goal

pub returns : goal.returns
unfolding mul_vec tabulate
returns c = made_of _ (λ i. dot_of f64 (row f64 c.args.a.now i) c.args.v.now) 6 _ (λ k x t l e. search rules) _ c.from_fn.ensures.items
