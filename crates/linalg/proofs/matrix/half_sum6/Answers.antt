use Rattle.std.proofs.Common.{rules}
use Rattle.scalar.specs.F64.{f64}
use Rattle.linalg.specs.Grown.{tabulate}
use Rattle.linalg.specs.Matrix.{at, half_sum, scale, add, transpose}
use Rattle.linalg.proofs.Made.{made_of}
use Rattle.linalg.proofs.matrix.half_sum6.Goals as goal

pub returns : goal.returns
unfolding half_sum scale add tabulate
returns c = made_of _ (λ k. f64.mul f64.half (f64.add (at f64 c.args.a.now k) (at f64 (transpose f64 c.args.a.now) k))) 36 _ (λ k x t l e. search rules) _ c.from_fn.ensures.items
