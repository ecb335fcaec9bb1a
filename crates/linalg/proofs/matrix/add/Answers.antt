use Rattle.std.proofs.Common.{rules}
use Rattle.scalar.specs.F64.{f64}
use Rattle.linalg.specs.Matrix as Matrix
use Rattle.linalg.proofs.Made.{made_of}
use Rattle.linalg.proofs.matrix.add.Goals as goal

pub returns : goal.returns
unfolding Matrix.add
returns g c = made_of _ (λ k. f64.add (Matrix.at f64 c.args.a.now k) (Matrix.at f64 c.args.b.now k)) _ _ (λ k x t l e. search rules) _ c.from_fn.ensures.items
