use Rattle.std.proofs.Common.{◌≡◌, ℕ, ◌+◌, ◌*◌, List, ap, ◌∙◌, add-one, arith, Float}
use Rattle.scalar.specs.F64.{f64}
use Rattle.linalg.specs.Cholesky.{less}
use Rattle.linalg.specs.Matrix.{at}
use Rattle.linalg.specs.Rows.{less_row, less_rows}
use Rattle.cholesky.proofs.less_rows.Goals as goal

module _ (l w : List Float) (i p s q : ℕ) where
  more : (k : ℕ) (r r' : List Float) → r ≡ less_rows f64 l w i p s q k → r' ≡ less_row f64 r (at f64 l (p + k * s)) w (q + k) → r' ≡ less_rows f64 l w i p s q (k + 1)
  unfolding less less_rows
  more k r r' e f = rw (add-one k) (f ∙ ap (λ r. less_row f64 r (at f64 l (p + k * s)) w (q + k)) e)

pub loop-k-preserved : goal.loop-k-preserved
loop-k-preserved c =
    let g = c.args in
    more g.l.now g.w.now g.i g.p g.s g.q c.loop-k.k _ _ c.loop-k.invariant c.less_row-r.ensures

pub returns : goal.returns
returns c =
    let g = c.args in
    let e : c.loop-k.k ≡ g.n = omega arith in
    c.loop-k.invariant ∙ ap (less_rows f64 g.l.now g.w.now g.i g.p g.s g.q) e
