use mathlib.Core.List.{List, [], ◌∷◌}
use mathlib.Core.Path.{◌≡◌, ap, ◌∙◌}
use Prim.Native.Nat.{ℕ}
use lib.Ieee.{Float}
use Rattle.scalar.specs.F64.{f64}
use Rattle.linalg.proofs.Fill.{no_row, next_row, all-rows}
use Rattle.linalg.specs.Grown.{tabulate}
use Rattle.linalg.specs.Matrix.{at, entry, vector, dot, mul, mul_vec, transpose}
use Rattle.linalg.specs.Rows.{row}
use Rattle.models.proofs.Commute.{dot_comm}
use Rattle.models.specs.Motion.{cv_f}
use Rattle.models.proofs.mul_cv_f6t.Invariants.{cell}
use Rattle.models.proofs.mul_cv_f6t.Goals as goal

-- row i of the product, as the motion's product with row i
turned : (m : List Float) (dt : Float) (i : ℕ) → mul_vec f64 (cv_f f64 dt) (row f64 m i) ≡ vector f64 (cell m dt i)
unfolding mul_vec transpose tabulate
turned m dt i = λ n. by 0 n ∷ by 1 n ∷ by 2 n ∷ by 3 n ∷ by 4 n ∷ by 5 n ∷ []
  where
    by : (j : ℕ) → dot f64 (λ k. entry f64 (cv_f f64 dt) j k) (λ k. at f64 (row f64 m i) k) ≡ dot f64 (λ k. at f64 (row f64 m i) k) (λ k. entry f64 (cv_f f64 dt) j k)
    by j = dot_comm (λ k. entry f64 (cv_f f64 dt) j k) (λ k. at f64 (row f64 m i) k)

pub loop-i-init : goal.loop-i-init
loop-i-init c = no_row f64 _ _ c.told-out

pub loop-i-preserved : goal.loop-i-preserved
loop-i-preserved c =
    let g = c.args in
    next_row c.loop-i.invariant c.loop-i-test.true
    (c.cv_f6_mul_vec-r.ensures ∙ ap (mul_vec f64 (cv_f f64 g.dt)) c.row-v.ensures ∙ turned g.m.now g.dt c.loop-i.i)
    c.put_row.ensures

pub returns : goal.returns
unfolding mul
returns c = all-rows c.loop-i.invariant c.loop-i-test.false
