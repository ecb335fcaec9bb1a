use mathlib.Core.Path.{◌≡◌, ap, ◌∙◌}
use Prim.Native.Nat.{◌+◌, ◌*◌, ◌-◌}
use native.Mathlib.Omega.{arith}
use Rattle.scalar.specs.F64.{f64}
use Rattle.linalg.proofs.Fill.{turn, next_row_up, no_rows, at_row}
use Rattle.cholesky.proofs.Substitution.{backward-row}
use Rattle.linalg.specs.Cholesky.{half_way, inverse}
use Rattle.linalg.specs.Rows.{solved_row}
use Rattle.cholesky.proofs.backward6.Goals as goal

pub loop-i-init : goal.loop-i-init
unfolding half_way
loop-i-init c = turn c.requires

pub loop-i-preserved : goal.loop-i-preserved
loop-i-preserved c =
    let l = c.args.l.now in
    let i = c.loop-i.i - 1 in
    let e : c.loop-i.i ≡ i + 1 = omega arith in
    next_row_up c.loop-i.invariant e
    (ap (λ w. solved_row f64 l w i (i * 6 + 6 + i) 6 (i + 1) (5 - i)) (at_row c.loop-i.invariant e) ∙ backward-row f64 l i (omega arith))
    c.solve_row.ensures

pub returns : goal.returns
unfolding inverse
returns c = no_rows c.loop-i.invariant c.loop-i-test.false
