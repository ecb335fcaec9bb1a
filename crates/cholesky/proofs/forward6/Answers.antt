use mathlib.Core.Path.{refl, ap, ◌∙◌}
use Prim.Native.Nat.{◌*◌}
use native.Mathlib.Omega.{arith}
use Rattle.scalar.specs.F64.{f64}
use Rattle.linalg.proofs.Fill.{next_row, all-rows}
use Rattle.cholesky.proofs.Substitution.{forward-row}
use Rattle.linalg.specs.Cholesky.{half_way}
use Rattle.linalg.specs.Grown.{tabulate}
use Rattle.linalg.specs.Rows.{solved_row}
use Rattle.cholesky.proofs.forward6.Goals as goal

pub loop-i-init : goal.loop-i-init
unfolding tabulate
loop-i-init c = record { within = omega arith; same = refl }

pub loop-i-preserved : goal.loop-i-preserved
loop-i-preserved c =
    let l = c.args.l.now in
    let i = c.loop-i.i in
    let h = c.loop-i-test.true in
    next_row c.loop-i.invariant h (ap (λ w. solved_row f64 l w i (i * 6) 1 0 i) c.loop-i.invariant.same ∙ forward-row f64 l i h) c.solve_row.ensures

pub returns : goal.returns
unfolding half_way
returns c = all-rows c.loop-i.invariant c.loop-i-test.false
