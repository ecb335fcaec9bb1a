use native.Mathlib.Omega.{arith}
use Rattle.cost_fold.proofs.Steps.{skips, takes, ends}
use Rattle.cost_fold.proofs.fold_on.Goals as goal
use Rattle.cost_fold.proofs.fold_on.Goals.{then-code-gt0, else-code-gt0}

pub loop-i-preserved : goal.loop-i-preserved
loop-i-preserved c =
    let p = c.requires in
    let v = c.loop-i.invariant in
    let t = c.loop-i-test.true in
    let early = c.args.prices.now.early in
    elim c.if-code-gt0.branch [
      | then-code-gt0 w ↦ rw (w.r-is, w.add-r.ensures, w.later-scan.ensures, w.dot_at.ensures) (takes v t w.if-code-gt0.true (omega (arith, p.short, early)))
      | else-code-gt0 w ↦ rw w.r-is (skips v t w.if-code-gt0.false)
    ]

pub returns : goal.returns
returns c = ends c.loop-i.invariant c.loop-i-test.false
