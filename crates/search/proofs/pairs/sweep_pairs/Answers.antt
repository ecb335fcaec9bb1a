use native.Mathlib.Omega.{arith}
use Rattle.search.proofs.Sweeps.{all-step, all_done}
use Rattle.search.proofs.pairs.sweep_pairs.Goals as goal

pub loop-i-preserved : goal.loop-i-preserved
loop-i-preserved c =
    let r = c.sweep_one.ensures in
    all-step c.args.pass.now.ids c.loop-i.invariant c.loop-i-test.true r.swept_one r.swept r.grows

pub returns-clause-swept_all : goal.returns-clause-swept_all
returns-clause-swept_all c = all_done c.args.pass.now.ids c.loop-i.invariant (omega arith)
