use native.Mathlib.Omega.{arith}
use Rattle.search.proofs.Sweeps.{one_next, one_done}
use Rattle.search.proofs.pairs.sweep_one.Goals as goal

pub loop-j-preserved : goal.loop-j-preserved
loop-j-preserved c =
    let r = c.pair_turn.ensures in
    one_next c.args.pass.now.ids c.loop-j.invariant c.loop-j-test.true r.turned r.swept r.grows

pub returns-clause-swept_one : goal.returns-clause-swept_one
returns-clause-swept_one c = one_done c.args.pass.now.ids c.loop-j.invariant (omega arith)
