use mathlib.Core.Path.{sym, ◌∙◌}
use Rattle.search.proofs.Sweeps.{turn_rests, turn_apart, turn_steps}
use Rattle.search.proofs.pairs.pair_turn.Goals as goal

pub returns-then-pair_rests-clause-turned : goal.returns-then-pair_rests-clause-turned
returns-then-pair_rests-clause-turned c =
    let s = c.args in
    let p = c.requires in
    turn_rests s.state.now.tally p.0 p.1 p.2 s.pass.now.due (c.pair_rests.ensures c.if-pair_rests.true)

pub returns-in-Some-clause-turned : goal.returns-in-Some-clause-turned
returns-in-Some-clause-turned c =
    let p = c.requires in
    let r = c.pair_step.ensures in
    turn_steps c.args.state.now.tally p.0 p.1 p.2 (sym c.in-Some.is ∙ rw c.args.pass.now.squared at c.close_rows.ensures) r.step r.grows r.rests

pub returns-in_default-clause-turned : goal.returns-in_default-clause-turned
returns-in_default-clause-turned c =
    let p = c.requires in
    turn_apart c.args.state.now.tally p.0 p.1 p.2 (sym c.in_default.is ∙ rw c.args.pass.now.squared at c.close_rows.ensures)
