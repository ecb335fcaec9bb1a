use native.Mathlib.Omega.{arith}
use mathlib.Core.Path.{ap, ◌∙◌}
use Rattle.std.proofs.lemmas.List.{get_or_default}
use Rattle.print.proofs.Putting.{puts_same, put_none, put_next, put_all}
use Rattle.print.proofs.fields.put_each.Goals as goal

pub loop-x-init : goal.loop-x-init
loop-x-init g c past = put_none

pub loop-x-preserved : goal.loop-x-preserved
loop-x-preserved g c past =
    put_next (c.loop-x.invariant past) (omega arith) (puts_same (ap g.T.HasField.text (c.x-item.is ∙ get_or_default c.args.items.now c.loop-x.x-index _ past (omega arith))) c.put-at.ensures)

pub returns : goal.returns
returns g c past = put_all (c.loop-x.invariant past) (omega arith)
