use native.Mathlib.Omega.{arith}
use mathlib.Core.Path.{◌∙◌}
use lib.ListN.{length-set}
use Rattle.search.proofs.Enclosing.{each_more}
use Rattle.search.proofs.extents.fill_extents.Goals as goal

pub loop-i-preserved : goal.loop-i-preserved
loop-i-preserved c =
    let o = c.loop-i.invariant in
    let e = c.extent_of-e.result in (
      each_more c.loop-i.i (omega (arith, o.1)) (omega (arith, o.2)) o.0 e c.extent_of-e.ensures,
      length-set c.loop-i.xs c.loop-i.i e.x ∙ o.1,
      length-set c.loop-i.ys c.loop-i.i e.y ∙ o.2,
    )
