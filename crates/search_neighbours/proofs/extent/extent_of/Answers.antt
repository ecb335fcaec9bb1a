use mathlib.Core.Path.{refl, sym}
use Prim.Native.Nat.{◌<◌}
use native.Mathlib.Omega.{arith}
use lib.Ieee.{of_bits}
use lib.ListN.{length}
use Rattle.search_neighbours.specs.Extents.{extent_in}
use Rattle.search_neighbours.proofs.Enclosing.{extent_with, extent_without}
use Rattle.search_neighbours.proofs.extent.extent_of.Goals as goal
use Rattle.search_neighbours.proofs.extent.extent_of.Goals.{then-i-gt0, else-i-gt0}

pub loop-i-init : goal.loop-i-init
unfolding extent_in of_bits
loop-i-init c = refl

pub loop-i-preserved : goal.loop-i-preserved
loop-i-preserved c =
    let row = c.args.row.now.slots in
    let dots = c.args.dots.now in
    let o = c.loop-i in
    let h : o.i-index < length row = omega (arith, c.loop-i-test.true, c.type_inv.i-items) in
    elim c.if-i-gt0.branch [
      | then-i-gt0 w ↦ rw (w.extent-is, w.with-extent.ensures, w.dot_at.ensures, w.from.ensures, o.invariant) (sym (extent_with dots row o.i-index h w.if-i-gt0.true))
      | else-i-gt0 w ↦ rw (w.extent-is, o.invariant) (sym (extent_without dots row o.i-index h (omega (arith, w.if-i-gt0.false))))
    ]
