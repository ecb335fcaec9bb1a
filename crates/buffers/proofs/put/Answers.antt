use native.Mathlib.Omega.{arith}
use mathlib.Core.Path.{◌≡◌, refl}
use Prim.Native.Nat.{◌+◌, ◌-◌}
use lib.ListN.{length}
use lib.Seq.{drop-drop}
use Rattle.buffers.specs.Buffers.{over}
use Rattle.buffers.proofs.put.Goals as goal

pub returns : goal.returns
unfolding over
returns g c =
    let e : c.args.o + length c.args.src.now - c.args.o ≡ length c.args.src.now = omega arith in
    rw (c.copy_from_slice.ensures.after, e, drop-drop (length c.args.src.now) c.args.o c.args.out.now) refl
