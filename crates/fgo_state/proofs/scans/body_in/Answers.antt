use Prim.Native.Nat.{◌+◌, ◌-◌, ◌*◌}
use mathlib.Core.Path.{◌≡◌}
use native.Mathlib.Omega.{arith}
use Rattle.bounds.specs.Bounds.{BODY}
use Rattle.fgo_state.specs.Memory.{bytes_at, kind_in}
use Rattle.fgo_state.proofs.scans.body_in.Goals as goal

pub returns : goal.returns
unfolding bytes_at kind_in
returns c =
    let n = c.length_in.result in
    let a = c.slot_of-a.result in
    let e : BODY * a + n - BODY * a ≡ n = omega arith in
    rw (e, c.length_in.ensures.0, c.head_at.ensures, c.slot_of-a.ensures.0)
