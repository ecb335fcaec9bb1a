use native.Mathlib.Omega.{arith}
use Prim.Native.Nat.{◌+◌}
use Rattle.engine.specs.Body.{track_at}
use Rattle.engine.proofs.Bytes.{little_below}
use Rattle.engine.proofs.body.track_at.Goals as goal

pub u64_at-requires : goal.u64_at-requires
u64_at-requires c = omega arith

pub u32_at-requires : goal.u32_at-requires
u32_at-requires c = omega arith

pub overflow_cast-u32_at : goal.overflow_cast-u32_at
overflow_cast-u32_at c = record { fits = omega (arith, c.u32_at.ensures, little_below 4 c.args.s.now (c.args.o + 8) c.type_inv.s) }

pub returns : goal.returns
unfolding track_at
returns c = rw (c.u64_at.ensures, c.present-class.ensures, c.u32_at.ensures)
