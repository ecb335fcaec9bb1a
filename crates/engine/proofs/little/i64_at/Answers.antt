use Rattle.engine.proofs.Bytes.{signed_passed}
use native.Mathlib.Omega.{arith}
use Rattle.engine.proofs.little.i64_at.Goals as goal

pub u64_at-requires : goal.u64_at-requires
u64_at-requires c = omega arith

pub returns : goal.returns
returns c = rw (c.from_word.ensures, c.u64_at.ensures) (signed_passed c.args.s.now c.args.o c.type_inv.s)
