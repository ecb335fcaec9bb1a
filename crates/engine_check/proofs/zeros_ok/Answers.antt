use Prim.Native.Nat.{ℕ}
use mathlib.Core.Path.{ap, ◌∙◌}
use native.Mathlib.Omega.{arith}
use lib.Dec.{eqb}
use Rattle.engine.proofs.Layouts.{head_long}
use Rattle.engine_check.proofs.Forms.{zeros_tested}
use Rattle.engine_check.proofs.zeros_ok.Goals as goal

pub u24_at-requires : goal.u24_at-requires
u24_at-requires c = omega (arith, head_long c.args.b.now.kind, c.requires)

pub returns : goal.returns
returns c = ap (λ (n : ℕ). eqb n 0) c.u24_at.ensures ∙ zeros_tested c.args.b.now.kind c.args.b.now.bytes.now
