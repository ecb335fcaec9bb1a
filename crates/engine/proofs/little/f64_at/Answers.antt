use mathlib.Core.Path.{ap, ◌∙◌}
use lib.Ieee.{binary64, of_bits}
use native.Mathlib.Omega.{arith}
use Rattle.engine.proofs.little.f64_at.Goals as goal

pub u64_at-requires : goal.u64_at-requires
u64_at-requires c = omega arith

pub returns : goal.returns
returns c = c.from_bits.ensures ∙ ap (of_bits binary64) c.u64_at.ensures
