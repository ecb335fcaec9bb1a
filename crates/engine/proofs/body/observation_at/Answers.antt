use Rattle.engine.specs.Body.{observation_at}
use native.Mathlib.Omega.{arith}
use Rattle.engine.proofs.body.observation_at.Goals as goal

pub f64_at-x-requires : goal.f64_at-x-requires
f64_at-x-requires c = omega arith

pub f64_at-y-requires : goal.f64_at-y-requires
f64_at-y-requires c = omega arith

pub f64_at-z-requires : goal.f64_at-z-requires
f64_at-z-requires c = omega arith

pub returns : goal.returns
unfolding observation_at
returns c = rw (c.f64_at-x.ensures, c.f64_at-y.ensures, c.f64_at-z.ensures)
