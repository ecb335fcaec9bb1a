use native.Mathlib.Omega.{arith}
use Rattle.engine.specs.Body.{association_at}
use Rattle.engine.proofs.Bytes.{little-one}
use Rattle.engine.proofs.Layouts.{association_read_lem}
use Rattle.engine.proofs.body.Body.association_at.Goals as goal

pub u64_at-requires : goal.u64_at-requires
u64_at-requires c = omega arith

pub f64_at-requires : goal.f64_at-requires
f64_at-requires c = omega arith

pub returns : goal.returns
unfolding association_at
returns c = association_read_lem c.args.self.now.kind c.args.self.now.bytes.now c.args.o (rw (little-one c.args.self.now.bytes.now c.args.o, c.present-track.ensures, c.u64_at.ensures, c.from-outcome.ensures, c.present-cost.ensures, c.f64_at.ensures))
