use native.Mathlib.Omega.{arith}
use mathlib.Core.Path.{refl, ◌∙◌}
use Rattle.std.proofs.Math.Facts.{to_z-of_z}
use mir.Syntax.{w64}
use lib.ListN.{length}
use borrow.Author.Tests.{lt-ltb, le-ltb}
use Rattle.engine.specs.Body.{layout_of}
use Rattle.engine.proofs.Layouts.{head_long}
use Rattle.engine.proofs.Reading.{and_where, time_passed}
use Rattle.engine.proofs.body.Body.time.Goals as goal

pub returns-then-self-header_size : goal.returns-then-self-header_size
returns-then-self-header_size c = and_where (time_passed (layout_of c.args.self.now.kind) _) (rw (lt-ltb (length c.args.self.now.bytes.now) (layout_of c.args.self.now.kind).head (rw c.header_size.ensures.size at c.if-self-header_size.true)))

pub i64_at-requires : goal.i64_at-requires
i64_at-requires c = omega (arith, c.header_size.ensures.size, head_long c.args.self.now.kind, c.if-self-header_size.false)

pub returns : goal.returns
returns c = and_where (time_passed (layout_of c.args.self.now.kind) _) (to_z-of_z {w = w64} (record { sfits = c.i64_at.type_inv }) ∙ c.i64_at.ensures ∙ rw (le-ltb (length c.args.self.now.bytes.now) (layout_of c.args.self.now.kind).head (rw c.header_size.ensures.size at c.if-self-header_size.false)) refl)
