use Rattle.std.proofs.Common.{◌≡◌, ◌+◌, ◌∙◌, refl, get_or, arith}
use borrow.Author.Rules.{rules}
use Rattle.engine.specs.Little.{little}
use Rattle.scalar.proofs.Made.{each_made}
use Rattle.engine.proofs.Bytes.{little-bytes, little-made}
use Rattle.engine.proofs.little.u32_at.Goals as goal

pub returns : goal.returns
returns c =
    let a = c.args in
    let bytes = c.from_fn.result in
    let made = each_made _ (λ k. get_or a.s.now (a.o + k) 0) 4 _ (λ k x t h e. search rules) bytes 0 4 _ (omega arith) refl c.from_fn.ensures.items.each in
    let read : c.from_le_bytes.result ≡ little 4 bytes 0 = rw (little-bytes 3 bytes 0, c.from_le_bytes.ensures) refl in
    c.from.ensures ∙ read ∙ little-made 4 a.s.now a.o bytes (λ k h. made k 0 (omega arith) h)
