use Rattle.print.proofs.Putting.{puts_same}
use Rattle.print.specs.Text.{field, hexadecimal}
use Rattle.scalar.specs.Scalar.{bits_of}
use Rattle.std.specs.Option.{unwrap_or}
use lib.Ieee.{nan, of_bits}
use mathlib.Core.Path.{ap, ◌∙◌}
use native.Mathlib.Omega.{arith}
use Prim.Native.Nat.{ℕ}
use Rattle.print.proofs.fields.put_bits.Goals as goal

pub returns : goal.returns
unfolding of_bits
returns c =
    let number = c.unwrap_or.ensures ∙ ap (λ x. unwrap_or x nan) c.copied.ensures ∙ c.get.ensures.lookup.4 (omega arith) nan in
    puts_same (ap (λ (b : ℕ). field (hexadecimal b)) (c.to_bits.ensures ∙ ap bits_of number)) c.put_hex.ensures
