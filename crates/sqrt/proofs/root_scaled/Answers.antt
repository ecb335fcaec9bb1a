use Rattle.std.proofs.Common.{◌≡◌, ℕ, ◌+◌, ◌*◌, ◌^◌, ◌<◌, ◌≤◌, arith}
use Rattle.scalar.specs.Digits.{Full}
use Rattle.scalar.proofs.RootScale.{scaled, Found, exponent-lt, down_is, up_is, no_nan}
use Rattle.sqrt.proofs.root_scaled.Goals as goal

-- what was found of q · 2^(y - 1074), as the root's laws ask it
found :
    {q y d e s rem : ℕ} → (0 < q) × (q < 2 ^ 53) × (y < 2046) → Full q y d e →
    s * s + rem ≡ scaled d e * 0x10_0000_0000_0000 → rem ≤ 2 * s → s < 0x20_0000_0000_0000 → Found q y d e s rem
found h f square floor short = record { plus = h.0; few = h.1; low = h.2; full = f; whole = square; rest = floor; under = short }

pub float_from_bits-result : goal.float_from_bits-result
float_from_bits-result c = no_nan _ (omega (arith, exponent-lt c.full_digits-full.ensures c.requires.2, c.whole_root-root.result.short))

pub returns-then-rest-root : goal.returns-then-rest-root
returns-then-rest-root c = let w = c.whole_root-root.result in down_is (found c.requires c.full_digits-full.ensures c.whole_root-root.ensures w.floor w.short) c.if-rest-root.true

pub float_from_bits-result-2 : goal.float_from_bits-result-2
float_from_bits-result-2 c = no_nan _ (omega (arith, exponent-lt c.full_digits-full.ensures c.requires.2, c.whole_root-root.result.short))

pub returns : goal.returns
returns c = let w = c.whole_root-root.result in up_is (found c.requires c.full_digits-full.ensures c.whole_root-root.ensures w.floor w.short) c.if-rest-root.false
