-- Document 01's lettered examples, (a) to (h): one theorem over one table. Assumes nothing.
use Prim.Native.Nat.{ℕ}
use mathlib.Core.Path.{◌≡◌, refl}
use mathlib.Core.Bool.{cond}
use mathlib.Core.List.{List, [], ◌∷◌}
use lib.Count.{count_trailing_zeros}
use lib.Ieee.{Float, binary64, add, sub, mul, div, lt, round, of_int, of_bits, to_bits, neg, sum, units, odd, size, span, climb, of_fields}
use Rattle.scalar.specs.Scalar.{bits_of}
use Rattle.scalar.specs.Ln.{ln_of}
use Rattle.scalar.specs.Root.{root_of}
use Rattle.engine.specs.Config.{defaults, sigma}
use Rattle.kf.specs.declared.filter.Kf.{Kf}
use Rattle.cost.specs.declared.Fold.TheVariants.{Fresh, Frozen}
use Rattle.cost.specs.Cost.{Measurement, added, fold_one, fold_over, closed, cost}
use Rattle.kf.specs.Filter.{predicted, updated}
use Rattle.fgo_spec.specs.Freezing.{recent, mean}
use Rattle.fgo_spec.specs.Searching.{wins}
use Rattle.fgo_spec.specs.Rule.{All}

-- small whole numbers, by their patterns
abbrev f0 : Float
f0 = of_bits binary64 0

abbrev f1 : Float
f1 = of_bits binary64 0x3ff0_0000_0000_0000

abbrev f2 : Float
f2 = of_bits binary64 0x4000_0000_0000_0000

abbrev f3 : Float
f3 = of_bits binary64 0x4008_0000_0000_0000

abbrev f4 : Float
f4 = of_bits binary64 0x4010_0000_0000_0000

abbrev f5 : Float
f5 = of_bits binary64 0x4014_0000_0000_0000

abbrev f6 : Float
f6 = of_bits binary64 0x4018_0000_0000_0000

-- a filter at time 0 whose positions and speeds are 0
abbrev still : Float → Float → Float → Kf
still p00 p01 p11 = record { x = f0; y = f0; vx = f0; vy = f0; p00 = p00; p01 = p01; p11 = p11; t = f0 }

abbrev lone : Measurement
lone = record { scan = 0; t = f0; x = f1; y = f2; r = mul binary64 (sigma defaults) (sigma defaults) }

-- what is computed, and what document 01 says it is, as patterns
unfoldable pub examples : List (ℕ × ℕ)
examples =
    -- (a) "ln 1 = 0"
    (bits_of (ln_of f1), 0)
    -- (b) "Root of 2.25 = 1.5"
    ∷ (bits_of (root_of (of_bits binary64 0x4002_0000_0000_0000)), 0x3ff8_0000_0000_0000)
    -- (c) "Lone detection, defaults: cost 25"
    ∷ (bits_of (cost defaults Fresh (lone ∷ [])), 0x4039_0000_0000_0000)
    -- (d) "Empty window: 0", without a frozen part and with one
    ∷ (bits_of (cost defaults Fresh []), 0)
    ∷ (bits_of (cost defaults (Frozen (still f1 f0 f1) (record { 0 = 0 })) []), 0)
    -- (e) "p = (1, 0, 1), dt 2, q 0: (5, 2, 1)"
    ∷ (bits_of (predicted (still f1 f0 f1) f2 f0).p00, 0x4014_0000_0000_0000)
    ∷ (bits_of (predicted (still f1 f0 f1) f2 f0).p01, 0x4000_0000_0000_0000)
    ∷ (bits_of (predicted (still f1 f0 f1) f2 f0).p11, 0x3ff0_0000_0000_0000)
    -- (f) "p = (3, 2, 5), r 1, nu 4 from 0, speed 0: position 3, speed 2, p = (0.75, 0.5, 4)"
    ∷ (bits_of (updated (still f3 f2 f5) f4 f4 f1).kf.x, 0x4008_0000_0000_0000)
    ∷ (bits_of (updated (still f3 f2 f5) f4 f4 f1).kf.y, 0x4008_0000_0000_0000)
    ∷ (bits_of (updated (still f3 f2 f5) f4 f4 f1).kf.vx, 0x4000_0000_0000_0000)
    ∷ (bits_of (updated (still f3 f2 f5) f4 f4 f1).kf.vy, 0x4000_0000_0000_0000)
    ∷ (bits_of (updated (still f3 f2 f5) f4 f4 f1).kf.p00, 0x3fe8_0000_0000_0000)
    ∷ (bits_of (updated (still f3 f2 f5) f4 f4 f1).kf.p01, 0x3fe0_0000_0000_0000)
    ∷ (bits_of (updated (still f3 f2 f5) f4 f4 f1).kf.p11, 0x4010_0000_0000_0000)
    -- (g) "Heights 1 to 6: 4"
    ∷ (bits_of (mean (recent (f1 ∷ f2 ∷ f3 ∷ f4 ∷ f5 ∷ f6 ∷ []))), 0x4010_0000_0000_0000)
    -- (h) "d = −1e-9 from 0.0: not taken"
    ∷ (cond (wins (of_bits binary64 0xbe11_2e0b_e826_d695) f0) 1 0, 0)
    ∷ []

pub lettered : All (λ e. e.0 ≡ e.1) examples
unfolding examples ln_of root_of added fold_one fold_over closed mean add sub mul div lt round of_int of_bits to_bits neg sum units odd size span climb of_fields count_trailing_zeros
lettered =
    (refl, (refl, (refl, (refl, (refl, (refl, (refl, (refl, (refl, (refl, (refl, (refl, (refl, (refl, (refl, (refl, (refl, tt)))))))))))))))))
