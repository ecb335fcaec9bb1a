-- The root of a float that is not positive and finite. Assumes nothing.
use Rattle.std.proofs.Common.{◌≡◌, true, false, refl}
use lib.Ieee.{Float, inf, binary64, lt, eq, of_bits}
use Rattle.scalar.specs.Digits.{nil}
use Rattle.scalar.specs.Root.{root_of}
use Rattle.scalar.proofs.NotPositive.{zero_of, none_of}

pub zero_is : (a : Float) → eq a nil ≡ true → a ≡ root_of a
unfolding root_of
zero_is = zero_of (λ a. a ≡ root_of a) (λ s x. refl)

pub none_is : (a : Float) → lt nil a ≡ false → eq a nil ≡ false → of_bits binary64 0x7ff8_0000_0000_0000 ≡ root_of a
unfolding root_of of_bits
none_is = none_of (λ a. of_bits binary64 0x7ff8_0000_0000_0000 ≡ root_of a) refl refl (λ m x. refl)

pub top_is : root_of (inf false) ≡ inf false
unfolding root_of
top_is = refl
