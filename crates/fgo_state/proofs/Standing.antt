-- Whether a number stands in a list, as std's `contains` tells it. Assumes nothing.
use Prim.Native.Nat.{ℕ}
use native.Mathlib.Omega.{arith}
use mathlib.Core.Path.{◌≡◌, refl}
use mathlib.Core.List.{List, [], ◌∷◌}
use lib.Dec.{eqb}
use Rattle.std.specs.List.{list_any}
use Rattle.fgo_spec.specs.Lists.{any, has}

pub contains-has : (x : ℕ) (l : List ℕ) → list_any (λ y. eqb y x) l ≡ has x l
unfolding any
contains-has x [] = refl
contains-has x (a ∷ l) = rw (turned, contains-has x l)
  where
    turned : eqb a x ≡ eqb x a
    turned = grind arith
