-- The length and the entries of a list made entry by entry. Assumes nothing.
use mathlib.Core.Path.{◌≡◌, refl, ap, ◌∙◌}
use mathlib.Core.List.{map}
use Prim.Native.Nat.{ℕ, zero, suc, ◌+◌, ◌<◌}
use native.Mathlib.Omega.{arith}
use lib.ListN.{length, get_or}
use Rattle.fgo_spec.specs.Lists.{up_from}

module _ {A : Type 0} where
  -- a list made entry by entry
  pub map_up_length : (f : ℕ → A) (n m : ℕ) → length (map f (up_from n m)) ≡ m
  unfolding up_from
  map_up_length f n zero = refl
  map_up_length f n (suc m) = ap suc (map_up_length f (suc n) m)

  pub map_up_at : (f : ℕ → A) (n m k : ℕ) (z : A) → k < m → get_or (map f (up_from n m)) k z ≡ f (n + k)
  unfolding up_from
  map_up_at f n zero k z h = absurd (omega arith)
  map_up_at f n (suc m) zero z h = ap f (omega arith)
  map_up_at f n (suc m) (suc k) z h = map_up_at f (suc n) m k z (omega arith) ∙ ap f (omega arith)
