-- Times as the machine holds them: in signed 64 bits. Assumes nothing.
use Prim.Native.Nat.{ℕ, zero, suc, ◌-◌, ◌^◌, ◌<◌, ◌≤◌}
use native.Mathlib.Omega.{arith}
use mathlib.Core.Path.{◌≡◌, refl}
use mathlib.Core.Bool.{Bool, true, false, cond}
use lib.IntN.{ℤ, pos, negsuc, nat_abs, sub_ℕ, ◌-ℤ◌}
use lib.Signed.{mag}
use lib.Dec.{ltb}
use borrow.Author.Tests.{ltb-true, leb-true}
use mir.Syntax.{w64}
use mir.Val.{SFits, to_z, of_z}
use mir.Facts.{to_z-of_z}
use Rattle.bounds.specs.Bounds.{TIME}
use Rattle.engine.specs.Body.{time_ok}

-- a number that fits, passed on
pub passed_on : (z : ℤ) → mag z < 2 ^ 63 → to_z w64 (of_z w64 z) ≡ z
passed_on z h = to_z-of_z {w = w64} (record { sfits = h })

-- the difference of two times in bounds fits
sub_bound : (x y : ℕ) → x < 2 ^ 63 → y ≤ 2 ^ 63 → mag (sub_ℕ x y) < 2 ^ 63
sub_bound x y h k = go (ltb x y) refl
  where
    go : (b : Bool) → ltb x y ≡ b → mag (cond b (negsuc (y - suc x)) (pos (x - y))) < 2 ^ 63
    go true e = omega (arith, ltb-true x y e)
    go false e = omega arith

age_bound : (a b : ℤ) → nat_abs a ≤ TIME → nat_abs b ≤ TIME → mag (a -ℤ b) < 2 ^ 63
age_bound (pos a) (pos zero) h k = omega arith
age_bound (pos a) (pos (suc b)) h k = sub_bound a (suc b) (omega arith) (omega arith)
age_bound (pos a) (negsuc b) h k = omega arith
age_bound (negsuc a) (pos zero) h k = sub_bound 0 (suc a) (omega arith) (omega arith)
age_bound (negsuc a) (pos (suc b)) h k = omega arith
age_bound (negsuc a) (negsuc b) h k = sub_bound (suc b) (suc a) (omega arith) (omega arith)

pub age_fits : (a b : ℤ) → time_ok a ≡ true → time_ok b ≡ true → SFits w64 (a -ℤ b)
unfolding time_ok
age_fits a b h k = record { sfits = age_bound a b (leb-true _ _ h) (leb-true _ _ k) }
