-- A product of floats does not depend on the order of its two factors. Assumes nothing.
use mathlib.Core.Path.{◌≡◌, refl, ap}
use mathlib.Core.Bool.{Bool, true, false, cond}
use Prim.Native.Nat.{ℕ, ◌*◌}
use native.Mathlib.Nat.{mul_comm}
use lib.Dec.{eqb}
use lib.Ieee.{Float, nan, inf, fin, Format, binary64, unlike, up, down, round, mul}
use Rattle.scalar.specs.F64.{f64}
use Rattle.linalg.specs.Matrix.{dot}

unlike_comm : (s t : Bool) → unlike s t ≡ unlike t s
unlike_comm true true = refl
unlike_comm true false = refl
unlike_comm false true = refl
unlike_comm false false = refl

product_comm : (f : Format) (x y : Float) → mul f x y ≡ mul f y x
unfolding mul
product_comm f nan nan = refl
product_comm f nan (inf t) = refl
product_comm f nan (fin t n d) = refl
product_comm f (inf s) nan = refl
product_comm f (inf s) (inf t) = ap inf (unlike_comm s t)
product_comm f (inf s) (fin t n d) = ap (λ (b : Bool). cond (eqb n 0) nan (inf b)) (unlike_comm s t)
product_comm f (fin s m e) nan = refl
product_comm f (fin s m e) (inf t) = ap (λ (b : Bool). cond (eqb m 0) nan (inf b)) (unlike_comm s t)
product_comm f (fin s m e) (fin t n d) =
    λ i. round f (unlike_comm s t i) (mul_comm (m * up e) (n * up d) i) (mul_comm (down e) (down d) i)

-- nor does a sum of six products
pub dot_comm : (u v : ℕ → Float) → dot f64 u v ≡ dot f64 v u
dot_comm u v = λ i. f64.add (f64.add (f64.add (f64.add (f64.add (at 0 i) (at 1 i)) (at 2 i)) (at 3 i)) (at 4 i)) (at 5 i)
  where
    at : (k : ℕ) → f64.mul (u k) (v k) ≡ f64.mul (v k) (u k)
    at k = product_comm binary64 (u k) (v k)
