use Prim.Native.Nat.{ℕ, suc, ◌-◌}
use mathlib.Core.Path.{◌≡◌, refl, sym}
use mathlib.Core.Bool.{true, false}
use native.Mathlib.Omega.{arith}
use borrow.Author.Tests.{leb-true, leb-false, le-leb, lt-leb}
use lib.Dec.{leb}
use lib.IntN.{ℤ, pos, negsuc, nat_abs}
use lib.Signed.{le_z}
use mir.Facts.{to_z-of_z}
use Rattle.bounds.specs.Bounds.{TIME}
use Rattle.engine.specs.Body.{time_ok}
use Rattle.engine_check.proofs.time_ok.Goals as goal

early : (t : ℤ) → le_z (negsuc (TIME - 1)) t ≡ false → false ≡ leb (nat_abs t) TIME
early (pos n) h = absurd (let z : ◌≡◌ {A = ℕ} 0 1 = cc in omega arith)
early (negsuc n) h = sym (lt-leb (suc n) TIME (omega (arith, leb-false n (TIME - 1) h)))

late : (t : ℤ) → le_z (negsuc (TIME - 1)) t ≡ true → le_z t (pos TIME) ≡ leb (nat_abs t) TIME
late (pos n) h = refl
late (negsuc n) h = sym (le-leb (suc n) TIME (omega (arith, leb-true n (TIME - 1) h)))

pub returns-then-t : goal.returns-then-t
unfolding time_ok
returns-then-t c = rw (to_z-of_z c.ranges.t) (late c.args.t (rw (to_z-of_z c.ranges.t) at c.if-t.true))

pub returns-else-t : goal.returns-else-t
unfolding time_ok
returns-else-t c = rw (to_z-of_z c.ranges.t) (rw (rw (to_z-of_z c.ranges.t) at c.if-t.false) (early c.args.t (rw (to_z-of_z c.ranges.t) at c.if-t.false)))
