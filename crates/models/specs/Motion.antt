-- The model of constant velocity over any arithmetic: the positions along n axes, and then their speeds. Definitions
-- only.
use Rattle.std.specs.Prelude.{ℕ, List}
use Rattle.scalar.specs.Num.{Num}
use Rattle.linalg.specs.Matrix.{matrix}
use Rattle.linalg.specs.Sizes.{blocks}

module _ (N : Num) where
  open N use {F, add as ◌⊕◌, mul as ◌⊗◌, div as ◌⊘◌, zero as nought, one, two, three}

  infixl 60 ◌⊕◌
  infixl 70 ◌⊗◌ ◌⊘◌
  -- F, the motion over dt: position + dt · speed; the speed stays
  abbrev pub motion : ℕ → F → ℕ → ℕ → F
  motion n dt = blocks N n one dt nought one

  -- Q, the covariance of the motion's noise over dt, q the acceleration spectral density: q·dt³/3, q·dt²/2, q·dt
  abbrev pub noise : ℕ → F → F → ℕ → ℕ → F
  noise n q dt =
      let b = q ⊗ (dt ⊗ dt) ⊘ two in
      blocks N n (q ⊗ (dt ⊗ (dt ⊗ dt)) ⊘ three) b b (q ⊗ dt)

  -- cv_f6: F of three axes
  unfoldable pub cv_f : F → List F
  cv_f dt = matrix N (motion 3 dt)

  -- cv_q6: Q of three axes, "dt2 = dt·dt, dt3 = dt2·dt; 0.0 + (q·dt3)/3, 0.0 + (q·dt2)/2, 0.0 + q·dt"
  unfoldable pub cv_q : F → F → List F
  cv_q dt q =
      let dt2 = dt ⊗ dt in
      let dt3 = dt2 ⊗ dt in
      let b = nought ⊕ q ⊗ dt2 ⊘ two in
      matrix N (blocks N 3 (nought ⊕ q ⊗ dt3 ⊘ three) b b (nought ⊕ q ⊗ dt))
