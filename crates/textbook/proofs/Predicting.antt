-- At exact arithmetic the plain filter's predict is x⁻ = F x and P⁻ = F P Fᵀ + Q. Assumes nothing.
use mathlib.Core.Path.{◌≡◌, refl, sym, ap, ap₂, ◌∙◌}
use Prim.Native.Nat.{ℕ, ◌+◌, ◌<◌}
use lib.ListN.{length}
use Rattle.scalar.specs.Num.{Num, Exact}
use Rattle.scalar.proofs.Algebra as Algebra
use Rattle.linalg.proofs.Blocks.{by_halves, blocks_same, image_above, image_below}
use Rattle.models.proofs.Law.{carried}
use Rattle.kf.specs.Plain.{Axis, Cov, Filter, start_axis, predict_axis, predict}
use Rattle.textbook.specs.Kalman.{Predicted, x⁻, axis_at, estimate_of}
use Rattle.textbook.proofs.Axes.{map_at, position_is, speed_is}

module _ (N : Num) (X : Exact N) where
  open N use {F, add as ◌⊕◌, sub as ◌⊖◌, mul as ◌⊗◌, div as ◌⊘◌, zero as nought, one, two, three, past}

  infixl 60 ◌⊕◌ ◌⊖◌
  infixl 70 ◌⊗◌ ◌⊘◌
  -- p + 2·dt·r + dt·dt·s = (p + dt·r) + (r + dt·s)·dt
  square : (p r s dt : F) → p ⊕ two ⊗ dt ⊗ r ⊕ dt ⊗ dt ⊗ s ≡ p ⊕ dt ⊗ r ⊕ (r ⊕ dt ⊗ s) ⊗ dt
  square p r s dt =
      ap (λ (w : F). p ⊕ w ⊗ dt ⊗ r ⊕ dt ⊗ dt ⊗ s) X.field.two_is
      ∙ simp (Algebra.add-mul N X, X.field.mul_assoc, X.field.mul_comm, Algebra.mul_left N X, X.field.add_assoc, Algebra.mul-one N X)

  module _ (n : ℕ) (q : F) (k : Filter F) (t : F) (long : length k.axes ≡ n) where
    abbrev dt : F
    dt = t ⊖ k.t

    axis-is : (i : ℕ) → i < n → axis_at N (predict N q k t) i ≡ predict_axis N dt (axis_at N k i)
    axis-is i h = map_at (predict_axis N dt) (start_axis N past) (start_axis N past) k.axes i (rw long h)

    abbrev was : ℕ → F
    was = (estimate_of N n k).x

    pub predicts : Predicted N n q (estimate_of N n k) t (estimate_of N n (predict N q k t))
    predicts =
        record {
          state =
              by_halves n (λ i. (estimate_of N n (predict N q k t)).x i ≡ x⁻ N n q (estimate_of N n k) t i)
              (λ i h.
              position_is N n (predict N q k t) i h
              ∙ ap (λ (a : Axis F). a.at) (axis-is i h)
              ∙ sym
              (image_above N X n one dt nought one was i h
              ∙ ap₂ (λ (v w : F). v ⊕ dt ⊗ w) (X.field.one_mul (was i) ∙ position_is N n k i h) (speed_is N n k i)))
              (λ i h.
              speed_is N n (predict N q k t) i
              ∙ ap (λ (a : Axis F). a.speed) (axis-is i h)
              ∙ sym
              (image_below N X n one dt nought one was i h
              ∙ ap₂ ◌⊕◌ (Algebra.zero-mul N X (was i)) (X.field.one_mul (was (n + i)) ∙ speed_is N n k i)
              ∙ Algebra.zero-add N X (axis_at N k i).speed));
          covariance = λ i j h g.
              blocks_same N n i j
              (ap (λ (w : F). w ⊕ q ⊗ (dt ⊗ (dt ⊗ dt)) ⊘ three) (square p.p00 p.p01 p.p11 dt))
              (ap (λ (w : F). p.p01 ⊕ dt ⊗ p.p11 ⊕ w ⊘ two) (X.field.mul_assoc q dt dt))
              (ap (λ (w : F). p.p01 ⊕ dt ⊗ p.p11 ⊕ w ⊘ two) (X.field.mul_assoc q dt dt))
              refl
              ∙ sym (carried N X n dt p.p00 p.p01 p.p11 (q ⊗ (dt ⊗ (dt ⊗ dt)) ⊘ three) (q ⊗ (dt ⊗ dt) ⊘ two) (q ⊗ dt) i j h g);
          time = refl;
        }
      where
        p : Cov F
        p = k.cov
