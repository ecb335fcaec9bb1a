-- At exact arithmetic a step of the backward pass is the step of Rauch, Tung and Striebel. Assumes nothing.
use mathlib.Core.Path.{◌≡◌, refl, sym, ap, ap₂, ◌∙◌, subst}
use mathlib.Core.Logic.{◌⊎◌, inl, inr}
use mathlib.Core.Bool.{Bool, true, false, cond}
use mathlib.Core.List.{List}
use Prim.Native.Nat.{ℕ}
use native.Mathlib.Omega.{arith}
use Rattle.scalar.specs.Num.{Num, Exact}
use Rattle.linalg.specs.Grown.{tabulate}
use Rattle.linalg.specs.Matrix.{dot, entry, mul, transpose, add, sub}
use Rattle.linalg.specs.Cholesky.{cholesky, positive, inverse}
use Rattle.linalg.proofs.Laws.{transpose_twice, transpose-add, transpose-sub, sandwich, half_sum_law}
use Rattle.linalg.proofs.Inverse.{left_law, right_law}
use Rattle.models.specs.Motion.{motion, cv_f, cv_q}
use Rattle.models.proofs.Law.{noise_is}
use Rattle.rts.specs.declared.Step.{Step}
use Rattle.rts.specs.declared.Step.TheVariants.{Smoothed, Skipped, Failed}
use Rattle.rts.specs.Smoothing.{Estimate, BackStep, back_step, x_pred, p_pred, gain, smoothed_x, smoothed_p, smoothed, back}
use Rattle.rts.specs.Published.{P⁻, RauchTungStriebel}

module _ (N : Num) where
  noise-symmetric : (dt q : N.F) → transpose N (cv_q N dt q) ≡ cv_q N dt q
  unfolding cv_q transpose tabulate
  noise-symmetric dt q = refl

  motion-twice : (dt : N.F) → transpose N (transpose N (cv_f N dt)) ≡ cv_f N dt
  unfolding cv_f
  motion-twice dt = transpose_twice N (motion N 3 dt)

module _ (N : Num) (X : Exact N) (q dt : N.F) (a s : Estimate N.F) (ours : transpose N a.p ≡ a.p) (later : transpose N s.p ≡ s.p) where
  predicted-symmetric : transpose N (p_pred N q dt a.p) ≡ p_pred N q dt a.p
  unfolding p_pred
  predicted-symmetric =
      transpose-add N (mul N (mul N (cv_f N dt) a.p) (transpose N (cv_f N dt))) (cv_q N dt q)
      ∙ ap₂ (add N 36) (sandwich N X (cv_f N dt) a.p (motion-twice N dt) ours) (noise-symmetric N dt q)

  module _ (good : positive N (p_pred N q dt a.p) ≡ true) where
    abbrev pp : List N.F
    pp = p_pred N q dt a.p

    abbrev g : List N.F
    g = gain N dt a.p (cholesky N pp)

    -- P + G (P⁺ − P⁻) Gᵀ
    abbrev whole : List N.F
    whole = add N 36 a.p (mul N (mul N g (sub N 36 s.p pp)) (transpose N g))

    gain-twice : transpose N (transpose N g) ≡ g
    unfolding gain mul
    gain-twice = transpose_twice N (λ i j. dot N (λ k. entry N (mul N a.p (transpose N (cv_f N dt))) i k) (λ k. entry N (inverse N (cholesky N pp)) k j))

    whole-symmetric : transpose N whole ≡ whole
    whole-symmetric =
        transpose-add N a.p (mul N (mul N g (sub N 36 s.p pp)) (transpose N g))
        ∙ ap₂ (add N 36) ours (sandwich N X g (sub N 36 s.p pp) gain-twice (transpose-sub N s.p pp ∙ ap₂ (sub N 36) later predicted-symmetric))

    -- so the half-sum keeps it
    covariance-is : (smoothed N q dt a s).p ≡ whole
    unfolding smoothed smoothed_p
    covariance-is = half_sum_law N X whole whole-symmetric

    published : RauchTungStriebel N q dt a s (smoothed N q dt a s)
    unfolding smoothed smoothed_x x_pred p_pred gain cv_f
    published =
        let e : pp ≡ P⁻ N q dt a s (smoothed N q dt a s) = ap (add N 36 (mul N (mul N (cv_f N dt) a.p) (transpose N (cv_f N dt)))) (noise_is N X dt q) in
        record {
          inverse = inverse N (cholesky N pp);
          left = ap (mul N (inverse N (cholesky N pp))) (sym e) ∙ left_law N X pp good predicted-symmetric;
          right = ap (λ p. mul N p (inverse N (cholesky N pp))) (sym e) ∙ right_law N X pp good predicted-symmetric;
          G = g;
          gain = refl;
          state = refl;
          covariance = covariance-is ∙ ap (λ p. add N 36 a.p (mul N (mul N g (sub N 36 s.p p)) (transpose N g))) e;
        }

  -- a step is taken only where the pivots are above 0
  taken : (r : Estimate N.F) → back N q dt a s ≡ back_step Smoothed r → (positive N (p_pred N q dt a.p) ≡ true) × (smoothed N q dt a s ≡ r)
  unfolding back
  taken r e = go (N.le dt N.zero) (positive N (p_pred N q dt a.p)) refl e
    where
      other : (t : Step) → t ≡ Smoothed → (t ≡ Skipped) ⊎ (t ≡ Failed) → ⊥
      other t e (inl f) = let z : ◌≡◌ {A = ℕ} 0 1 = cc in omega arith
      other t e (inr f) = let z : ◌≡◌ {A = ℕ} 0 1 = cc in omega arith

      go : (skips good : Bool) → positive N (p_pred N q dt a.p) ≡ good
          → cond skips (back_step Skipped s) (cond good (back_step Smoothed (smoothed N q dt a s)) (back_step Failed s)) ≡ back_step Smoothed r
          → (positive N (p_pred N q dt a.p) ≡ true) × (smoothed N q dt a s ≡ r)
      go true good p e = absurd (other Skipped (ap (λ (w : BackStep N.F). w.step) e) (inl refl))
      go false true p e = (p, ap (λ (w : BackStep N.F). w.state) e)
      go false false p e = absurd (other Failed (ap (λ (w : BackStep N.F). w.step) e) (inr refl))

  -- whatever a step that is taken leaves is the textbook's smoothed state
  pub law : (r : Estimate N.F) → back N q dt a s ≡ back_step Smoothed r → RauchTungStriebel N q dt a s r
  law r e = subst (RauchTungStriebel N q dt a s) (taken r e).1 (published (taken r e).0)

  -- and its covariance is symmetric again, as the next step asks it to be
  pub symmetric_again : (r : Estimate N.F) → back N q dt a s ≡ back_step Smoothed r → transpose N r.p ≡ r.p
  symmetric_again r e =
      let c = covariance-is (taken r e).0 in
      subst (λ (r : Estimate N.F). transpose N r.p ≡ r.p) (taken r e).1 (ap (transpose N) c ∙ whole-symmetric (taken r e).0 ∙ sym c)
