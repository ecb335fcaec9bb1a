-- At exact arithmetic a step is taken wherever the predicted covariance is M Mᵀ, M lower triangular with a diagonal
-- above 0. Assumes nothing.
use mathlib.Core.Path.{◌≡◌, refl, ap, ◌∙◌}
use mathlib.Core.Bool.{Bool, true, false, cond}
use mathlib.Core.List.{List, [], ◌∷◌}
use mathlib.Core.Option.{some}
use Rattle.scalar.specs.Num.{Num, Exact}
use Rattle.linalg.specs.Matrix.{mul, transpose}
use Rattle.linalg.specs.Cholesky.{cholesky, positive, Triangular}
use Rattle.linalg.proofs.Triangle.{succeeds, factor_is}
use Rattle.rts.specs.declared.Step.TheVariants.{Smoothed, Skipped, Failed}
use Rattle.rts.specs.Smoothing.{Estimate, Later, back_step, left, p_pred, smoothed, back, back_from, back_over}
use Rattle.rts.specs.Published.{RauchTungStriebel, Symmetric, Factored, AllFactored}
use Rattle.rts.proofs.Law.{law}

module _ (N : Num) (X : Exact N) (q dt : N.F) (a s : Estimate N.F) where
  module _ (above : N.le dt N.zero ≡ false) (m : List N.F) (shape : Triangular N m) (is : p_pred N q dt a.p ≡ mul N m (transpose N m)) where
    -- the pivots are above 0
    good : positive N (p_pred N q dt a.p) ≡ true
    good = ap (positive N) is ∙ succeeds N X m shape

    -- and M is the factor
    pub factor : cholesky N (p_pred N q dt a.p) ≡ m
    factor = ap (cholesky N) is ∙ factor_is N X m shape

    -- so the step is taken
    pub taken : back N q dt a s ≡ back_step Smoothed (smoothed N q dt a s)
    unfolding back
    taken = λ i. cond (above i) (back_step Skipped s) (cond (good i) (back_step Smoothed (smoothed N q dt a s)) (back_step Failed s))

    -- and it is the textbook's
    pub taken_law : Symmetric N a → Symmetric N s → RauchTungStriebel N q dt a s (smoothed N q dt a s)
    taken_law ours later = law N X q dt a s ours later (smoothed N q dt a s) taken

  -- a step leaves a state
  leaves : Factored N q dt a → (r : Estimate N.F) × (left (back N q dt a s) ≡ some r)
  unfolding back
  leaves f = go (N.le dt N.zero) refl
    where
      go : (b : Bool) → N.le dt N.zero ≡ b → (r : Estimate N.F) × (left (back N q dt a s) ≡ some r)
      go true e = (s, ap (λ (b : Bool). left (cond b (back_step Skipped s) (cond (positive N (p_pred N q dt a.p)) (back_step Smoothed (smoothed N q dt a s)) (back_step Failed s)))) e)
      go false e = let (m, shape, is) = f e in (smoothed N q dt a s, ap left (taken e m shape is))

-- and so does the pass over a chain
pub pass_leaves : (N : Num) (X : Exact N) (q : N.F) (a : Estimate N.F) (l : List (Later N.F)) → AllFactored N q a l
    → (r : Estimate N.F) × (back_over N q a l ≡ some r)
pass_leaves N X q a [] f = (a, refl)
pass_leaves N X q a (b ∷ l) f =
    let (s, e) = pass_leaves N X q b.state l f.1 in
    let (r, d) = leaves N X q b.dt a s f.0 in
    (r, ap (back_from N q b.dt a) e ∙ d)
