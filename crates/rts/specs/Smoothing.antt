-- The backward pass over any arithmetic: one step, each operation once, in the order of document 01; and the recursion
-- over a chain of states. Definitions only.
use Rattle.std.specs.Prelude.{cond, List, [], ◌∷◌, Float}
use Rattle.std.proofs.Math.Option.{Option, none, some}
use Rattle.scalar.specs.Num.{Num}
use Rattle.linalg.specs.Matrix.{mul, mul_vec, transpose, add, sub, half_sum}
use Rattle.linalg.specs.Cholesky.{cholesky, positive, inverse}
use Rattle.models.specs.Motion.{cv_f, cv_q}
use Rattle.rts.specs.declared.TrackState.{TrackState}
use Rattle.rts.specs.declared.Step.{Step}
use Rattle.rts.specs.declared.Step.TheVariants.{Smoothed, Skipped, Failed}

-- a track's state, six numbers x, and its covariance p
pub record Estimate (F : Type 0) : Type 0 where
  pub x : List F
  pub p : List F

-- what a step did, and the state that it leaves
pub record BackStep (F : Type 0) : Type 0 where
  pub step : Step
  pub state : Estimate F

-- a later state of a chain, and the time dt to it from the state before it
pub record Later (F : Type 0) : Type 0 where
  pub dt : F
  pub state : Estimate F

-- the state of x and p
abbrev pub estimate : {F : Type 0} → List F → List F → Estimate F
estimate x p = record { x = x; p = p }

-- a track's state by value, as the estimate that it is
abbrev pub estimate_of : TrackState → Estimate Float
estimate_of t = estimate t.x t.p

-- the answer of a step and a state
abbrev pub back_step : {F : Type 0} → Step → Estimate F → BackStep F
back_step r e = record { step = r; state = e }

-- what a step leaves: "A failed Cholesky leaves the track unchanged"
abbrev pub left_by : {F : Type 0} → Step → Estimate F → Option (Estimate F)
left_by Smoothed s = some s
left_by Skipped s = some s
left_by Failed s = none

-- what is left by its answer
abbrev pub left : {F : Type 0} → BackStep F → Option (Estimate F)
left r = left_by r.step r.state

module _ (N : Num) where
  open N use {F, le, zero}

  -- "x_pred = f·x"
  unfoldable pub x_pred : F → List F → List F
  x_pred dt x = mul_vec N (cv_f N dt) x

  -- "p_pred = f·p·fᵀ + cv_q6"
  unfoldable pub p_pred : F → F → List F → List F
  p_pred q dt p = add N 36 (mul N (mul N (cv_f N dt) p) (transpose N (cv_f N dt))) (cv_q N dt q)

  -- "gain = (p·fᵀ)·inverse", by Cholesky's factor l of p_pred
  unfoldable pub gain : F → List F → List F → List F
  gain dt p l = mul N (mul N p (transpose N (cv_f N dt))) (inverse N l)

  -- "xs = x + gain·(xs − x_pred)"
  unfoldable pub smoothed_x : F → List F → List F → List F → List F
  smoothed_x dt x g xs = add N 6 x (mul_vec N g (sub N 6 xs (x_pred dt x)))

  -- "ps = p + (gain·(ps − p_pred))·gainᵀ, then 0.5·(ps + psᵀ)"
  unfoldable pub smoothed_p : List F → List F → List F → List F → List F
  smoothed_p p pp g ps = half_sum N (add N 36 p (mul N (mul N g (sub N 36 ps pp)) (transpose N g)))

  -- the step as a whole
  unfoldable pub smoothed : F → F → Estimate F → Estimate F → Estimate F
  smoothed q dt a s =
      let pp = p_pred q dt a.p in
      let g = gain dt a.p (cholesky N pp) in
      estimate (smoothed_x dt a.x g s.x) (smoothed_p a.p pp g s.p)

  -- the state a, followed dt later by one whose smoothed form is s. Where the step is not taken, s stays:
  -- "dt ≤ 0.0 skips, keeping the later state"; and Cholesky fails where a pivot of p_pred is not above 0
  unfoldable pub back : F → F → Estimate F → Estimate F → BackStep F
  back q dt a s =
      cond (le dt zero) (back_step Skipped s) (cond (positive N (p_pred q dt a.p)) (back_step Smoothed (smoothed q dt a s)) (back_step Failed s))

  -- from the state dt later, in its smoothed form, back to the state a; nothing where a later step has failed
  abbrev pub back_from : F → F → Estimate F → Option (Estimate F) → Option (Estimate F)
  back_from q dt a none = none
  back_from q dt a (some s) = left (back q dt a s)

  -- from the chain's last state "back to the oldest", which is a and which the states l follow
  abbrev pub back_over : F → Estimate F → List (Later F) → Option (Estimate F)
  back_over q a [] = some a
  back_over q a (b ∷ l) = back_from q b.dt a (back_over q b.state l)
