-- Document 01, "the plain filter", over any arithmetic and any list of axes, which share one covariance; each operation
-- once, in the order written. Definitions only.
use mathlib.Core.List.{List, [], ◌∷◌, map, foldl}
use Rattle.scalar.specs.Num.{Num}

-- position and speed along one axis
pub record Axis (F : Type 0) : Type 0 where
  pub at : F
  pub speed : F

-- "p00, p01, p11": the covariance of position and speed, the same for each axis
pub record Cov (F : Type 0) : Type 0 where
  pub p00 : F
  pub p01 : F
  pub p11 : F

-- "The filter is x, y, their speeds, p00, p01, p11 and t": the axes, their covariance, and the time
pub record Filter (F : Type 0) : Type 0 where
  pub axes : List (Axis F)
  pub cov : Cov F
  pub t : F

-- an observation: its time, its position along each axis, and the variance of that
pub record Observed (F : Type 0) : Type 0 where
  pub t : F
  pub at : List F
  pub r : F

-- all that an update gives: the filter, and the NLL of the observation
pub record After (F : Type 0) : Type 0 where
  pub filter : Filter F
  pub nll : F

-- "s = p00 + r, k0 = p00/s, k1 = p01/s"
pub record Gain (F : Type 0) : Type 0 where
  pub s : F
  pub k0 : F
  pub k1 : F

-- f of each coordinate and its axis
abbrev pub along : {F A : Type 0} → (F → Axis F → A) → List F → List (Axis F) → List A
along f [] l = []
along f (z ∷ zs) [] = []
along f (z ∷ zs) (a ∷ l) = f z a ∷ along f zs l

module _ (N : Num) where
  open N use {F, add as ◌⊕◌, sub as ◌⊖◌, mul as ◌⊗◌, div as ◌⊘◌, ln, zero, half, one, two, three, pi}

  infixl 60 ◌⊕◌ ◌⊖◌
  infixl 70 ◌⊗◌ ◌⊘◌
  -- "Start: position, speeds 0, sigma², 0, initial variance"
  abbrev pub start_axis : F → Axis F
  start_axis z = record { at = z; speed = zero }

  -- "sigma², 0, initial variance": r is sigma²
  abbrev pub start_cov : F → F → Cov F
  start_cov r v = record { p00 = r; p01 = zero; p11 = v }

  -- "Predict, from the old values, dt = t' − t": "positions + dt·speed"
  abbrev pub predict_axis : F → Axis F → Axis F
  predict_axis dt a = record { at = a.at ⊕ dt ⊗ a.speed; speed = a.speed }

  -- "p00 + (2·dt)·p01 + (dt·dt)·p11 + (q·dt³)/3; p01 + dt·p11 + ((q·dt)·dt)/2; p11 + q·dt"
  abbrev pub predict_cov : F → F → Cov F → Cov F
  predict_cov q dt p =
      record {
        p00 = p.p00 ⊕ two ⊗ dt ⊗ p.p01 ⊕ dt ⊗ dt ⊗ p.p11 ⊕ q ⊗ (dt ⊗ (dt ⊗ dt)) ⊘ three;
        p01 = p.p01 ⊕ dt ⊗ p.p11 ⊕ q ⊗ dt ⊗ dt ⊘ two;
        p11 = p.p11 ⊕ q ⊗ dt;
      }

  -- the gain of an update: r is the variance of the position
  abbrev pub gain : F → Cov F → Gain F
  gain r p = let s = p.p00 ⊕ r in record { s = s; k0 = p.p00 ⊘ s; k1 = p.p01 ⊘ s }

  -- the innovation nu of a position along an axis
  abbrev pub innovation : F → Axis F → F
  innovation z a = z ⊖ a.at

  -- "position + k0·nu, speed + k1·nu"
  abbrev pub update_axis : Gain F → F → Axis F → Axis F
  update_axis g z a = let nu = innovation z a in record { at = a.at ⊕ g.k0 ⊗ nu; speed = a.speed ⊕ g.k1 ⊗ nu }

  -- "Then, from the old values, (1 − k0)·p00, (1 − k0)·p01, p11 − k1·p01"
  abbrev pub update_cov : Gain F → Cov F → Cov F
  update_cov g p = record { p00 = (one ⊖ g.k0) ⊗ p.p00; p01 = (one ⊖ g.k0) ⊗ p.p01; p11 = p.p11 ⊖ g.k1 ⊗ p.p01 }

  -- "ln((2·pi)·s)", which each axis adds
  abbrev pub log_term : F → F
  log_term s = ln (two ⊗ pi ⊗ s)

  -- what an axis adds to the NLL: "0.5·(nu·nu/s + ln((2·pi)·s))"
  abbrev pub term : F → F → F
  term s nu = half ⊗ (nu ⊗ nu ⊘ s ⊕ log_term s)

  -- "NLL from 0.0, first x then y, adds" a term for each axis
  abbrev pub nll : F → List F → F
  nll s nus = foldl (λ total nu. total ⊕ term s nu) zero nus

  -- "Start": at a position and a time, r the variance of the position and v that of the speed
  abbrev pub start : List F → F → F → F → Filter F
  start zs t r v = record { axes = map start_axis zs; cov = start_cov r v; t = t }

  -- "Predict, from the old values, dt = t' − t", q the acceleration spectral density
  abbrev pub predict : F → Filter F → F → Filter F
  predict q k t = let dt = t ⊖ k.t in record { axes = map (predict_axis dt) k.axes; cov = predict_cov q dt k.cov; t = t }

  -- "Update" with a position, r its variance
  abbrev pub update : F → List F → Filter F → After F
  update r zs k =
      let g = gain r k.cov in
      record {
        filter = record { axes = along (update_axis g) zs k.axes; cov = update_cov g k.cov; t = k.t };
        nll = nll g.s (along innovation zs k.axes);
      }

  -- "Track work is: predict to a time, then update with a position"
  abbrev pub work : F → Filter F → Observed F → After F
  work q k o = update o.r o.at (predict q k o.t)

  -- "Each further one predicts and adds its NLL"
  abbrev pub further : F → After F → Observed F → After F
  further q a o = let b = work q a.filter o in record { filter = b.filter; nll = a.nll ⊕ b.nll }

  -- the filter over observations: it starts at the first, and each further one is track work; with the sum of the NLLs
  abbrev pub run : F → F → Observed F → List (Observed F) → After F
  run q v o os = foldl (further q) (record { filter = start o.at o.t o.r v; nll = zero }) os
