-- The Kalman filter of the textbooks, at constant velocity along n axes. The state x has 2n numbers, the positions and
-- after them the speeds. From a state x with the covariance P, an observation z that comes dt later leads to x' and P'
-- by
--     x⁻ = F x,  P⁻ = F P Fᵀ + Q,  S = H P⁻ Hᵀ + R,  K = P⁻ Hᵀ S⁻¹,  ν = z − H x⁻,  x' = x⁻ + K ν,  P' = (I − K H) P⁻.
-- Vectors and matrices are functions of row and column; equations between them hold of the entries below their sizes.
-- Definitions only.
use Rattle.std.specs.Prelude.{◌≡◌, true, List, [], ◌∷◌, ℕ, ◌+◌, ◌<◌, length, get_or}
use Rattle.scalar.specs.Num.{Num}
use Rattle.linalg.specs.Matrix.{at, unit}
use Rattle.linalg.specs.Sizes.{sum, image, prod, stacked, turned, plus, minus, diagonal, blocks}
use Rattle.models.specs.Motion.{motion, noise}
use Rattle.kf.specs.Plain.{Axis, Filter, Observed, start_axis, predict, work}

-- a state x, its covariance P, and its time
pub record Estimate (F : Type 0) : Type 0 where
  pub x : ℕ → F
  pub P : ℕ → ℕ → F
  pub t : F

-- n by m matrices are equal
abbrev pub Same : {F : Type 0} → ℕ → ℕ → (ℕ → ℕ → F) → (ℕ → ℕ → F) → Type 0
Same n m a b = (i j : ℕ) → i < n → j < m → a i j ≡ b i j

-- from the state a over the time to t, q the acceleration spectral density
module _ (N : Num) (n : ℕ) (q : N.F) (a : Estimate N.F) (t : N.F) where
  open N use {add as ◌⊕◌, sub as ◌⊖◌, mul as ◌⊗◌, div as ◌⊘◌, ln, zero, half, two, pi}

  infixl 60 ◌⊕◌ ◌⊖◌
  infixl 70 ◌⊗◌ ◌⊘◌
  -- F, the motion over dt
  abbrev pub F : ℕ → ℕ → N.F
  F = motion N n (t ⊖ a.t)

  -- Q, the covariance of its noise
  abbrev pub Q : ℕ → ℕ → N.F
  Q = noise N n q (t ⊖ a.t)

  -- x⁻ = F x
  abbrev pub x⁻ : ℕ → N.F
  x⁻ = image N (n + n) F a.x

  -- P⁻ = F P Fᵀ + Q
  abbrev pub P⁻ : ℕ → ℕ → N.F
  P⁻ = plus N (prod N (n + n) (prod N (n + n) F a.P) (turned N F)) Q

  -- b is the state predicted to t
  pub record Predicted (b : Estimate N.F) : Type 0 where
    pub state : (i : ℕ) → i < n + n → b.x i ≡ x⁻ i
    pub covariance : Same (n + n) (n + n) b.P P⁻
    pub time : b.t ≡ t

  -- by the position z that is observed then, r its variance
  module _ (r : N.F) (z : ℕ → N.F) where
    -- H takes the positions: n rows, 2n columns
    abbrev pub H : ℕ → ℕ → N.F
    H = unit N

    -- R = r I
    abbrev pub R : ℕ → ℕ → N.F
    R = diagonal N r

    -- S = H P⁻ Hᵀ + R
    abbrev pub S : ℕ → ℕ → N.F
    S = plus N (prod N (n + n) (prod N (n + n) H P⁻) (turned N H)) R

    -- ν = z − H x⁻
    abbrev pub ν : ℕ → N.F
    ν i = z i ⊖ image N (n + n) H x⁻ i

    -- b is the state after it, and l the negative log-likelihood of ν under S
    pub record Kalman (b : Estimate N.F) (l : N.F) : Type 0 where
      -- S⁻¹
      pub inverse : ℕ → ℕ → N.F
      pub left : Same n n (prod N n inverse S) (unit N)
      pub right : Same n n (prod N n S inverse) (unit N)
      -- K = P⁻ Hᵀ S⁻¹
      pub K : ℕ → ℕ → N.F
      pub gain : Same (n + n) n K (prod N n (prod N (n + n) P⁻ (turned N H)) inverse)
      -- x = x⁻ + K ν
      pub state : (i : ℕ) → i < n + n → b.x i ≡ x⁻ i ⊕ image N n K ν i
      -- P = (I − K H) P⁻
      pub covariance : Same (n + n) (n + n) b.P (prod N (n + n) (minus N (unit N) (prod N n K H)) P⁻)
      pub time : b.t ≡ t
      -- S has nothing beside its diagonal: the axes are independent, and l is the sum over them of ½ (ν²/S + ln(2π S))
      pub apart : (i j : ℕ) → i < n → j < n → (i ≡ j → ⊥) → S i j ≡ zero
      pub likelihood : l ≡ sum N (λ i. half ⊗ (ν i ⊗ ν i ⊘ S i i ⊕ ln (two ⊗ pi ⊗ S i i))) n

-- ---- over a list of observations

-- z, the position that is observed
abbrev pub z : (N : Num) → Observed N.F → ℕ → N.F
z N o = at N o.at

-- a is where the filter along n axes starts, v the variance of the speed: x = (z, 0), P = diag(r, .., v, ..)
pub record Prior (N : Num) (n : ℕ) (v : N.F) (o : Observed N.F) (a : Estimate N.F) : Type 0 where
  pub state : (i : ℕ) → i < n + n → a.x i ≡ stacked N n (z N o) (λ k. N.zero) i
  pub covariance : Same (n + n) (n + n) a.P (blocks N n o.r N.zero N.zero v)
  pub time : a.t ≡ o.t

module _ (N : Num) (n : ℕ) (q : N.F) where
  -- from the state a to b, and the sum of the negative log-likelihoods from l to l': each observation is one step from
  -- the state before it
  abbrev pub Over : Estimate N.F → N.F → List (Observed N.F) → Estimate N.F → N.F → Type 0
  Over a l [] b l' = (b ≡ a) × (l' ≡ l)
  Over a l (o ∷ os) b l' = (c : Estimate N.F) × (k : N.F) × Kalman N n q a o.t o.r (z N o) c k × Over c (N.add l k) os b l'

  -- the filter that starts at o and goes on by os leaves b, and l is the sum of the negative log-likelihoods of os
  abbrev pub Published : N.F → Observed N.F → List (Observed N.F) → Estimate N.F → N.F → Type 0
  Published v o os b l = (a : Estimate N.F) × Prior N n v o a × Over a N.zero os b l

-- ---- the plain filter, as such a state

module _ (N : Num) where
  -- axis i
  abbrev pub axis_at : Filter N.F → ℕ → Axis N.F
  axis_at k i = get_or k.axes i (start_axis N N.past)

  -- positions and speeds of n axes, and the blocks that p00, p01, p11 make
  abbrev pub estimate_of : ℕ → Filter N.F → Estimate N.F
  estimate_of n k =
      let p = k.cov in
      record { x = stacked N n (λ i. (axis_at k i).at) (λ i. (axis_at k i).speed); P = blocks N n p.p00 p.p01 p.p01 p.p11; t = k.t }

  -- from k on, "s = p00 + r" is above 0 at each update
  abbrev pub AllAbove : N.F → Filter N.F → List (Observed N.F) → Type 0
  AllAbove q k [] = Unit {0}
  AllAbove q k (o ∷ os) = (N.lt N.zero (N.add (predict N q k o.t).cov.p00 o.r) ≡ true) × AllAbove q (work N q k o).filter os

-- each observation is one along n axes
abbrev pub AllAlong : {F : Type 0} → ℕ → List (Observed F) → Type 0
AllAlong n [] = Unit {0}
AllAlong n (o ∷ os) = (length o.at ≡ n) × AllAlong n os

-- The laws, in proofs/, at exact arithmetic: Predicting: predict is Predicted. Updating: track work is Kalman. Law: run
-- is Published, for any n and any observations along n axes, where p00 + r is above 0 at each update.
