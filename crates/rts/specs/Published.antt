-- The smoother of Rauch, Tung and Striebel (1965), as textbooks have it: from the last state, which stays as it was
-- filtered, back by steps
--     P⁻ = F P Fᵀ + Q,  G = P Fᵀ (P⁻)⁻¹,  x_s = x + G (x_s⁺ − F x),  P_s = P + G (P_s⁺ − P⁻) Gᵀ.
-- Definitions only.
use Rattle.std.specs.Prelude.{◌≡◌, true, false, List, [], ◌∷◌}
use Rattle.scalar.specs.Num.{Num}
use Rattle.linalg.specs.Matrix.{matrix, identity, mul, mul_vec, transpose, add, sub}
use Rattle.linalg.specs.Cholesky.{Triangular}
use Rattle.models.specs.Motion.{motion, noise}
use Rattle.rts.specs.Smoothing.{Estimate, Later, p_pred}

-- from the filtered state (x, P) and the smoothed one after it, (x⁺, P⁺), over dt with the noise's density q, to the
-- smoothed state r
module _ (N : Num) (q dt : N.F) (filtered later r : Estimate N.F) where
  -- F, the motion over dt at constant velocity
  abbrev F : List N.F
  F = matrix N (motion N 3 dt)

  -- Q, the covariance of the noise over dt
  abbrev Q : List N.F
  Q = matrix N (noise N 3 q dt)

  -- x, the filtered state
  abbrev x : List N.F
  x = filtered.x

  -- P, its covariance
  abbrev P : List N.F
  P = filtered.p

  -- x⁺, the smoothed state after it
  abbrev x⁺ : List N.F
  x⁺ = later.x

  -- P⁺, the covariance of that
  abbrev P⁺ : List N.F
  P⁺ = later.p

  -- P⁻ = F P Fᵀ + Q
  abbrev pub P⁻ : List N.F
  P⁻ = add N 36 (mul N (mul N F P) (transpose N F)) Q

  -- r is the step's answer
  pub record RauchTungStriebel : Type 0 where
    -- (P⁻)⁻¹
    pub inverse : List N.F
    pub left : mul N inverse P⁻ ≡ identity N
    pub right : mul N P⁻ inverse ≡ identity N
    -- G = P Fᵀ (P⁻)⁻¹
    pub G : List N.F
    pub gain : G ≡ mul N (mul N P (transpose N F)) inverse
    -- x_s = x + G (x⁺ − F x)
    pub state : r.x ≡ add N 6 x (mul_vec N G (sub N 6 x⁺ (mul_vec N F x)))
    -- P_s = P + G (P⁺ − P⁻) Gᵀ
    pub covariance : r.p ≡ add N 36 P (mul N (mul N G (sub N 36 P⁺ P⁻)) (transpose N G))

-- over a chain, with the noise's density q
module _ (N : Num) (q : N.F) where
  -- from a filtered state and the smoothed one after it to r: a step of Rauch, Tung and Striebel, but "dt ≤ 0.0 skips,
  -- keeping the later state"
  pub record Stepped (dt : N.F) (filtered later r : Estimate N.F) : Type 0 where
    pub skipped : N.le dt N.zero ≡ true → r ≡ later
    pub taken : N.le dt N.zero ≡ false → RauchTungStriebel N q dt filtered later r

  -- r is the smoothed form of the filtered state a, which the filtered states l follow: the last state itself, and
  -- before it a step back from the next one's
  abbrev pub Published : Estimate N.F → List (Later N.F) → Estimate N.F → Type 0
  Published a [] r = r ≡ a
  Published a (b ∷ l) r = (s : Estimate N.F) × Published b.state l s × Stepped b.dt a s r

-- a state's covariance is symmetric
abbrev pub Symmetric : (N : Num) → Estimate N.F → Type 0
Symmetric N a = transpose N a.p ≡ a.p

-- that of a is, and those of the states l after it
abbrev pub AllSymmetric : (N : Num) → Estimate N.F → List (Later N.F) → Type 0
AllSymmetric N a [] = Symmetric N a
AllSymmetric N a (b ∷ l) = Symmetric N a × AllSymmetric N b.state l

-- where a step over dt is to be taken, P⁻, as the step computes it, is M Mᵀ with some M that is lower triangular and
-- whose diagonal is above 0
abbrev pub Factored : (N : Num) → N.F → N.F → Estimate N.F → Type 0
Factored N q dt a = N.le dt N.zero ≡ false → (m : List N.F) × Triangular N m × (p_pred N q dt a.p ≡ mul N m (transpose N m))

-- it is at each step back to a from the states l after it
abbrev pub AllFactored : (N : Num) → N.F → Estimate N.F → List (Later N.F) → Type 0
AllFactored N q a [] = Unit {0}
AllFactored N q a (b ∷ l) = Factored N q b.dt a × AllFactored N q b.state l

-- The laws, in proofs/, at exact arithmetic and with symmetric covariances:
-- Law: whatever a step that answers Smoothed leaves is the step of Rauch, Tung and Striebel. ChainLaw: whatever a pass
-- over a chain leaves is Published. Taken: where P⁻ is M Mᵀ with such an M, a step over dt above 0 answers Smoothed,
-- its Cholesky factor being M; where each is, the pass leaves a state.
