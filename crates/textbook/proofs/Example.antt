-- A run of the filter at the arithmetic of 23 elements, computed: what the law asks holds there, so it speaks of
-- something.
-- The numbers expected are those of the textbook's matrices modulo 23. Assumes nothing.
use mathlib.Core.Path.{◌≡◌, refl}
use mathlib.Core.List.{List, [], ◌∷◌}
use Prim.Native.Nat.{ℕ}
use Rattle.scalar.specs.TwentyThree.{Residue, residue, residues, twenty_three}
use Rattle.scalar.proofs.TwentyThree.{exact}
use Rattle.kf.specs.Plain.{Axis, Filter, Observed, start, run}
use Rattle.textbook.specs.Kalman.{Published, estimate_of, AllAbove, AllAlong}
use Rattle.textbook.proofs.Law.{run_law}

-- the density of the motion's noise
abbrev q : Residue
q = residue 7

-- the variance of the speed at the start
abbrev v : Residue
v = residue 2

-- a position x, y at a time t, with the variance r
abbrev seen : ℕ → ℕ → ℕ → ℕ → Observed Residue
seen t x y r = record { t = residue t; at = residues (x ∷ y ∷ []); r = residue r }

-- the first observation
abbrev o : Observed Residue
o = seen 1 5 9 4

-- those after it
abbrev os : List (Observed Residue)
os = seen 3 7 8 4 ∷ seen 4 12 6 9 ∷ seen 6 2 20 3 ∷ []

-- position and speed along an axis
abbrev moving : ℕ → ℕ → Axis Residue
moving z speed = record { at = residue z; speed = residue speed }

-- the filter that is expected after them
abbrev expected : Filter Residue
expected = record { axes = moving 5 9 ∷ moving 4 16 ∷ []; cov = record { p00 = residue 14; p01 = residue 2; p11 = residue 9 }; t = residue 6 }

-- ---- the run, and the sum of the NLLs
pub computed : run twenty_three q v o os ≡ record { filter = expected; nll = residue 11 }
computed = refl

-- ---- what the law asks: two coordinates each, and p00 + r above 0 at each update
along : AllAlong 2 (o ∷ os)
along = (refl, (refl, (refl, (refl, tt))))

above : AllAbove twenty_three q (start twenty_three o.at o.t o.r v) os
above = (refl, (refl, (refl, tt)))

-- ---- so it is the textbook's
pub published : Published twenty_three 2 q v o os (estimate_of twenty_three 2 expected) (residue 11)
published = run_law twenty_three exact 2 q v o os along above
