-- One step back at the arithmetic of 23 elements, computed: what the laws of the smoother ask holds there, so they
-- speak of something.
-- The numbers expected are those of the textbook's formulas modulo 23, with (P⁻)⁻¹ by elimination. Assumes nothing.
use mathlib.Core.Path.{◌≡◌, refl}
use mathlib.Core.List.{List, [], ◌∷◌}
use Rattle.scalar.specs.TwentyThree.{Residue, residue, residues, twenty_three}
use Rattle.scalar.proofs.TwentyThree.{exact}
use Rattle.linalg.specs.Grown.{tabulate, grown, backed}
use Rattle.linalg.specs.Matrix.{mul, mul_vec, transpose, add, sub, scale, half_sum}
use Rattle.linalg.specs.Cholesky.{less, factor_column, columns, cholesky, positive, forward, backward, inverse, lower_part, Triangular}
use Rattle.models.specs.Motion.{cv_f, cv_q}
use Rattle.rts.specs.declared.Step.TheVariants.{Smoothed}
use Rattle.rts.specs.Smoothing.{Estimate, estimate, back_step, x_pred, p_pred, gain, smoothed_x, smoothed_p, smoothed, back}
use Rattle.rts.specs.Published.{RauchTungStriebel, Symmetric}
use Rattle.rts.proofs.Law.{law}
use Rattle.rts.proofs.Taken.{taken}

-- the noise's density
abbrev q : Residue
q = residue 5

-- the time
abbrev dt : Residue
dt = residue 2

-- the filtered state
abbrev a : Estimate Residue
a =
    estimate
    (residues (4 ∷ 9 ∷ 1 ∷ 7 ∷ 0 ∷ 22 ∷ []))
    (residues
    (21 ∷ 12 ∷ 2 ∷ 12 ∷ 17 ∷ 11
    ∷ 12 ∷ 6 ∷ 3 ∷ 11 ∷ 3 ∷ 5
    ∷ 2 ∷ 3 ∷ 1 ∷ 0 ∷ 10 ∷ 9
    ∷ 12 ∷ 11 ∷ 0 ∷ 13 ∷ 20 ∷ 9
    ∷ 17 ∷ 3 ∷ 10 ∷ 20 ∷ 16 ∷ 3
    ∷ 11 ∷ 5 ∷ 9 ∷ 9 ∷ 3 ∷ 9
    ∷ []))

-- the smoothed state after it
abbrev s : Estimate Residue
s =
    estimate
    (residues (5 ∷ 6 ∷ 13 ∷ 8 ∷ 2 ∷ 19 ∷ []))
    (residues
    (5 ∷ 1 ∷ 2 ∷ 3 ∷ 4 ∷ 5
    ∷ 1 ∷ 10 ∷ 9 ∷ 13 ∷ 17 ∷ 21
    ∷ 2 ∷ 9 ∷ 21 ∷ 0 ∷ 7 ∷ 14
    ∷ 3 ∷ 13 ∷ 0 ∷ 15 ∷ 20 ∷ 7
    ∷ 4 ∷ 17 ∷ 7 ∷ 20 ∷ 15 ∷ 0
    ∷ 5 ∷ 21 ∷ 14 ∷ 7 ∷ 0 ∷ 21
    ∷ []))

-- what is expected
abbrev r : Estimate Residue
r =
    estimate
    (residues (3 ∷ 10 ∷ 17 ∷ 1 ∷ 1 ∷ 19 ∷ []))
    (residues
    (0 ∷ 21 ∷ 19 ∷ 2 ∷ 1 ∷ 19
    ∷ 21 ∷ 19 ∷ 3 ∷ 6 ∷ 16 ∷ 18
    ∷ 19 ∷ 3 ∷ 6 ∷ 1 ∷ 16 ∷ 14
    ∷ 2 ∷ 6 ∷ 1 ∷ 9 ∷ 3 ∷ 20
    ∷ 1 ∷ 16 ∷ 16 ∷ 3 ∷ 21 ∷ 1
    ∷ 19 ∷ 18 ∷ 14 ∷ 20 ∷ 1 ∷ 2
    ∷ []))

-- P⁻ = M Mᵀ with this M
abbrev m : List Residue
m =
    residues
    (2 ∷ 0 ∷ 0 ∷ 0 ∷ 0 ∷ 0
    ∷ 5 ∷ 3 ∷ 0 ∷ 0 ∷ 0 ∷ 0
    ∷ 7 ∷ 11 ∷ 4 ∷ 0 ∷ 0 ∷ 0
    ∷ 1 ∷ 0 ∷ 20 ∷ 6 ∷ 0 ∷ 0
    ∷ 17 ∷ 2 ∷ 9 ∷ 5 ∷ 8 ∷ 0
    ∷ 3 ∷ 14 ∷ 0 ∷ 1 ∷ 10 ∷ 9
    ∷ [])

-- ---- what the laws ask
shape : Triangular twenty_three m
unfolding lower_part tabulate
shape = record { lower = refl; diagonal = refl }

square : p_pred twenty_three q dt a.p ≡ mul twenty_three m (transpose twenty_three m)
unfolding p_pred mul transpose add tabulate cv_f cv_q
square = refl

ours : Symmetric twenty_three a
unfolding transpose tabulate
ours = refl

later : Symmetric twenty_three s
unfolding transpose tabulate
later = refl

-- ---- so the step is taken; here it is computed, the factorisation and the substitutions with it
is_taken : back twenty_three q dt a s ≡ back_step Smoothed (smoothed twenty_three q dt a s)
is_taken = taken twenty_three exact q dt a s refl m shape square

pub step : back twenty_three q dt a s ≡ back_step Smoothed r
unfolding back smoothed smoothed_x smoothed_p gain x_pred p_pred
    mul mul_vec transpose add sub scale half_sum tabulate cv_f cv_q
    positive cholesky columns factor_column less grown backed forward backward inverse
step = refl

-- and is the textbook's
pub textbook : RauchTungStriebel twenty_three q dt a s r
textbook = law twenty_three exact q dt a s ours later r step
