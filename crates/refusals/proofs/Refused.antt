-- No refusal has the number 0. Assumes nothing.
use mathlib.Core.Path.{◌≡◌, refl}
use mathlib.Core.Bool.{false}
use lib.Dec.{eqb}
use Rattle.refusals.specs.declared.Refusal.{Refusal}
use Rattle.refusals.specs.declared.Refusal.TheVariants.{Setting, Window, State, Output, Frame, Coordinate, Index, Count, Detections, Owners, Size, Bodies, Empty}
use Rattle.refusals.specs.Refusals.{number_of}

-- no refusal has the number 0
pub numbered : (r : Refusal) → eqb (number_of r) 0 ≡ false
numbered Setting = refl
numbered Window = refl
numbered State = refl
numbered Output = refl
numbered Frame = refl
numbered Coordinate = refl
numbered Index = refl
numbered Count = refl
numbered Detections = refl
numbered Owners = refl
numbered Size = refl
numbered Bodies = refl
numbered Empty = refl
