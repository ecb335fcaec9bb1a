-- The numbers of the refusals. Definitions only.
use Rattle.std.specs.Prelude.{ℕ, Result, Ok, Err}
use Rattle.refusals.specs.declared.Refusal.{Refusal}
use Rattle.refusals.specs.declared.Refusal.TheVariants.{Setting, Window, State, Output, Frame, Coordinate, Index}
use Rattle.refusals.specs.declared.Refusal.TheVariants.{Count, Detections, Owners, Size, Bodies, Empty}

-- a refusal's number
abbrev pub number_of : Refusal → ℕ
number_of Setting = 1
number_of Window = 2
number_of State = 3
number_of Output = 4
number_of Frame = 5
number_of Coordinate = 6
number_of Index = 7
number_of Count = 8
number_of Detections = 9
number_of Owners = 10
number_of Size = 11
number_of Bodies = 12
number_of Empty = 13

-- the number of the refusal that a result is, 0 where it is none
abbrev pub refused : {T : Type 0} → Result T Refusal → ℕ
refused (Ok x) = 0
refused (Err r) = number_of r
