use mathlib.Core.Path.{◌≡◌}
use mathlib.Core.Bool.{Bool, false}
use mathlib.Core.List.{List}
use Prim.Native.Nat.{ℕ, ◌≤◌, ◌<◌}
use lib.ListN.{length, get_or}
use lib.Ieee.{Float}
use Rattle.bounds.specs.Bounds.{SCANS}
use Rattle.kf.specs.declared.filter.Dot.{Dot}
use Rattle.search_neighbours.specs.declared.Point.{Point}
use Rattle.search_neighbours.specs.Near.{close_at, any_close, point_at}
use Rattle.search_neighbours.proofs.close_scans.Given as goal

-- up to scan k the scans are noted, from there on none; x and y are where the detections of the rows in scan k lie
pub record Noting (radius2 : Float) (dots : List Dot) (a b : List ℕ) (close : List Bool) (found : Bool) (k : ℕ) (x y : Point) : Type 0 where
  pub long : length close ≡ SCANS
  pub noted : (m : ℕ) → m < k → get_or close m false ≡ close_at radius2 dots a b m
  pub left : (m : ℕ) → k ≤ m → get_or close m false ≡ false
  pub any : found ≡ any_close close
  pub mine : x ≡ point_at dots (get_or a k 0)
  pub theirs : y ≡ point_at dots (get_or b k 0)

abbrev pub invariant-loop-k : goal.invariant-loop-k
invariant-loop-k l = Noting l.radius2 l.dots l.a l.b l.close l.found l.k l.x l.y
