-- Held scans, the windows of the tracks, and what a window costs. Definitions only.
--
-- A held scan has, for each of its associations in order, the refined id of the track in whose window the association
-- lies, 0 where it is clutter. So each held association lies in exactly one window or in clutter, and a window is read
-- off the scans, rising in scan. A track is live where it has a frozen part or a window: nothing else is kept of it.
use Rattle.std.specs.Prelude.{ℕ, suc, Bool, cond, ◌||◌, length, get_or, eqb, ltb, ℤ, Float, None, Some}
use mathlib.Core.List.{List, [], ◌∷◌, ◌++◌, map, flat_map, foldr}
use Rattle.std.proofs.Math.Option.{Option, none, some}
use Rattle.scalar.specs.Scalar.{seconds_of}
use Rattle.engine.specs.declared.config.FgoConfig.{FgoConfig}
use Rattle.engine.specs.declared.types.EngineTrack.{EngineTrack}
use Rattle.engine.specs.declared.types.Association.{Association}
use Rattle.engine.specs.Config.{position_variance}
use Rattle.engine.specs.Frame.{Frame, no_observation, Associated, ClassLabel}
use Rattle.kf.specs.declared.filter.Kf.{Kf}
use Rattle.cost.specs.declared.Fold.{Fold}
use Rattle.cost.specs.declared.Fold.TheVariants.{Fresh, Frozen}
use Rattle.cost.specs.Cost.{Measurement, cost}
use Rattle.fgo_spec.specs.Lists.{keep, has, insert, find, is_some}

-- a held scan: its frame, and the refined id of each association, 0 for clutter
pub record Scan : Type 0 where
  pub frame : Frame
  pub ids : List ℕ

-- an observation under an id: the number of its scan, that scan's time, where it lies, and the class that its
-- association knows
pub record Detection : Type 0 where
  pub scan : ℕ
  pub time : ℤ
  pub x : Float
  pub y : Float
  pub z : Float
  pub class : ClassLabel

-- the frozen part of a track
pub record Prefix : Type 0 where
  pub kf : Kf
  pub last_frame : ℕ
  pub last_ns : ℤ
  pub count : ℕ
  pub heights : List Float
  pub class : ClassLabel

-- ---- windows

-- "It is found by the association's engine id; where several engine tracks of the frame have that id, the last of them
-- counts."
unfoldable pub class_among : ℕ → ClassLabel → List EngineTrack → ClassLabel
class_among e k [] = k
class_among e k (t ∷ ts) = class_among e (cond (eqb e t.id.0) t.class k) ts

-- the class that an association knows
abbrev pub class_for : Associated → List EngineTrack → ClassLabel
class_for None ts = None
class_for (Some e) ts = class_among e.0 None ts

-- the observation of an association of scan n
unfoldable pub detection_of : ℕ → Frame → Association → Detection
detection_of n f a =
    let p = get_or f.observations a.index.0 no_observation in
    record { scan = n; time = f.time; x = p.x; y = p.y; z = p.z; class = class_for a.track f.tracks }

-- the observations of scan n under the id x
unfoldable pub under : ℕ → ℕ → Frame → List Association → List ℕ → List Detection
under x n f [] is = []
under x n f (a ∷ l) [] = []
under x n f (a ∷ l) (i ∷ is) = cond (eqb x i) (detection_of n f a ∷ under x n f l is) (under x n f l is)

-- those of a held scan
abbrev pub in_scan : ℕ → ℕ → Scan → List Detection
in_scan x n s = under x n s.frame s.frame.associations s.ids

-- the window of x in scans of which the first has the number n
unfoldable pub window : ℕ → ℕ → List Scan → List Detection
window x n [] = []
window x n (s ∷ ss) = in_scan x n s ++ window x (suc n) ss

-- the ids that have a window, ascending
unfoldable pub present : List Scan → List ℕ
present ss = foldr insert [] (keep (ltb 0) (flat_map (λ s. s.ids) ss))

-- "detections in track windows"
abbrev pub in_windows : List ℕ → ℕ
in_windows is = length (keep (ltb 0) is)

-- the detections in windows of all held scans
abbrev pub window_count : List Scan → ℕ
window_count ss = in_windows (flat_map (λ s. s.ids) ss)

-- a track is live where it has a frozen part or a window
abbrev pub live : List (ℕ × Prefix) → List Scan → ℕ → Bool
live ps ss x = is_some (find x ps) || has x (present ss)

-- ---- what a window costs

-- the variance of a dot's position: the same for every dot
abbrev pub noise : FgoConfig → Detection → Float
noise c d = position_variance c

-- an observation, as the detection of a window
abbrev pub measure : FgoConfig → Detection → Measurement
measure c d = record { scan = d.scan; t = seconds_of d.time; x = d.x; y = d.y; r = noise c d }

-- what a window goes on from
abbrev pub fold_from : Option Prefix → Fold
fold_from none = Fresh
fold_from (some p) = Frozen p.kf (record { 0 = p.last_frame })

-- the price of a track: the cost of its window after its frozen part
unfoldable pub price : FgoConfig → Option Prefix → List Detection → Float
price c p ds = cost c (fold_from p) (map (measure c) ds)
