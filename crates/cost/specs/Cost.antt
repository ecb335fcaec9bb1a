-- Document 01, "Cost", and the windows that the code lends. Definitions only.
use Rattle.std.specs.Prelude.{ℕ, zero, suc, ◌+◌, ◌-◌, ◌%◌, List, [], ◌∷◌, pos, from_bits, slice_index_or, Float}
use mathlib.Core.List.{foldl}
use Rattle.std.specs.Float.{nan, binary64}
use Rattle.std.specs.Float.Ieee.{of_int, add, mul}
use Rattle.bounds.specs.Bounds.{DETECTIONS}
use Rattle.engine.specs.declared.config.FgoConfig.{FgoConfig}
use Rattle.engine.specs.declared.types.ScanIndex.{ScanIndex}
use Rattle.engine.specs.Config.{birth, miss, density, variance}
use Rattle.kf.specs.declared.filter.Kf.{Kf}
use Rattle.cost.specs.declared.prices.Prices.{Prices}
use Rattle.cost.specs.declared.Sums.{Sums}
use Rattle.kf.specs.declared.filter.Dot.{Dot}
use Rattle.cost.specs.declared.Fold.{Fold}
use Rattle.cost.specs.declared.Fold.TheVariants.{Fresh, Frozen, Going}
use Rattle.kf.specs.Filter.{started, worked}

-- a detection of a window: the number of its scan, that scan's time in seconds, where it lies, and the variance of its
-- position
pub record Measurement : Type 0 where
  pub scan : ℕ
  pub t : Float
  pub x : Float
  pub y : Float
  pub r : Float

-- "scans skipped since the last"
abbrev pub gap : ℕ → ℕ → ℕ
gap scan last = scan - last - 1

-- "Each further one predicts and adds its NLL; scans skipped since the last (or frozen last) are misses"; q is the
-- acceleration spectral density
unfoldable pub added : Float → Sums → Measurement → Sums
added q s d =
    let u = worked s.kf d.t q d.x d.y d.r in
    record { kf = u.kf; total = add binary64 s.total u.nll; last = record { 0 = d.scan }; misses = s.misses + gap d.scan s.last.0 }

-- "From a frozen part: its filter, total 0.0"
abbrev pub resumed : Kf → ScanIndex → Sums
resumed k l = record { kf = k; total = from_bits binary64 0; last = l; misses = 0 }

-- "Else start at the first detection, total birth_cost"
abbrev pub born : FgoConfig → Measurement → Sums
born c d = record { kf = started d.x d.y d.t d.r (variance c); total = birth c; last = record { 0 = d.scan }; misses = 0 }

-- one detection more
unfoldable pub fold_one : FgoConfig → Fold → Measurement → Fold
fold_one c Fresh d = Going (born c d)
fold_one c (Frozen k l) d = Going (added (density c) (resumed k l) d)
fold_one c (Going s) d = Going (added (density c) s d)

-- the fold over detections: one after the other
unfoldable pub fold_over : FgoConfig → Fold → List Measurement → Fold
fold_over c s ds = foldl (fold_one c) s ds

-- "empty window 0.0, frozen part or not"; "Total + misses·miss_cost"
unfoldable pub closed : FgoConfig → Fold → Float
closed c Fresh = from_bits binary64 0
closed c (Frozen k l) = from_bits binary64 0
closed c (Going s) = add binary64 s.total (mul binary64 (of_int binary64 (pos s.misses)) (miss c))

-- the cost of a window, from a frozen part or from none
abbrev pub cost : FgoConfig → Fold → List Measurement → Float
cost c from ds = closed c (fold_over c from ds)

-- ---- what the code lends: the number of the first scan, and the dots

-- the number of the oldest scan held, and the dots
pub record View : Type 0 where
  pub first : ℕ
  pub dots : List Dot

-- the view of what is lent
abbrev pub view_of : ScanIndex → List Dot → View
view_of first dots = record { first = first.0; dots = dots }

-- what stands past the end of the dots
abbrev pub no_dot : Dot
no_dot = record { x = nan; y = nan; r = nan; t = nan }

-- dot i, counted round
abbrev pub dot_at : List Dot → ℕ → Dot
dot_at ds i = slice_index_or ds (i % DETECTIONS) no_dot

-- the view of what prices windows
abbrev pub view_in : Prices → View
view_in p = view_of p.first p.dots.now

-- a dot, as the detection of a scan
abbrev pub measurement_of : ScanIndex → Dot → Measurement
measurement_of scan d = record { scan = scan.0; t = d.t; x = d.x; y = d.y; r = d.r }

-- dot j, as the detection of the held scan k
abbrev pub measurement_at : View → ℕ → ℕ → Measurement
measurement_at v k j = measurement_of (record { 0 = v.first + k }) (dot_at v.dots j)

-- the detections of a row that begins at the held scan k: for each scan one more than the dot, 0 where there is none
unfoldable pub measurements : View → ℕ → List ℕ → List Measurement
measurements v k [] = []
measurements v k (zero ∷ r) = measurements v (suc k) r
measurements v k (suc j ∷ r) = measurement_at v k j ∷ measurements v (suc k) r

-- ---- what the inner functions ask, beside the meaning

-- the scans without a detection that a fold has counted
abbrev pub misses_of : Fold → ℕ
misses_of Fresh = 0
misses_of (Frozen k l) = 0
misses_of (Going s) = s.misses
