-- What rows cost, and what a window goes on from. Definitions only.
use Rattle.std.specs.Prelude.{ℕ, zero, suc, ◌+◌, ◌^◌, ◌≤◌, ◌<◌, ◌≡◌, cond, List, ◌++◌, length, get_or, take, drop, eqb, Float}
use Rattle.bounds.specs.Bounds.{SCANS}
use Rattle.engine.specs.declared.config.FgoConfig.{FgoConfig}
use Rattle.engine.specs.declared.types.ScanIndex.{ScanIndex}
use Rattle.cost.specs.declared.Fold.{Fold}
use Rattle.cost.specs.declared.Fold.TheVariants.{Fresh, Frozen}
use Rattle.cost.specs.Cost.{View, measurements, fold_over, cost, misses_of}
use Rattle.fgo_spec.specs.Lists.{segment}
use Rattle.fgo_part.specs.Parts.{part_id, part_last_frame, part_kf}

-- ---- the frozen parts

-- the frozen part at place n, as what a window goes on from
abbrev pub frozen_at : List ℕ → List Float → ℕ → Fold
frozen_at ts fs n = Frozen (part_kf fs n) (record { 0 = part_last_frame ts n })

-- the frozen part of x among the m tracks from place n on, or none
unfoldable pub fold_after : List ℕ → List Float → ℕ → ℕ → ℕ → Fold
fold_after ts fs x n zero = Fresh
fold_after ts fs x n (suc m) = cond (eqb x (part_id ts n)) (frozen_at ts fs n) (fold_after ts fs x (suc n) m)

-- the frozen part of x among the first m tracks
abbrev pub fold_among : List ℕ → List Float → ℕ → ℕ → Fold
fold_among ts fs m x = fold_after ts fs x 0 m

-- ---- rows

-- the cost of the window that has the row r and goes on from p
abbrev pub row_cost : FgoConfig → View → Fold → List ℕ → Float
row_cost c v p r = cost c p (measurements v 0 r)

-- the fold over the scans of a row before k
abbrev pub head_of : FgoConfig → View → Fold → List ℕ → ℕ → Fold
head_of c v p r k = fold_over c p (measurements v 0 (take k r))

-- a's part before the cut and b's from the cut on
abbrev pub crossed : ℕ → List ℕ → List ℕ → List ℕ
crossed g a b = take g a ++ drop g b

-- the number of the held scan k
abbrev pub scan_at : View → ℕ → ScanIndex
scan_at v k = record { 0 = v.first + k }

-- ---- heads: the folds over the scans before a cut are kept and go on to the next cut

-- the fold over the scans of a row from k up to g
abbrev pub on_to : FgoConfig → View → ℕ → ℕ → List ℕ → Fold → Fold
on_to c v k g r f = fold_over c f (measurements v k (segment k g r))

-- ---- what the inner functions ask

-- a frozen part or none, and a row of SCANS scans
pub record Fit (p : Fold) (r : List ℕ) : Type 0 where
  pub idle : misses_of p ≡ 0
  pub long : length r ≡ SCANS

-- a head that ends no later than k, with few misses so far, over a row of SCANS scans
pub record Until (k done : ℕ) (f : Fold) (r : List ℕ) : Type 0 where
  pub before : done ≤ k
  pub few : misses_of f < 2 ^ 58
  pub long : length r ≡ SCANS

-- a row of SCANS scans with no detection from scan `end` on
pub record EndsBy (end : ℕ) (r : List ℕ) : Type 0 where
  pub within : end ≤ SCANS
  pub long : length r ≡ SCANS
  pub empty : (k : ℕ) → end ≤ k → get_or r k 0 ≡ 0
