-- A window costs what its detections cost. Assumes nothing.
use Prim.Native.Nat.{ℕ}
use mathlib.Core.Path.{◌≡◌, sym}
use mathlib.Core.List.{List, map}
use Rattle.engine.specs.declared.config.FgoConfig.{FgoConfig}
use Rattle.cost.specs.declared.Fold.{Fold}
use Rattle.cost.specs.Cost.{Measurement, View, cost}
use Rattle.fgo_spec.specs.Lists.{find}
use Rattle.fgo_spec.specs.Windows.{Scan, Prefix, measure, fold_from, price, window}
use Rattle.fgo_spec.specs.Searching.{track_cost}
use Rattle.search.proofs.WindowDets.{Rowed}

-- p and r stand for the frozen part and the window of x
pub record RowFor (c : FgoConfig) (v : View) (ps : List (ℕ × Prefix)) (ss : List Scan) (x : ℕ) (p : Fold) (r : List ℕ) : Type 0 where
  pub part : p ≡ fold_from (find x ps)
  pub row : Rowed c v (window x v.first ss) r

module _ (c : FgoConfig) (n : ℕ) (ps : List (ℕ × Prefix)) (x : ℕ) (p : Fold) (part : p ≡ fold_from (find x ps)) where
  pub cost_dets : (ts : List Scan) (l : List Measurement) → map (measure c) (window x n ts) ≡ l → track_cost c n ps x ts ≡ cost c p l
  unfolding track_cost price
  cost_dets ts l w = λ i. cost c (sym part i) (w i)
