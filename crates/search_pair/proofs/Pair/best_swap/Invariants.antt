use Rattle.std.specs.Prelude.{Option}
use mathlib.Core.Path.{◌≡◌}
use mathlib.Core.Bool.{Bool, true}
use mathlib.Core.List.{List}
use Prim.Native.Nat.{ℕ, ◌≤◌}
use lib.Ieee.{Float, le}
use Rattle.bounds.specs.Bounds.{STARTS}
use Rattle.engine.specs.declared.config.FgoConfig.{FgoConfig}
use Rattle.cost.specs.declared.Fold.{Fold}
use Rattle.cost.specs.Cost.{View, view_in}
use Rattle.fgo_spec.specs.declared.moves.PairMove.{PairMove}
use Rattle.fgo_spec.specs.Searching.{pair_gain, best_gain, better_pair}
use Rattle.fgo_spec.proofs.NoGain.{nought}
use Rattle.search_pair.specs.Pair.{cut_at, try_swap_row, best_swap_row}
use Rattle.cost_row.proofs.Left.{best_from}
use Rattle.cost_row.proofs.Heads.{Along}
use Rattle.search_pair.proofs.Pair.best_swap.Given as goal

-- the folds stand at the last cut, and what is left from k on gives the best of all
pub record Tried (c : FgoConfig) (v : View) (pa pb : Fold) (close : List Bool) (ra rb : List ℕ) (base : Float) (best : Option PairMove) (fa fb : Fold) (done k : ℕ) : Type 0 where
  pub within : k ≤ STARTS
  pub a : Along c v pa ra k done fa
  pub b : Along c v pb rb k done fb
  pub left : best_from better_pair (try_swap_row c v pa pb ra rb base) (cut_at close) STARTS k best ≡ best_swap_row c v pa pb close ra rb base
  pub low : le (best_gain pair_gain best) nought ≡ true

abbrev pub invariant-loop-k : goal.invariant-loop-k
invariant-loop-k l =
    let p = l.self in
    let a = p.a.now in
    let b = p.b.now in
    Tried p.prices.now.config (view_in p.prices.now) a.from b.from p.close.now a.row.slots.now b.row.slots.now p.base l.best l.fa l.fb l.done l.k
