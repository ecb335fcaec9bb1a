-- Placing in the lent arrays: one association more. Assumes nothing.
use Prim.Native.Nat.{ℕ, zero, suc, ◌<◌}
use native.Mathlib.Omega.{arith}
use mathlib.Core.Path.{◌≡◌, refl}
use mathlib.Core.List.{List, [], ◌∷◌}
use lib.ListN.{length, take, get_or}
use Rattle.engine.specs.declared.types.Association.{Association}
use Rattle.engine.specs.Frame.{no_association}
use Rattle.fgo_spec.specs.Placing as spec
use Rattle.fgo_place.specs.Placing.{placed_one, placed_all}

-- one association more
pub placed-more :
    (old : ℕ) (l : List Association) (j : ℕ) (p : spec.Placing) → j < length l →
    placed_all old (take (suc j) l) p ≡ placed_one old (placed_all old (take j l) p) (get_or l j no_association).track
unfolding placed_all
placed-more old [] j p h = absurd (omega arith)
placed-more old (a ∷ l) zero p h = refl
placed-more old (a ∷ l) (suc j) p h = placed-more old l j (placed_one old p a.track) (omega arith)
