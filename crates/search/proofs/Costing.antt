-- What windows cost, and the costs kept of the first ids of a table. Assumes nothing.
use Prim.Native.Nat.{ℕ, zero, suc, ◌+◌, ◌<◌}
use native.Mathlib.Decide.{ℕ_discrete}
use native.Mathlib.Omega.{arith}
use mathlib.Core.Path.{◌≡◌, refl, sym, ap, ◌∙◌}
use mathlib.Core.Bool.{Bool, true, false, cond}
use mathlib.Core.List.{List}
use lib.ListN.{length, get_or, set, length-set}
use lib.Seq.{get_or-set_same, get_or-set_other}
use lib.Dec.{eqb}
use lib.Ieee.{Float, nan}
use borrow.Author.Count.{below_more}
use Rattle.bounds.specs.Bounds.{DETECTIONS}
use Rattle.cost.specs.declared.Fold.{Fold}
use Rattle.cost.specs.Cost.{misses_of}
use Rattle.fgo_part.specs.Parts.{part_id}
use Rattle.cost_row.specs.Price.{frozen_at, fold_after, row_cost, Fit}
use Rattle.search.specs.Pass.{Scene, view_on, fold_on, row_on, cost_on, IdTable, Costed}
use Rattle.search_rows.proofs.RowSlots.{row-length}
use Rattle.search.proofs.Listing.{listed_apart}

-- ---- one window

-- what a window goes on from has missed no scan
part_idle : (ts : List ℕ) (fs : List Float) (x n m : ℕ) → misses_of (fold_after ts fs x n m) ≡ 0
unfolding fold_after
part_idle ts fs x n zero = refl
part_idle ts fs x n (suc m) = go (eqb x (part_id ts n)) (part_idle ts fs x (suc n) m)
  where
    go : (b : Bool) → misses_of (fold_after ts fs x (suc n) m) ≡ 0 → misses_of (cond b (frozen_at ts fs n) (fold_after ts fs x (suc n) m)) ≡ 0
    go true r = refl
    go false r = r

module _ (e : Scene) (ids : List ℕ) (x : ℕ) {p : Fold} {r : List ℕ} (row : r ≡ row_on e ids x) (part : p ≡ fold_on e x) where
  pub row_fit : Fit p r
  row_fit =
      record {
        idle = ap misses_of part ∙ part_idle e.tracks e.filters x 0 e.hall.frozen;
        long = ap length row ∙ row-length e.starts ids x;
      }

-- ---- the costs kept

pub costed_more :
    {e : Scene} {table ids : List ℕ} {costs : List Float} {i : ℕ} → i < DETECTIONS → Costed e i table ids costs →
    (v : Float) → v ≡ cost_on e ids (get_or table i 0) → Costed e (i + 1) table ids (set costs i v)
costed_more {e} {table} {ids} {costs} {i} h c v q =
    record {
      all = c.all;
      long = length-set costs i v ∙ c.long;
      each =
          below_more (λ (k : ℕ). get_or (set costs i v) k nan ≡ cost_on e ids (get_or table k 0)) i
          (λ k l. get_or-set_other costs i k v nan (λ (z : k ≡ i). omega arith) ∙ c.each k l)
          (get_or-set_same costs i v nan (omega (arith, c.long)) ∙ q);
    }

-- a window whose row is as it was costs what it did
pub cost-stays : (e : Scene) (new ids : List ℕ) (x : ℕ) → row_on e new x ≡ row_on e ids x → cost_on e new x ≡ cost_on e ids x
cost-stays e new ids x q = ap (row_cost e.hall.config (view_on e) (fold_on e x)) q

-- the rows of two ids of the table change, and their costs are worked out anew
pub costed_anew :
    {e : Scene} {n : ℕ} {table ids : List ℕ} {costs : List Float} → IdTable n table → Costed e n table ids costs → (i j : ℕ) → i < j → j < n →
    (new : List ℕ) → length new ≡ DETECTIONS →
    ((x : ℕ) → 0 < x → (x ≡ get_or table i 0 → ⊥) → (x ≡ get_or table j 0 → ⊥) → row_on e new x ≡ row_on e ids x) →
    (v w : Float) → v ≡ cost_on e new (get_or table i 0) → w ≡ cost_on e new (get_or table j 0) → Costed e n table new (set (set costs i v) j w)
costed_anew {e} {n} {table} {ids} {costs} listed c i j h g new l other v w p q =
    record { all = l; long = length-set (set costs i v) j w ∙ long-one; each = λ k b. go k b (ℕ_discrete k i) (ℕ_discrete k j) }
  where
    long-one : length (set costs i v) ≡ DETECTIONS
    long-one = length-set costs i v ∙ c.long

    go : (k : ℕ) → k < n → Dec (k ≡ i) → Dec (k ≡ j) → get_or (set (set costs i v) j w) k nan ≡ cost_on e new (get_or table k 0)
    go k b d (yes z) =
        ap (λ (m : ℕ). get_or (set (set costs i v) j w) m nan) z
        ∙ get_or-set_same (set costs i v) j w nan (omega (arith, long-one, listed.within))
        ∙ q
        ∙ ap (λ (m : ℕ). cost_on e new (get_or table m 0)) (sym z)
    go k b (yes z) (no y) =
        get_or-set_other (set costs i v) j k w nan y
        ∙ ap (λ (m : ℕ). get_or (set costs i v) m nan) z
        ∙ get_or-set_same costs i v nan (omega (arith, c.long, listed.within))
        ∙ p
        ∙ ap (λ (m : ℕ). cost_on e new (get_or table m 0)) (sym z)
    go k b (no z) (no y) =
        get_or-set_other (set costs i v) j k w nan y
        ∙ get_or-set_other costs i k v nan z
        ∙ c.each k b
        ∙ sym (cost-stays e new ids (get_or table k 0) (other (get_or table k 0) (listed.above k b) (listed_apart listed k i b (omega arith) z) (listed_apart listed k j b g y)))
