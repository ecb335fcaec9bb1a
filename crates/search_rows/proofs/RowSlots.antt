-- A row's entries, and the table of all rows. Assumes nothing.
use mathlib.Core.Path.{◌≡◌, refl, ap, ◌∙◌}
use mathlib.Core.Bool.{Bool, true, false, cond, ◌||◌}
use mathlib.Core.List.{List, [], ◌∷◌}
use Prim.Native.Nat.{ℕ, suc, ◌+◌, ◌-◌, ◌≤◌, ◌<◌}
use native.Mathlib.Nat.{zero-add}
use native.Mathlib.Omega.{arith}
use lib.ListN.{length, get_or, drop, length-take}
use lib.Dec.{eqb, ltb}
use Rattle.bounds.specs.Bounds.{SCANS, DETECTIONS}
use Rattle.fgo_spec.specs.Lists.{any, has}
use Rattle.fgo_spec.proofs.Spreads.{above}
use Rattle.fgo_spec.specs.Gathered.{column_at}
use Rattle.search_rows.specs.Rows.{Starts, slot_in, row_entry, row_of}
use Rattle.search_rows.proofs.Filled.{map_up_length, map_up_at}
use Rattle.search_rows.proofs.Renamed.{starts_within}

-- one more than a place among those counted from n is at most one more than the last
slot_within : (x n : ℕ) (l : List ℕ) → slot_in x n l ≤ n + length l
unfolding slot_in
slot_within x n [] = omega arith
slot_within x n (y ∷ l) = go (eqb x y) (slot_within x (suc n) l)
  where
    go : (b : Bool) → slot_in x (suc n) l ≤ suc n + length l → cond b (suc n) (slot_in x (suc n) l) ≤ n + suc (length l)
    go true h = omega arith
    go false h = omega arith

-- an id has a place where it stands
pub slot_has : (x n : ℕ) (gs : List ℕ) → ltb 0 (slot_in x n gs) ≡ has x gs
unfolding slot_in any
slot_has x n [] = refl
slot_has x n (g ∷ gs) = go (eqb x g) (slot_has x (suc n) gs)
  where
    go : (b : Bool) → ltb 0 (slot_in x (suc n) gs) ≡ has x gs → ltb 0 (cond b (suc n) (slot_in x (suc n) gs)) ≡ (b || has x gs)
    go true r = above n
    go false r = r

module _ (starts ids : List ℕ) (x : ℕ) where
  pub row-length : length (row_of starts ids x) ≡ SCANS
  unfolding row_of
  row-length = map_up_length (row_entry starts ids x) 0 SCANS

  pub row_at : (k : ℕ) → k < SCANS → get_or (row_of starts ids x) k 0 ≡ row_entry starts ids x k
  unfolding row_of
  row_at k h = map_up_at (row_entry starts ids x) 0 SCANS k 0 h ∙ ap (row_entry starts ids x) (zero-add k)
