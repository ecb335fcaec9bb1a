-- The scans that two tracks share are those that their rows share. Assumes nothing.
use Prim.Native.Nat.{ℕ, zero, suc, ◌+◌, ◌≤◌, ◌<◌}
use native.Mathlib.Omega.{arith}
use mathlib.Core.Path.{◌≡◌, refl, sym, ◌∙◌}
use mathlib.Core.Bool.{cond, ◌&&◌}
use mathlib.Core.List.{List, [], ◌∷◌, map}
use lib.ListN.{length, get_or}
use lib.Dec.{ltb}
use borrow.Author.Tests.{ne_eqb}
use Rattle.bounds.specs.Bounds.{SCANS, DETECTIONS}
use Rattle.fgo_spec.specs.Lists.{has, up_from}
use Rattle.fgo_spec.specs.Windows.{Scan, Prefix}
use Rattle.fgo_spec.specs.Searching.{shared}
use Rattle.fgo_spec.specs.Gathered.{column_at, spread, put_back}
use Rattle.search_rows.specs.Rows.{Starts, row_entry, row_of}
use Rattle.search_merge.specs.Merge.{count_rows, both_have, shared_rows}
use Rattle.search.specs.Pass.{Scene}
use Rattle.search.proofs.Standing.{HeldFrom, Standing, SharedRows}
use Rattle.fgo_spec.proofs.Spreads.{above}
use Rattle.search.proofs.WindowRows.{slot_now, slot_empty}

both_have_lem : (x y : ℕ) → both_have x y ≡ cond (ltb 0 x && ltb 0 y) 1 0
both_have_lem zero y = refl
both_have_lem (suc x) zero = rw (ne_eqb (suc x) 0 (λ e. omega arith), above x)
both_have_lem (suc x) (suc y) = rw (ne_eqb (suc x) 0 (λ e. omega arith), ne_eqb (suc y) 0 (λ e. omega arith), above x, above y)

module _ (e : Scene) (ids : List ℕ) (begins : Starts e.starts) (long : length ids ≡ DETECTIONS) (a b : ℕ) (ha : 0 < a) (hb : 0 < b) where
  none-shared : (m k : ℕ) → k + m ≡ SCANS → ((j : ℕ) → k ≤ j → j < SCANS → get_or e.starts (suc j) 0 ≡ get_or e.starts j 0) →
      shared_rows (map (row_entry e.starts ids a) (up_from k m)) (map (row_entry e.starts ids b) (up_from k m)) ≡ 0
  unfolding up_from count_rows
  none-shared zero k h z = refl
  none-shared (suc m) k h z =
      let r = none-shared m (suc k) (omega arith) (λ j p q. z j (omega arith) q) in
      let w = slot_empty e.starts ids a k (z k (omega arith) (omega arith)) in
      rw (w, r)

  shared-from : (ss : List Scan) (m k : ℕ) → k + m ≡ SCANS → length ss ≤ m →
      ((j : ℕ) → k + length ss ≤ j → j < SCANS → get_or e.starts (suc j) 0 ≡ get_or e.starts j 0) → HeldFrom e k ss →
      shared a b (put_back e.starts ids k ss) ≡ shared_rows (map (row_entry e.starts ids a) (up_from k m)) (map (row_entry e.starts ids b) (up_from k m))
  unfolding shared put_back up_from count_rows
  shared-from [] m k h l z d = sym (none-shared m k h (λ j p. z j (omega arith)))
  shared-from (s ∷ ss) zero k h l z d = absurd (omega arith)
  shared-from (s ∷ ss) (suc m) k h l z d =
      let n : k < SCANS = omega arith in
      let r = shared-from ss m (suc k) (omega arith) (omega arith) (λ j p. z j (omega arith)) d.1 in
      let one : both_have (row_entry e.starts ids a k) (row_entry e.starts ids b k) ≡ cond (has a (spread s.ids (column_at e.starts ids k)) && has b (spread s.ids (column_at e.starts ids k))) 1 0 =
      both_have_lem (row_entry e.starts ids a k) (row_entry e.starts ids b k) ∙ (λ i. cond (slot_now begins d.0 ids long n a ha i && slot_now begins d.0 ids long n b hb i) 1 0) in
      λ i. sym one i + r i

pub shared-rows : (e : Scene) (next : ℕ) (ps : List (ℕ × Prefix)) (ss : List Scan) (ids : List ℕ) → Standing e next ss ids → SharedRows e next ps ss ids
unfolding row_of
shared-rows e next ps ss ids s a b ha hb =
    shared-from e ids s.held.starts s.long a b ha hb ss SCANS 0 refl s.held.few (λ j p. s.held.empty j (omega arith)) s.held.scans
