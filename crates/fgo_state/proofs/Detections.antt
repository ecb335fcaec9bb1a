-- Detections in windows, counted: of a column, and of the held scans. Assumes nothing.
use Prim.Native.Nat.{ℕ, zero, suc, ◌+◌, ◌-◌, ◌*◌, ◌≤◌, ◌<◌, zero-le}
use native.Mathlib.Numerals.{add-one}
use native.Mathlib.Omega.{arith}
use mathlib.Core.Path.{◌≡◌, refl, ap, ◌∙◌}
use mathlib.Core.Bool.{Bool, true, false}
use mathlib.Core.List.{List, flat_map}
use lib.Dec.{ltb}
use borrow.Author.Tests.{ltb-true}
use Rattle.bounds.specs.Bounds.{ASSOCIATIONS}
use Rattle.engine.specs.Body.{rows, associations_in}
use Rattle.fgo_spec.specs.Lists.{keep}
use Rattle.fgo_spec.specs.Windows.{in_windows, window_count}
use Rattle.fgo_spec.proofs.Counting.{bump, count-cons}
use Rattle.fgo_spec.proofs.Windows.{detections_snoc}
use Rattle.fgo_state.specs.Memory.{body_at, id_at, scan_in, scans_in}
use Rattle.fgo_state.specs.Gathering.{count_in}
use Rattle.fgo_spec.proofs.Rows.{rows_more}

-- a slot has room for so many
pub count_few : (columns : List ℕ) (n o m : ℕ) → in_windows (rows (id_at columns n) o m) ≤ ASSOCIATIONS - o
unfolding rows
count_few columns n o zero = unfold keep in zero-le
count_few columns n o (suc m) = rw (count-cons (ltb 0) (id_at columns n o) (rows (id_at columns n) (suc o) m)) (go (ltb o ASSOCIATIONS) refl (count_few columns n (suc o) m))
  where
    low : (b : Bool) (k : ℕ) → k ≤ ASSOCIATIONS - suc o → o < ASSOCIATIONS → bump b k ≤ ASSOCIATIONS - o
    low true k h l = omega arith
    low false k h l = omega arith

    none : id_at columns n o ≡ 0 → {k : ℕ} → k ≤ ASSOCIATIONS - suc o → bump (ltb 0 (id_at columns n o)) k ≤ ASSOCIATIONS - o
    none e h = rw e (omega arith)

    go : (b : Bool) → ltb o ASSOCIATIONS ≡ b → {k : ℕ} → k ≤ ASSOCIATIONS - suc o → bump (ltb 0 (id_at columns n o)) k ≤ ASSOCIATIONS - o
    go true e {k} h = low (ltb 0 (id_at columns n o)) k h (ltb-true o ASSOCIATIONS e)
    go false e h = none (unfold id_at in rw e) h

-- one scan more
pub found_more : (bodies columns : List ℕ) (first i : ℕ) → window_count (scans_in bodies columns first (i + 1)) ≡ window_count (scans_in bodies columns first i) + count_in columns (first + i) (associations_in (body_at bodies columns (first + i)))
unfolding scan_in
found_more bodies columns first i = ap (λ (k : ℕ). window_count (scans_in bodies columns first k)) (add-one i) ∙ ap window_count (rows_more (scan_in bodies columns) first i) ∙ detections_snoc (scans_in bodies columns first i) (scan_in bodies columns (first + i))

pub found_few : (bodies columns : List ℕ) (first i : ℕ) → window_count (scans_in bodies columns first i) ≤ ASSOCIATIONS * i
found_few bodies columns first zero = unfold rows in unfold flat_map in unfold keep in zero-le
found_few bodies columns first (suc i) =
    let n = count_in columns (first + i) (associations_in (body_at bodies columns (first + i))) in
    let e : window_count (scans_in bodies columns first (suc i)) ≡ window_count (scans_in bodies columns first i) + n = rw (add-one i) at (found_more bodies columns first i) in
    let few : n ≤ ASSOCIATIONS - 0 = count_few columns (first + i) 0 (associations_in (body_at bodies columns (first + i))) in
    omega (arith, found_few bodies columns first i)
