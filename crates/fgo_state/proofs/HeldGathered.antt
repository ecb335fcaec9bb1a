-- The gathered lists of the held scans: the column of each, its engine ids, and few enough of them. Assumes nothing.
use Prim.Native.Nat.{ℕ, zero, suc, ◌+◌, ◌≤◌, ◌<◌, zero-le}
use native.Mathlib.Nat.{zero-add, le_of_eq}
use native.Mathlib.Omega.{arith}
use mathlib.Core.Path.{◌≡◌, refl, sym, ap, ◌∙◌}
use mathlib.Core.List.{List, map}
use lib.ListN.{length, get_or, length-map}
use lib.Dec.{ltb}
use Rattle.bounds.specs.Bounds.{DETECTIONS}
use Rattle.engine.specs.Body.{rows}
use Rattle.engine.proofs.Passing.{length-rows}
use Rattle.fgo_spec.specs.Lists.{keep}
use Rattle.fgo_spec.specs.Windows.{Scan}
use Rattle.fgo_spec.specs.Owning.{or_else, latest}
use Rattle.fgo_spec.proofs.Ties.{TiedScan}
use Rattle.fgo_spec.specs.Gathered.{column_at, put_back}
use Rattle.fgo_state.specs.Memory.{scan_in, scans_in}
use Rattle.fgo_state.specs.Gathering.{gathered, found_of, latest_of, HeldScans, GatheredAll, StartsWithin}
use Rattle.buffers.proofs.Over.{length_over}
use Rattle.fgo_state.proofs.Columns.{scan_complete}
use Rattle.fgo_state.proofs.LatestGathered.{Each, Engines, latest-gathered}
use Rattle.fgo_state.proofs.GatheredScans.{engines_gathered, ids-gathered, gathered_few, put_back_same, each_rows, column-gathered, found_within}

module _ (bodies columns : List ℕ) (first held n : ℕ) (is es is' es' ts' : List ℕ) (h : HeldScans bodies columns first held) (g : GatheredAll bodies columns first held n is es is' es' ts') where
  abbrev scan : ℕ → Scan
  scan = scan_in bodies columns

  -- the ids of each scan
  pub ids_each : Each (λ k s. column_at ts' is' k ≡ keep (ltb 0) s.ids) 0 (scans_in bodies columns first held)
  ids_each =
      each_rows _ scan 0 first held
      (λ k l.
      let z : 0 + k ≡ k = zero-add k in
      ap (column_at ts' is') z ∙ ap (λ xs. column_at ts' xs k) g.scans.ids ∙ column-gathered scan first held ts' g.starts (λ x. x.id) is k l
      ∙ ids-gathered (first + k) (scan (first + k)).frame (scan (first + k)).frame.associations (scan (first + k)).ids (le_of_eq (scan_complete bodies columns (first + k))))

  -- its engine ids
  pub engines_each : ((k : ℕ) → k < held → TiedScan (λ e. Unit {0}) (scan (first + k))) → Each (Engines ts' es') 0 (scans_in bodies columns first held)
  engines_each t =
      each_rows _ scan 0 first held
      (λ k l.
      let z : 0 + k ≡ k = zero-add k in
      record {
        column =
            ap (column_at ts' es') z ∙ ap (λ xs. column_at ts' xs k) g.scans.engines ∙ column-gathered scan first held ts' g.starts (λ x. x.engine) es k l
            ∙ engines_gathered (first + k) (scan (first + k)).frame (scan (first + k)).frame.associations (scan (first + k)).ids;
        tied = t k l;
      })

  -- no place is past the last
  pub found_few_enough : length (found_of bodies columns first held) ≤ DETECTIONS
  found_few_enough = omega (arith, gathered_few first (scans_in bodies columns first held), h.room)

  start-within : (k : ℕ) → k ≤ held → get_or ts' k 0 ≤ n
  start-within zero l = rw (g.starts zero l) (unfold rows in unfold gathered in zero-le)
  start-within (suc k) l = omega (arith, g.starts (suc k) l, found_within scan first held k l, g.scans.count)

  pub starts_within : StartsWithin ts' held n
  starts_within = record { few = h.few; most = start-within }

  -- the latest holder, of ids in the places of those gathered: of the scans with those ids put back
  pub latest-held :
      ((k : ℕ) → k < held → TiedScan (λ e. Unit {0}) (scan (first + k))) → length es ≡ DETECTIONS →
      (e y : ℕ) (xs : List ℕ) → length xs ≡ DETECTIONS →
      latest e y (put_back ts' xs 0 (scans_in bodies columns first held)) ≡ or_else (latest_of e xs es' ts' held) y
  latest-held t w e y xs v =
      let s : length (scans_in bodies columns first held) ≡ held = length-rows scan first held in
      let few : n ≤ DETECTIONS = omega (arith, g.scans.count, found_few_enough) in
      let long : length es' ≡ DETECTIONS = ap length g.scans.engines ∙ length_over 0 (map (λ x. x.engine) (found_of bodies columns first held)) es (omega (arith, length-map (found_of bodies columns first held) (λ x. x.engine), found_few_enough)) ∙ w in
      latest-gathered e y xs es' ts' (scans_in bodies columns first held) (λ j l. let b = start-within (suc j) (omega arith) in (omega (arith, few), omega (arith, few))) (engines_each t)
      ∙ ap (λ (m : ℕ). or_else (latest_of e xs es' ts' m) y) s

  -- of the ids as they were gathered: of the scans
  pub latest_same :
      ((k : ℕ) → k < held → TiedScan (λ e. Unit {0}) (scan (first + k))) → length is ≡ DETECTIONS → length es ≡ DETECTIONS →
      (e : ℕ) → latest_of e is' es' ts' held ≡ latest e 0 (scans_in bodies columns first held)
  latest_same t v w e =
      let long : length is' ≡ DETECTIONS = ap length g.scans.ids ∙ length_over 0 (map (λ x. x.id) (found_of bodies columns first held)) is (omega (arith, length-map (found_of bodies columns first held) (λ x. x.id), found_few_enough)) ∙ v in
      sym (ap (latest e 0) (sym (put_back_same ts' is' 0 (scans_in bodies columns first held) ids_each)) ∙ latest-held t w e 0 is' long ∙ none (latest_of e is' es' ts' held))
    where
      none : (x : ℕ) → or_else x 0 ≡ x
      none zero = refl
      none (suc x) = refl
