-- The ids that have a window are those above 0 among the gathered ones. Assumes nothing.
use Prim.Native.Nat.{ℕ, zero, suc, ◌+◌, ◌-◌, ◌≤◌, ◌<◌}
use native.Mathlib.Omega.{arith}
use mathlib.Core.Path.{◌≡◌, refl, sym, ap, ◌∙◌}
use mathlib.Core.List.{List, [], ◌∷◌, ◌++◌, flat_map, foldr}
use lib.ListN.{length, get_or, take, drop}
use lib.Seq.{take-add, drop-drop}
use lib.Dec.{ltb}
use Rattle.bounds.specs.Bounds.{SCANS, DETECTIONS}
use Rattle.fgo_spec.specs.Lists.{keep, insert, segment}
use Rattle.fgo_spec.specs.Windows.{Scan, Prefix, present}
use Rattle.fgo_spec.proofs.Counting.{keep_append}
use Rattle.fgo_spec.specs.Gathered.{column_at, spread, put_back}
use Rattle.search_rows.specs.Rows.{Starts, present_in}
use Rattle.search.specs.Pass.{Scene}
use Rattle.search_rows.proofs.Segments.{segment_none}
use Rattle.search_rows.proofs.Renamed.{starts_ordered}
use Rattle.search.proofs.Standing.{HeldFrom, Standing, PresentRows}
use Rattle.fgo_spec.proofs.Spreads.{spread-keep}
use Rattle.search.proofs.WindowRows.{held-fills}

segment-join : {A : Type 0} (a b c : ℕ) (l : List A) → a ≤ b → b ≤ c → segment a b l ++ segment b c l ≡ segment a c l
segment-join a b c l h g =
    let p : a + (b - a) ≡ b = omega arith in
    let q : (b - a) + (c - b) ≡ c - a = omega arith in
    ap (λ (r : List _). segment a b l ++ take (c - b) r) (sym (drop-drop (b - a) a l ∙ ap (λ (n : ℕ). drop n l) p))
    ∙ sym (take-add (b - a) (c - b) (drop a l))
    ∙ ap (λ (n : ℕ). take n (drop a l)) q

module _ (e : Scene) (ids : List ℕ) (begins : Starts e.starts) (long : length ids ≡ DETECTIONS) where
  -- no detection past the scans held
  ends-here : (m k : ℕ) → k + m ≡ SCANS → ((j : ℕ) → k ≤ j → j < SCANS → get_or e.starts (suc j) 0 ≡ get_or e.starts j 0) → get_or e.starts SCANS 0 ≡ get_or e.starts k 0
  ends-here zero k h z = ap (λ (n : ℕ). get_or e.starts n 0) (omega arith)
  ends-here (suc m) k h z = ends-here m (suc k) (omega arith) (λ j p q. z j (omega arith) q) ∙ z k (omega arith) (omega arith)

  kept_from : (ss : List Scan) (m k : ℕ) → k + m ≡ SCANS → length ss ≤ m →
      ((j : ℕ) → k + length ss ≤ j → j < SCANS → get_or e.starts (suc j) 0 ≡ get_or e.starts j 0) → HeldFrom e k ss →
      keep (ltb 0) (flat_map (λ (s : Scan). s.ids) (put_back e.starts ids k ss)) ≡ keep (ltb 0) (segment (get_or e.starts k 0) (get_or e.starts SCANS 0) ids)
  unfolding put_back flat_map
  kept_from [] m k h l z d =
      let q = ends-here m k h (λ j p. z j (omega arith)) in
      ap (keep (ltb 0)) (sym (segment_none (get_or e.starts k 0) (get_or e.starts SCANS 0) ids (omega arith)))
  kept_from (s ∷ ss) zero k h l z d = absurd (omega arith)
  kept_from (s ∷ ss) (suc m) k h l z d =
      let n : k < SCANS = omega arith in
      let gs = column_at e.starts ids k in
      let more = flat_map (λ (s : Scan). s.ids) (put_back e.starts ids (suc k) ss) in
      let later = segment (get_or e.starts (suc k) 0) (get_or e.starts SCANS 0) ids in
      let r : keep (ltb 0) more ≡ keep (ltb 0) later = kept_from ss m (suc k) (omega arith) (omega arith) (λ j p. z j (omega arith)) d.1 in
      keep_append (ltb 0) (spread s.ids gs) more
      ∙ (λ i. spread-keep (ltb 0) refl s.ids gs (held-fills begins d.0 ids long n) i ++ r i)
      ∙ sym (keep_append (ltb 0) gs later)
      ∙ ap (keep (ltb 0))
      (segment-join (get_or e.starts k 0) (get_or e.starts (suc k) 0) (get_or e.starts SCANS 0) ids (begins.rises k n) (starts_ordered begins (suc k) SCANS n (omega arith)))

pub present_rows : (e : Scene) (next : ℕ) (ps : List (ℕ × Prefix)) (ss : List Scan) (ids : List ℕ) → Standing e next ss ids → PresentRows e next ps ss ids
unfolding present present_in
present_rows e next ps ss ids s =
    let q : get_or e.starts SCANS 0 - 0 ≡ e.hall.detections = omega (arith, s.held.ends) in
    ap (foldr insert [])
    (kept_from e ids s.held.starts s.long ss SCANS 0 refl s.held.few (λ j p. s.held.empty j (omega arith)) s.held.scans
    ∙ ap (λ (n : ℕ). keep (ltb 0) (segment n (get_or e.starts SCANS 0) ids)) s.held.begins
    ∙ ap (λ (n : ℕ). keep (ltb 0) (take n ids)) q)
