-- The detections in windows of the held scans, gathered scan by scan. Assumes nothing.
use Prim.Native.Nat.{ℕ, zero, suc, ◌+◌, ◌≤◌, ◌<◌}
use native.Mathlib.Numerals.{add-one}
use native.Mathlib.Omega.{arith}
use mathlib.Core.Path.{◌≡◌, refl, sym, ap, ◌∙◌}
use mathlib.Core.List.{List, ◌++◌, flat_map}
use lib.ListN.{length, length-append, length-map}
use Rattle.bounds.specs.Bounds.{DETECTIONS}
use Rattle.kf.specs.declared.filter.Dot.{Dot}
use Rattle.engine.specs.declared.config.FgoConfig.{FgoConfig}
use Rattle.engine.specs.declared.types.ScanIndex.{ScanIndex}
use Rattle.engine.specs.Body.{Body, body_of, rows, frame_in, associations_in}
use Rattle.fgo_spec.specs.Lists.{keep}
use Rattle.fgo_spec.specs.Windows.{window_count}
use Rattle.buffers.specs.Buffers.{over}
use Rattle.fgo_state.specs.declared.scan.HeldScan.{HeldScan}
use Rattle.fgo_state.specs.declared.scans.Scans.{Scans}
use Rattle.fgo_state.specs.Memory.{body_at, id_at, scan_in, scans_in}
use Rattle.fgo_state.specs.Gathering.{gathered, held_dot, dots_of, count_in, found_in, found_of, HeldScans}
use Rattle.engine.proofs.Passing.{length-rows}
use Rattle.fgo_state.proofs.Counts.{associations_long}
use Rattle.fgo_state.proofs.Detections as detections
use Rattle.fgo_state.proofs.GatheredScans as scans
use Rattle.fgo_state.proofs.GatheredScans.{ids-gathered, gathered_few}
use Rattle.fgo_state.proofs.GatheringScan.{written-gathered}
use Rattle.buffers.proofs.Writes.{WrittenOver, written_none}

-- how the held scan n lies, by its columns, its number and its body
pub lies_at : (h : HeldScan) {s : Scans} {n : ScanIndex} {m : ℕ} → (h.scans.now ≡ s) × (h.n ≡ n) → n.0 ≡ m →
    (h.scans.now.columns ≡ s.columns) × (h.n.0 ≡ m) × (body_of h.frame.body ≡ body_at s.bodies s.columns m)
lies_at h {s} {n} {m} e q =
    let at : h.n.0 ≡ m = ap (λ i. i.0) e.1 ∙ q in
    (ap (λ x. x.columns) e.0, at, rw (← e.0, ← at) h.lies)

-- those of one scan, counted
pub found_one : (columns : List ℕ) (n : ℕ) (s : Body) → length (found_in columns n s) ≡ count_in columns n (associations_in s)
found_one columns n s =
    let is = rows (id_at columns n) 0 (associations_in s) in
    let a = associations_long s in
    let b = length-rows (id_at columns n) 0 (associations_in s) in
    sym (length-map (found_in columns n s) (λ g. g.id)) ∙ ap length (ids-gathered n (frame_in s) (frame_in s).associations is (omega arith))

module _ (bodies columns : List ℕ) (first : ℕ) where
  -- one scan more
  pub found_next : (k : ℕ) → found_of bodies columns first (k + 1) ≡ found_of bodies columns first k ++ found_in columns (first + k) (body_at bodies columns (first + k))
  unfolding scan_in
  found_next k = ap (found_of bodies columns first) (add-one k) ∙ scans.found_more (scan_in bodies columns) first k

  pub found_count : (k : ℕ) → length (found_of bodies columns first k) ≡ window_count (scans_in bodies columns first k)
  found_count zero = unfold rows in unfold gathered in unfold flat_map in unfold keep in refl
  found_count (suc k) =
      let s = body_at bodies columns (first + k) in
      let a = found_of bodies columns first k in
      let b = found_in columns (first + k) s in
      let e : length (found_of bodies columns first (suc k)) ≡ length (found_of bodies columns first (k + 1)) = ap (λ (i : ℕ). length (found_of bodies columns first i)) (sym (add-one k)) in
      let f : window_count (scans_in bodies columns first (suc k)) ≡ window_count (scans_in bodies columns first (k + 1)) = ap (λ (i : ℕ). window_count (scans_in bodies columns first i)) (sym (add-one k)) in
      omega (arith, found_count k, ap length (found_next k), length-append a b, found_one columns (first + k) s, detections.found_more bodies columns first k)

  -- the next scan has room
  pub found_room : {held : ℕ} (k : ℕ) → HeldScans bodies columns first held → k < held → length (found_of bodies columns first k) + length (found_in columns (first + k) (body_at bodies columns (first + k))) ≤ DETECTIONS
  found_room {held} k h l =
      omega (
        arith,
        h.room,
        gathered_few first (scans_in bodies columns first held),
        scans.found_within (scan_in bodies columns) first held k l,
        ap (λ (i : ℕ). length (found_of bodies columns first i)) (add-one k),
        ap length (found_next k),
        length-append (found_of bodies columns first k) (found_in columns (first + k) (body_at bodies columns (first + k))),
      )

-- ---- a loop that writes dots stands at scan k

pub record DotsHeld (c : FgoConfig) (bodies columns : List ℕ) (first k p : ℕ) (ds ds' : List Dot) : Type 0 where
  pub place : p ≡ length (found_of bodies columns first k)
  pub dots : WrittenOver 0 (dots_of c (found_of bodies columns first k)) ds ds'

module _ (c : FgoConfig) (bodies columns : List ℕ) (first : ℕ) (ds : List Dot) where
  pub dots_held_none : DotsHeld c bodies columns first 0 0 ds ds
  unfolding rows gathered
  dots_held_none = record { place = refl; dots = written_none 0 ds }

  module _ {held k p : ℕ} {ds' : List Dot} (h : HeldScans bodies columns first held) (g : DotsHeld c bodies columns first k p ds ds') (l : k < held) (ld : length ds' ≡ DETECTIONS) {s : Body} {cs : List ℕ} {n : ℕ} (a : (cs ≡ columns) × (n ≡ first + k) × (s ≡ body_at bodies columns (first + k))) where
    pub dots_held_fits : p + length (found_in cs n s) ≤ DETECTIONS
    dots_held_fits = rw (a.0, a.1, a.2) (omega (arith, found_room bodies columns first k h l, g.place))

    pub dots-held-more : {q : ℕ} {ds'' : List Dot} → q ≡ p + length (found_in cs n s) → ds'' ≡ over p (dots_of c (found_in cs n s)) ds' → DotsHeld c bodies columns first (k + 1) q ds ds''
    dots-held-more {q} {ds''} many over-them =
        let count : q ≡ p + length (found_in columns (first + k) s) = rw (a.0, a.1) at many in
        let written : ds'' ≡ over p (dots_of c (found_in columns (first + k) s)) ds' = rw (a.0, a.1) at over-them in
        let e = a.2 in
        let f = found_of bodies columns first k in
        let z = found_in columns (first + k) s in
        let m : f ++ z ≡ found_of bodies columns first (k + 1) = rw e (sym (found_next bodies columns first k)) in
        let r : length f + length z ≤ DETECTIONS = rw e (found_room bodies columns first k h l) in
        let b = g.dots.long in
        let o : p ≡ 0 + length f = omega (arith, g.place) in
        record {
          place = omega (arith, count, g.place, length-append f z, ap length m);
          dots = written-gathered (held_dot c) 0 ds f z g.dots m o (omega arith) written;
        }
