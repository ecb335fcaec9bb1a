-- What was gathered of the held scans is what the search asks, and ids put back are the search's scans. Assumes
-- nothing.
use Prim.Native.Nat.{ℕ, zero, suc, ◌+◌, ◌-◌, ◌%◌, ◌≤◌, ◌<◌}
use native.Mathlib.Nat.{zero-add, mod-eq_of_lt}
use native.Mathlib.Numerals.{add-one}
use native.Mathlib.Omega.{arith}
use mathlib.Core.Path.{◌≡◌, refl, sym, ap, ◌∙◌}
use mathlib.Core.Bool.{Bool, true, false, cond}
use mathlib.Core.List.{List, [], ◌∷◌, ◌++◌, map}
use lib.ListN.{length, take, drop, get_or, length-append, length-map, get_or-append}
use lib.Seq.{get_or-append-add, drop-drop, take-nil}
use lib.Dec.{eqb, ltb, leb}
use lib.Ieee.{Float}
use borrow.Author.Tests.{leb-true, leb-false}
use Rattle.std.proofs.lemmas.List.{get_or-map}
use Rattle.bounds.specs.Bounds.{SCANS, DETECTIONS}
use Rattle.engine.specs.declared.config.FgoConfig.{FgoConfig}
use Rattle.engine.specs.declared.types.Association.{Association}
use Rattle.engine.specs.Config.{legal}
use Rattle.engine.specs.Frame.{Frame, no_association}
use Rattle.engine.specs.Body.{rows}
use Rattle.engine.proofs.Passing.{length-rows}
use Rattle.engine.proofs.Settings.{legal_tells}
use Rattle.kf.specs.declared.filter.Dot.{Dot}
use Rattle.cost.specs.Cost.{measurement_at, no_dot}
use Rattle.fgo_spec.specs.declared.moves.FgoCounters.{FgoCounters}
use Rattle.fgo_spec.specs.Lists.{keep, times, find, found_if}
use Rattle.fgo_spec.specs.Windows as windows
use Rattle.fgo_spec.specs.Windows.{Scan, Detection, in_windows, measure, detection_of}
use Rattle.fgo_spec.specs.Faithful.{Regular}
use Rattle.fgo_spec.specs.Rule.{All, ColumnRule}
use Rattle.fgo_spec.proofs.All.{All_weaken}
use Rattle.fgo_spec.proofs.Windows.{columns_regular}
use Rattle.fgo_spec.specs.Gathered.{column_at, picked, spread, put_back}
use Rattle.search_rows.specs.Rows.{Starts}
use Rattle.cost_row.specs.Price.{frozen_at, fold_after, fold_among}
use Rattle.search.specs.Pass.{Scene, scene_of, view_on}
use Rattle.search.specs.Represents as search
use Rattle.search.specs.Represents.{RepresentsFrom, Spare}
use Rattle.fgo_spec.proofs.Spreads.{above}
use Rattle.buffers.specs.Buffers.{over}
use Rattle.fgo_part.specs.Parts.{part_id, prefix_in, entry_in, table_in}
use Rattle.fgo_state.specs.Memory.{body_at, scan_in, scans_in}
use Rattle.fgo_state.specs.Gathering.{HeldDetection, gathered_in, gathered, dot_of, held_dot, dots_of, found_in, found_of, HeldScans, GatheredAll, spread_all, Scattered}
use Rattle.buffers.proofs.Over.{length_over, over_in}
use Rattle.fgo_state.proofs.LatestGathered.{Each}
use Rattle.fgo_state.proofs.GatheredScans as scans
use Rattle.fgo_state.proofs.GatheredScans.{each_rows}
use Rattle.fgo_state.proofs.HeldGathered.{ids_each, found_few_enough}
use Rattle.fgo_state.proofs.GatheringHeld.{found_one, found_next}

-- ---- frozen parts

-- the frozen part of x among the first m is the one in the table
module _ (tracks : List ℕ) (filters : List Float) (x : ℕ) where
  part-from : (n m : ℕ) → fold_after tracks filters x n m ≡ windows.fold_from (find x (rows (entry_in tracks filters) n m))
  unfolding fold_after find rows prefix_in
  part-from n zero = refl
  part-from n (suc m) = go (eqb x (part_id tracks n)) (part-from (suc n) m)
    where
      go : (b : Bool) → fold_after tracks filters x (suc n) m ≡ windows.fold_from (find x (rows (entry_in tracks filters) (suc n) m)) → cond b (frozen_at tracks filters n) (fold_after tracks filters x (suc n) m) ≡ windows.fold_from (found_if b (prefix_in tracks filters n) (find x (rows (entry_in tracks filters) (suc n) m)))
      go true e = refl
      go false e = e

  part-among : (m : ℕ) → fold_among tracks filters m x ≡ windows.fold_from (find x (table_in tracks filters m))
  part-among m = part-from 0 m

-- ---- one of those gathered, and its dot

-- dot i of a scan
det_at : (c : FgoConfig) (first k i : ℕ) (ds : List Dot) (o : Detection) → i < DETECTIONS → get_or ds i no_dot ≡ dot_of c o → first + k ≡ o.scan → measurement_at (record { first = first; dots = ds }) k i ≡ measure c o
det_at c first k i ds o l e s =
    let m : i % DETECTIONS ≡ i = mod-eq_of_lt l in
    rw (m, e, s) refl

-- the j-th of a scan is the j-th association that lies in a window
module _ (n : ℕ) (f : Frame) (z : HeldDetection) where
  picked-at : (l : List Association) (is : List ℕ) (j : ℕ) → j < length (picked is l) → (get_or (gathered_in n f l is) j z).dot ≡ detection_of n f (get_or (picked is l) j no_association)
  unfolding gathered_in picked
  picked-at [] is j h = absurd (omega arith)
  picked-at (a ∷ l) [] j h = absurd (omega arith)
  picked-at (a ∷ l) (zero ∷ is) j h = picked-at l is j h
  picked-at (a ∷ l) (suc i ∷ is) zero h = refl
  picked-at (a ∷ l) (suc i ∷ is) (suc j) h = picked-at l is j (omega arith)

  picked-long : (l : List Association) (is : List ℕ) → length (gathered_in n f l is) ≡ length (picked is l)
  unfolding gathered_in picked
  picked-long [] is = refl
  picked-long (a ∷ l) [] = refl
  picked-long (a ∷ l) (zero ∷ is) = picked-long l is
  picked-long (a ∷ l) (suc i ∷ is) = ap suc (picked-long l is)

-- ---- what was gathered of the held scans

-- the dots of the k-th scan
abbrev DotsOf : Scene → ℕ → Scan → Type 0
DotsOf e k s = (j : ℕ) → j < length (picked s.ids s.frame.associations) → measurement_at (view_on e) k (get_or e.starts k 0 + j) ≡ measure e.hall.config (detection_of (e.hall.first.0 + k) s.frame (get_or (picked s.ids s.frame.associations) j no_association))

scans_from : (e : Scene) (ids : List ℕ) (k : ℕ) (ss : List Scan) → Each (λ j s. column_at e.starts ids j ≡ keep (ltb 0) s.ids) k ss → Each (DotsOf e) k ss → All Regular ss → RepresentsFrom e ids k ss
scans_from e ids k [] a b r = tt
scans_from e ids k (s ∷ ss) a b r = (record { column = a.0; dots = b.0; regular = r.0 }, scans_from e ids (suc k) ss a.1 b.1 r.1)

module _ (bodies columns : List ℕ) (first held n : ℕ) (is es is' es' ts' : List ℕ) (h : HeldScans bodies columns first held) (g : GatheredAll bodies columns first held n is es is' es' ts') where
  -- the detections of each scan lie after those of the scans before it
  starts-next : (k : ℕ) → k < held → get_or ts' (suc k) 0 ≡ get_or ts' k 0 + length (found_in columns (first + k) (body_at bodies columns (first + k)))
  starts-next k l =
      let a = found_of bodies columns first k in
      let b = found_in columns (first + k) (body_at bodies columns (first + k)) in
      g.starts (suc k) (omega arith)
      ∙ ap (λ (i : ℕ). length (found_of bodies columns first i)) (sym (add-one k))
      ∙ ap length (found_next bodies columns first k)
      ∙ length-append a b
      ∙ ap (λ (i : ℕ). i + length b) (sym (g.starts k (omega arith)))

  starts_rise : (k : ℕ) → k < SCANS → get_or ts' k 0 ≤ get_or ts' (suc k) 0
  starts_rise k l = go (leb (suc k) held) refl
    where
      go : (b : Bool) → leb (suc k) held ≡ b → get_or ts' k 0 ≤ get_or ts' (suc k) 0
      go true e = omega (arith, starts-next k (leb-true (suc k) held e))
      go false e =
          let q : held < suc k = leb-false (suc k) held e in
          omega (arith, g.beyond k (omega arith) (omega arith), g.beyond (suc k) (omega arith) (omega arith))

  few : n ≤ DETECTIONS
  few = omega (arith, g.scans.count, found_few_enough bodies columns first held n is es is' es' ts' h g)

  pub starts_gathered : Starts ts'
  starts_gathered = record { long = g.long; rises = starts_rise; ends = omega (arith, g.beyond SCANS h.few (omega arith), few) }

  pub ids_long : length is ≡ DETECTIONS → length is' ≡ DETECTIONS
  ids_long l =
      let k = map (λ x. x.id) (found_of bodies columns first held) in
      let e : length (over 0 k is) ≡ length is = length_over 0 k is (omega (arith, length-map (found_of bodies columns first held) (λ x. x.id), found_few_enough bodies columns first held n is es is' es' ts' h g)) in
      ap length g.scans.ids ∙ e ∙ l

  module _ (c : FgoConfig) (ds ds' : List Dot) (wide : length ds ≡ DETECTIONS) (d : ds' ≡ over 0 (dots_of c (found_of bodies columns first held)) ds) where
    -- the dot of the i-th of those gathered
    gathered_dot : (z : HeldDetection) (i : ℕ) → i < length (found_of bodies columns first held) → get_or ds' i no_dot ≡ held_dot c (get_or (found_of bodies columns first held) i z)
    gathered_dot z i l =
        let gs = found_of bodies columns first held in
        let s = length-map gs (held_dot c) in
        ap (λ (t : List Dot). get_or t i no_dot) d
        ∙ ap (λ (m : ℕ). get_or (over 0 (dots_of c gs) ds) m no_dot) (sym (zero-add i))
        ∙ over_in 0 (dots_of c gs) ds (omega (arith, s, found_few_enough bodies columns first held n is es is' es' ts' h g)) i no_dot (omega (arith, s))
        ∙ get_or-map (held_dot c) gs i z no_dot l

    -- the detections of the k-th scan
    dots-scan :
        (k : ℕ) → k < held → (j : ℕ) →
        j < length (picked (scan_in bodies columns (first + k)).ids (scan_in bodies columns (first + k)).frame.associations) →
        measurement_at (record { first = first; dots = ds' }) k (get_or ts' k 0 + j)
        ≡ measure c (detection_of (first + k) (scan_in bodies columns (first + k)).frame (get_or (picked (scan_in bodies columns (first + k)).ids (scan_in bodies columns (first + k)).frame.associations) j no_association))
    unfolding detection_of
    dots-scan k l j q =
        let s = scan_in bodies columns (first + k) in
        let f = s.frame in
        let z : HeldDetection = record { engine = 0; id = 0; dot = detection_of 0 f no_association } in
        let gs = found_of bodies columns first held in
        let a = found_of bodies columns first k in
        let b = gathered_in (first + k) f f.associations s.ids in
        let r = scans.rest (scan_in bodies columns) first held k in
        let e : gs ≡ a ++ (b ++ r) = scans.found_split (scan_in bodies columns) first held k l in
        let i : ℕ = get_or ts' k 0 + j in
        let at : i ≡ length a + j = ap (λ (m : ℕ). m + j) (g.starts k (omega arith)) in
        let size : j < length b = rw (picked-long (first + k) f z f.associations s.ids) q in
        let within : i < length gs = omega (arith, ap length e, length-append a (b ++ r), length-append b r) in
        let here : (get_or gs i z).dot ≡ detection_of (first + k) f (get_or (picked s.ids f.associations) j no_association) =
        ap (λ (t : List HeldDetection). (get_or t i z).dot) e
        ∙ ap (λ (m : ℕ). (get_or (a ++ (b ++ r)) m z).dot) at
        ∙ ap (λ (x : HeldDetection). x.dot) (get_or-append-add a (b ++ r) j z ∙ get_or-append b r z j size)
        ∙ picked-at (first + k) f z f.associations s.ids j q in
        det_at c first k i ds' (detection_of (first + k) f (get_or (picked s.ids f.associations) j no_association)) (omega (arith, found_few_enough bodies columns first held n is es is' es' ts' h g))
        (gathered_dot z i within ∙ ap (dot_of c) here)
        refl

    -- the search's record of it
    pub search_gathered :
        (next : ℕ) (k : FgoCounters) (tracks : List ℕ) (filters : List Float) (frozen : ℕ) → legal c ≡ true → length is ≡ DETECTIONS → 0 < next →
        All (ColumnRule next) (scans_in bodies columns first held) → Spare next k →
        search.Represents (scene_of (record { config = c; first = record { 0 = first }; detections = n; frozen = frozen }) ts' ds' tracks filters) next k is' (table_in tracks filters frozen) (scans_in bodies columns first held)
    search_gathered next k tracks filters frozen settings long begun rules spare =
        let ss = scans_in bodies columns first held in
        let e : Scene = scene_of (record { config = c; first = record { 0 = first }; detections = n; frozen = frozen }) ts' ds' tracks filters in
        let size : length ss ≡ held = length-rows (scan_in bodies columns) first held in
        let dots : Each (DotsOf e) 0 ss = each_rows (DotsOf e) (scan_in bodies columns) 0 first held (λ i l. rw zero-add (dots-scan i l)) in
        record {
          few = omega (arith, h.few);
          long = ids_long long;
          begins = g.starts 0 (omega arith) ∙ (unfold rows in unfold gathered in refl);
          empty = λ j a b. g.beyond (suc j) (omega arith) (omega arith) ∙ sym (g.beyond j (omega arith) (omega arith));
          ends = sym (g.beyond SCANS h.few (omega arith));
          scans = scans_from e is' 0 ss (ids_each bodies columns first held n is es is' es' ts' h g) dots (columns_regular next ss rules);
          known = All_weaken (ColumnRule next) (λ s. (x : ℕ) → 0 < x → 0 < times x s.ids → x < next) ss (λ s r. r.known) rules;
          parts = λ x a. part-among tracks filters x frozen;
          begun = begun;
          passes = (legal_tells c settings).passes;
          spare = spare;
        }

-- ---- ids put back

-- only as many as lie in windows are taken
spread-take : (is gs : List ℕ) → spread is (take (in_windows is) gs) ≡ spread is gs
unfolding spread keep
spread-take [] gs = refl
spread-take (zero ∷ is) gs = ap (λ (l : List ℕ). 0 ∷ l) (spread-take is gs)
spread-take (suc i ∷ is) [] = ap (spread (suc i ∷ is)) (take-nil (in_windows (suc i ∷ is)))
spread-take (suc i ∷ is) (x ∷ gs) = rw (above i) (ap (λ (l : List ℕ). x ∷ l) (spread-take is gs))

-- scan by scan, from the start of the k-th on
put-back : (starts ids : List ℕ) (k : ℕ) (ss : List Scan) → Each (λ j s. get_or starts (suc j) 0 ≡ get_or starts j 0 + in_windows s.ids) k ss → spread_all ss (drop (get_or starts k 0) ids) ≡ put_back starts ids k ss
unfolding spread_all put_back
put-back starts ids k [] h = refl
put-back starts ids k (s ∷ ss) h =
    let a : ℕ = get_or starts k 0 in
    let w : ℕ = in_windows s.ids in
    let e : get_or starts (suc k) 0 - a ≡ w = omega (arith, h.0) in
    let f : spread s.ids (drop a ids) ≡ spread s.ids (column_at starts ids k) = sym (ap (λ (m : ℕ). spread s.ids (take m (drop a ids))) e ∙ spread-take s.ids (drop a ids)) in
    let r : drop w (drop a ids) ≡ drop (get_or starts (suc k) 0) ids = drop-drop w a ids ∙ ap (λ (m : ℕ). drop m ids) (sym h.0) in
    let t : spread_all ss (drop w (drop a ids)) ≡ put_back starts ids (suc k) ss = ap (spread_all ss) r ∙ put-back starts ids (suc k) ss h.1 in
    λ i. record { frame = s.frame; ids = f i } ∷ t i

module _ (bodies columns : List ℕ) (first held n : ℕ) (is es is' es' ts' : List ℕ) (h : HeldScans bodies columns first held) (g : GatheredAll bodies columns first held n is es is' es' ts') where
  counts_each : Each (λ j s. get_or ts' (suc j) 0 ≡ get_or ts' j 0 + in_windows s.ids) 0 (scans_in bodies columns first held)
  unfolding scan_in
  counts_each =
      each_rows (λ j s. get_or ts' (suc j) 0 ≡ get_or ts' j 0 + in_windows s.ids) (scan_in bodies columns) 0 first held
      (λ k l. rw zero-add (starts-next bodies columns first held n is es is' es' ts' h g k l ∙ ap (λ (i : ℕ). get_or ts' k 0 + i) (found_one columns (first + k) (body_at bodies columns (first + k)))))

  -- the scans as the search leaves them
  pub scans_put_back : {ids columns' : List ℕ} → Scattered bodies first held ids columns columns' → scans_in bodies columns' first held ≡ put_back ts' ids 0 (scans_in bodies columns first held)
  scans_put_back {ids} {columns'} w =
      let ss = scans_in bodies columns first held in
      let z : get_or ts' 0 0 ≡ 0 = g.starts 0 (omega arith) ∙ (unfold rows in unfold gathered in refl) in
      w.scans ∙ ap (λ (m : ℕ). spread_all ss (drop m ids)) (sym z) ∙ put-back ts' ids 0 ss counts_each
