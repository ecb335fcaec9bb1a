-- The best move of a track by its row is fgo_spec's. Takes as given that rows have the windows' detections.
use Rattle.std.specs.Prelude.{Option as Std, None}
use Prim.Native.Nat.{ℕ, zero, suc, ◌+◌, ◌<◌}
use native.Mathlib.Nat.{zero-add}
use native.Mathlib.Omega.{arith}
use mathlib.Core.Path.{◌≡◌, refl, sym, ap, ◌∙◌}
use mathlib.Core.Bool.{Bool, true, false, cond}
use mathlib.Core.List.{List, [], ◌∷◌, ◌++◌, map, map-map, map-append, append-nil, foldl, foldl-append}
use mathlib.Core.Option.{Option, none, some}
use lib.ListN.{length, get_or, take, drop, length-map}
use lib.Dec.{T, ltb, ltb→lt}
use lib.Ieee.{Float, binary64, add, sub}
use Rattle.bounds.specs.Bounds.{SCANS}
use Rattle.engine.specs.declared.config.FgoConfig.{FgoConfig}
use Rattle.engine.specs.Config.{clutter}
use Rattle.cost.specs.declared.Fold.{Fold}
use Rattle.cost.specs.declared.Fold.TheVariants.{Fresh}
use Rattle.cost.specs.Cost.{Measurement, View, measurement_at, measurements, cost}
use Rattle.fgo_spec.specs.declared.moves.TrackMove.{TrackMove}
use Rattle.fgo_spec.specs.declared.moves.TrackMove.TheVariants.{Split, Drop}
use Rattle.fgo_spec.specs.Lists.{keep, up_from, find, is_some}
use Rattle.fgo_spec.specs.Windows.{Scan, Detection, Prefix, measure, fold_from, price, window}
use Rattle.fgo_spec.specs.Searching.{track_cost, swapped, dropped, rest, droppable, try_split, try_drop, track_candidates, best_of_track, better_track}
use Rattle.fgo_spec.specs.Rule.{All}
use Rattle.fgo_spec.specs.Faithful.{before, from, Regular}
use Rattle.fgo_spec.proofs.All.{All-keep, mem_All}
use Rattle.fgo_spec.proofs.Windows.{next_empty}
use Rattle.fgo_spec.proofs.Cutting.{swap_says, drop_says}
use Rattle.search_rows.specs.Moves.{has_slot}
use Rattle.search_track.specs.Track.{marks, frozen_one, try_split_row, try_drop_row, best_split_row, best_drop_row, best_track_row}
use Rattle.search.specs.Pass.{Scene, view_on, fold_on, row_on}
use Rattle.search.proofs.Standing.{Standing, PartsOk, WindowRow, TrackBest, scans_now}
use Rattle.search.proofs.RowDets.{dets_scans, dets_at}
use Rattle.search_rows.proofs.RowSlots.{row-length}
use Rattle.search.proofs.RowCosts.{RowFor, cost_dets}
use Rattle.search.proofs.WindowDets.{row_before, row_from, unmap}

-- ---- lists

map_same : {A B : Type 0} (f g : A → B) (l : List A) → All (λ a. f a ≡ g a) l → map f l ≡ map g l
map_same f g [] h = refl
map_same f g (a ∷ l) h = λ i. h.0 i ∷ map_same f g l h.1 i

map-drop : {A B : Type 0} (f : A → B) (l : List A) → map f (drop 1 l) ≡ drop 1 (map f l)
map-drop f [] = refl
map-drop f (a ∷ l) = refl

rest-drop : (w : List Detection) → rest w ≡ drop 1 w
unfolding rest
rest-drop [] = refl
rest-drop (d ∷ w) = refl

-- ---- the moves of a track

module _ (c : FgoConfig) (v : View) (ps : List (ℕ × Prefix)) (ss : List Scan) (a x : ℕ) (p : Fold) (r : List ℕ) (sa : RowFor c v ps ss a p r) (base : Float) where
  -- both moves by the scan alone
  split_move : ℕ → TrackMove
  split_move f =
      let t = swapped c v.first ps a x f ss in
      Split (record { 0 = f }) (sub binary64 (add binary64 (track_cost c v.first ps a t) (price c none (window x v.first t))) base)

  drop_move : ℕ → TrackMove
  drop_move f = Drop (record { 0 = f }) (sub binary64 (add binary64 (track_cost c v.first ps a (dropped c v.first ps a f ss)) (clutter c)) base)

  module _ (apart : a ≡ x → ⊥) (unused : window x v.first ss ≡ []) where
    split-row : (k : ℕ) → split_move (v.first + k) ≡ try_split_row c v p r base k
    unfolding split_move try_split_row price keep
    split-row k =
        let f = v.first + k in
        let s = swap_says c v.first ps a x f base ss apart in
        let head : map (measure c) (window a v.first (swapped c v.first ps a x f ss)) ≡ measurements v 0 (take k r) =
        ap (map (measure c)) (s.first ∙ ap (λ (u : List Detection). before f (window a v.first ss) ++ from f u) unused ∙ append-nil (before f (window a v.first ss)))
        ∙ row_before c v k (window a v.first ss) r sa.row in
        let tail : map (measure c) (window x v.first (swapped c v.first ps a x f ss)) ≡ measurements v k (drop k r) =
        ap (map (measure c)) (s.second ∙ ap (λ (u : List Detection). before f u ++ from f (window a v.first ss)) unused)
        ∙ row_from c v k (window a v.first ss) r sa.row in
        λ i. Split (record { 0 = f }) (sub binary64 (add binary64 (cost_dets c v.first ps a p sa.part _ _ head i) (cost c Fresh (tail i))) base)

  module _ (ha : 0 < a) (regular : All Regular ss) where
    drop-slot : (k j : ℕ) → get_or r k 0 ≡ suc j → drop_move (v.first + k) ≡ try_drop_row c v p r base k
    unfolding drop_move try_drop_row
    drop-slot k j e =
        let t = unmap (measure c) (window a v.first ss) (measurements v 0 (take k r)) (measurement_at v k j) (measurements v (suc k) (drop (suc k) r)) (sa.row ∙ dets_at v k j r e) in
        let q : t.at.scan ≡ v.first + k = ap (λ (d : Measurement). d.scan) t.ats in
        let l = (drop_says c v.first ps a x base ss ha regular t.head t.at t.tail t.is).left in
        let u : map (measure c) (window a v.first (dropped c v.first ps a (v.first + k) ss)) ≡ measurements v 0 (take k r) ++ measurements v (suc k) (drop (suc k) r) =
        ap (λ (f : ℕ). map (measure c) (window a v.first (dropped c v.first ps a f ss))) (sym q)
        ∙ ap (map (measure c)) l
        ∙ map-append (measure c) t.head t.tail
        ∙ (λ i. t.heads i ++ t.tails i) in
        λ i. Drop (record { 0 = v.first + k }) (sub binary64 (add binary64 (cost_dets c v.first ps a p sa.part _ _ u i) (clutter c)) base)

    drop-row : (k : ℕ) → T (has_slot r k) → drop_move (v.first + k) ≡ try_drop_row c v p r base k
    drop-row k h = go (get_or r k 0) refl
      where
        go : (s : ℕ) → get_or r k 0 ≡ s → drop_move (v.first + k) ≡ try_drop_row c v p r base k
        go zero e = absurd (let l : 0 < get_or r k 0 = ltb→lt 0 (get_or r k 0) h in omega arith)
        go (suc j) e = drop-slot k j e

  -- ---- all of them

  module _ (long : length r ≡ SCANS) where
    -- the window's scans are the row's
    scans-row : map (λ (d : Detection). d.scan) (window a v.first ss) ≡ map (λ (k : ℕ). v.first + k) (marks r)
    unfolding marks
    scans-row =
        sym (map-map (λ (d : Measurement). d.scan) (measure c) (window a v.first ss))
        ∙ ap (map (λ (d : Measurement). d.scan)) sa.row
        ∙ dets_scans v 0 r (has_slot r) (λ i. ap (has_slot r) (zero-add i))
        ∙ ap (λ (n : ℕ). map (λ (k : ℕ). v.first + k) (keep (has_slot r) (up_from 0 n))) long

    length-row : length (window a v.first ss) ≡ length (marks r)
    length-row =
        sym (length-map (window a v.first ss) (λ (d : Detection). d.scan)) ∙ ap length scans-row ∙ length-map (marks r) (λ (k : ℕ). v.first + k)

    splits : (apart : a ≡ x → ⊥) (unused : window x v.first ss ≡ []) → map (try_split c v.first ps a x ss base) (rest (window a v.first ss)) ≡ map (try_split_row c v p r base) (drop 1 (marks r))
    unfolding try_split split_move
    splits apart unused =
        ap (map (try_split c v.first ps a x ss base)) (rest-drop (window a v.first ss))
        ∙ sym (map-map split_move (λ (d : Detection). d.scan) (drop 1 (window a v.first ss)))
        ∙ ap (map split_move) (map-drop (λ (d : Detection). d.scan) (window a v.first ss) ∙ ap (drop 1) scans-row ∙ sym (map-drop (λ (k : ℕ). v.first + k) (marks r)))
        ∙ map-map split_move (λ (k : ℕ). v.first + k) (drop 1 (marks r))
        ∙ (λ i. map (λ (k : ℕ). split-row apart unused k i) (drop 1 (marks r)))

    drops : (ha : 0 < a) (regular : All Regular ss) → map (try_drop c v.first ps a ss base) (window a v.first ss) ≡ map (try_drop_row c v p r base) (marks r)
    unfolding try_drop drop_move marks
    drops ha regular =
        sym (map-map drop_move (λ (d : Detection). d.scan) (window a v.first ss))
        ∙ ap (map drop_move) scans-row
        ∙ map-map drop_move (λ (k : ℕ). v.first + k) (marks r)
        ∙ map_same (λ (k : ℕ). drop_move (v.first + k)) (try_drop_row c v p r base) (marks r)
        (All-keep (λ (k : ℕ). drop_move (v.first + k) ≡ try_drop_row c v p r base k) (has_slot r) (up_from 0 SCANS)
        (mem_All (λ (k : ℕ). T (has_slot r k) → drop_move (v.first + k) ≡ try_drop_row c v p r base k) (up_from 0 SCANS) (λ k m. drop-row ha regular k)))

    frozen-one : cond (is_some (find a ps)) 1 0 ≡ frozen_one p
    frozen-one = go (find a ps) ∙ ap frozen_one (sym sa.part)
      where
        go : (f : Option Prefix) → ◌≡◌ {A = ℕ} (cond (is_some f) 1 0) (frozen_one (fold_from f))
        go none = refl
        go (some q) = refl

    tries-row :
        0 < a → All Regular ss → (a ≡ x → ⊥) → window x v.first ss ≡ [] →
        foldl better_track None
        (map (try_split c v.first ps a x ss base) (rest (window a v.first ss))
        ++ map (try_drop c v.first ps a ss base) (droppable (is_some (find a ps)) (window a v.first ss)))
        ≡ best_track_row c v p r base
    unfolding best_track_row best_split_row best_drop_row
    tries-row ha regular apart unused =
        foldl-append better_track None (map (try_split c v.first ps a x ss base) (rest (window a v.first ss))) _
        ∙ (λ i. foldl better_track (foldl better_track None (splits apart unused i)) (map (try_drop c v.first ps a ss base) (cond (ltb 1 (length-row i + frozen-one i)) (window a v.first ss) [])))
        ∙ go (ltb 1 (length (marks r) + frozen_one p)) (foldl better_track None (map (try_split_row c v p r base) (drop 1 (marks r))))
      where
        go : (b : Bool) (best : Std TrackMove) → foldl better_track best (map (try_drop c v.first ps a ss base) (cond b (window a v.first ss) [])) ≡ cond b (foldl better_track best (map (try_drop_row c v p r base) (marks r))) best
        go true best = ap (foldl better_track best) (drops ha regular)
        go false best = refl

pub track_best_lem : (e : Scene) (next : ℕ) (ps : List (ℕ × Prefix)) (ss : List Scan) (ids : List ℕ) → Standing e next ss ids → PartsOk e ps → WindowRow e next ps ss ids → TrackBest e next ps ss ids
unfolding best_of_track track_candidates
track_best_lem e next ps ss ids stands parts rows a ha below =
    let c = e.hall.config in
    let v = view_on e in
    let now = scans_now e ss ids in
    tries-row c v ps now a next (fold_on e a) (row_on e ids a) (record { part = parts a ha; row = rows a ha }) (track_cost c v.first ps a now) (row-length e.starts ids a) ha stands.regular
    (λ q. omega arith) (next_empty next v.first now stands.begun stands.known)
    ∙ (λ i. best_track_row c v (fold_on e a) (row_on e ids a) (cost_dets c v.first ps a (fold_on e a) (parts a ha) now _ (rows a ha) i))
