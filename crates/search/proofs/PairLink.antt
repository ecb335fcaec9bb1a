-- The best move of a pair by rows is fgo_spec's, and where it is a merge it keeps one of the pair. Takes as given that
-- rows have the windows' detections and share as many scans.
use Rattle.std.specs.Prelude.{Option, Some, None}
use Prim.Native.Nat.{ℕ, ◌+◌, ◌<◌}
use mathlib.Core.Path.{◌≡◌, refl, sym, ap, ◌∙◌}
use mathlib.Core.Logic.{◌⊎◌, inl, inr}
use mathlib.Core.Bool.{Bool, true, false, cond}
use mathlib.Core.List.{List, [], ◌∷◌, ◌++◌, map, map-map, foldl, foldl-append}
use lib.ListN.{length}
use lib.IntN.{pos}
use lib.Ieee.{Float, binary64, add, sub, mul, of_int}
use Rattle.engine.specs.declared.config.FgoConfig.{FgoConfig}
use Rattle.engine.specs.declared.types.RefinedId.{RefinedId}
use Rattle.engine.specs.Config.{clutter}
use Rattle.cost.specs.declared.Fold.{Fold}
use Rattle.cost.specs.Cost.{View}
use Rattle.fgo_spec.specs.declared.moves.PairMove.{PairMove}
use Rattle.fgo_spec.specs.declared.moves.PairMove.TheVariants.{Swap, Merge}
use Rattle.fgo_spec.specs.Windows.{Scan, Prefix, window}
use Rattle.fgo_spec.specs.Searching.{track_cost, merged, other_of, shared, try_swap, try_merge, pair_candidates, best_of_pair, better_pair, wins, pair_gain, best_gain}
use Rattle.fgo_spec.specs.Rule.{All}
use Rattle.fgo_spec.specs.Faithful.{Regular, Merged}
use Rattle.fgo_spec.proofs.Cutting.{swap_says}
use Rattle.fgo_spec.proofs.Merging.{merge_first_says, merge_second_says, shared-turned}
use Rattle.search_merge.specs.Merge.{shared_rows, try_merge_row, better_merge}
use Rattle.search_pair.specs.Pair.{cuts_of, try_swap_row, best_swap_row, best_pair_row}
use Rattle.search.specs.Pass.{Scene, id_of, view_on, fold_on, row_on, pair_best}
use Rattle.search.proofs.Standing.{Standing, PartsOk, Fits, WindowRow, SharedRows, PairBest, scans_now}
use Rattle.search_rows.proofs.RowSlots.{row-length}
use Rattle.search.proofs.RowCosts.{RowFor, cost_dets}
use Rattle.search.proofs.WindowDets.{Rowed, row-crossed, row-joined}

-- ---- a merge keeps one of the two

module _ (a b : ℕ) where
  fits-better : (m : Option PairMove) (n : PairMove) → Fits a b m → Fits a b (Some n) → Fits a b (better_pair m n)
  fits-better m n h g = go (wins (pair_gain n) (best_gain pair_gain m))
    where
      go : (t : Bool) → Fits a b (cond t (Some n) m)
      go true = g
      go false = h

  module _ (c : FgoConfig) (v : View) where
    fits-swaps : (p q : Fold) (close : List Bool) (r s : List ℕ) (base : Float) → Fits a b (best_swap_row c v p q close r s base)
    unfolding best_swap_row
    fits-swaps p q close r s base = go (cuts_of close) None tt
      where
        go : (l : List ℕ) (m : Option PairMove) → Fits a b m → Fits a b (foldl better_pair m (map (try_swap_row c v p q r s base) l))
        go [] m h = h
        go (g ∷ l) m h = go l (better_pair m (try_swap_row c v p q r s base g)) (fits-better m (try_swap_row c v p q r s base g) h (unfold try_swap_row in tt))

    fits-merge : (k : RefinedId) (p : Fold) (r s : List ℕ) (base : Float) → (k.0 ≡ a) ⊎ (k.0 ≡ b) → (m : Option PairMove) → Fits a b m → Fits a b (better_merge c v k p r s base m)
    unfolding better_merge try_merge_row
    fits-merge k p r s base f m h =
        fits-better (better_pair m (try_merge_row c v k true p r s (shared_rows r s) base)) (try_merge_row c v k false p r s (shared_rows r s) base)
        (fits-better m (try_merge_row c v k true p r s (shared_rows r s) base) h f) f

pub pair_fits : (e : Scene) (close : List Bool) (a b : ℕ) (ids : List ℕ) → Fits a b (pair_best e close a b ids)
unfolding best_pair_row
pair_fits e close a b ids =
    let c = e.hall.config in
    let v = view_on e in
    fits-merge a b c v (id_of b) _ _ _ _ (inr refl) _ (fits-merge a b c v (id_of a) _ _ _ _ (inl refl) _ (fits-swaps a b c v _ _ close _ _ _))

-- ---- the moves of a pair

module _ (c : FgoConfig) (v : View) (ps : List (ℕ × Prefix)) (ss : List Scan) (regular : All Regular ss) where
  module _
      (a b : ℕ) (ha : 0 < a) (hb : 0 < b) (apart : a ≡ b → ⊥) (pa pb : Fold) (ra rb : List ℕ) (alike : length ra ≡ length rb)
      (sa : RowFor c v ps ss a pa ra) (sb : RowFor c v ps ss b pb rb) (base : Float) where
    swap-row : (g : ℕ) → try_swap c v.first ps a b ss base (v.first + g) ≡ try_swap_row c v pa pb ra rb base g
    unfolding try_swap try_swap_row
    swap-row g =
        let s = swap_says c v.first ps a b (v.first + g) base ss apart in
        let wa = window a v.first ss in
        let wb = window b v.first ss in
        λ i. Swap (record { 0 = v.first + g })
        (sub binary64
        (add binary64
        (cost_dets c v.first ps a pa sa.part _ _ (ap (map _) s.first ∙ row-crossed c v g wa wb ra rb alike sa.row sb.row) i)
        (cost_dets c v.first ps b pb sb.part _ _ (ap (map _) s.second ∙ row-crossed c v g wb wa rb ra (sym alike) sb.row sa.row) i))
        base)

    -- a merge, by what it says of the keeper k, its part p and the other's row
    merge-row :
        (k o : ℕ) (p : Fold) (r s : List ℕ) → length r ≡ length s → RowFor c v ps ss k p r → Rowed c v (window o v.first ss) s → (own : Bool) (ts : List Scan) →
        Merged own k o v.first ss ts → (n m : ℕ) → n ≡ m →
        Merge (record { 0 = k }) own (sub binary64 (add binary64 (track_cost c v.first ps k ts) (mul binary64 (of_int binary64 (pos n)) (clutter c))) base) ≡ try_merge_row c v (record { 0 = k }) own p r s m base
    unfolding try_merge_row
    merge-row k o p r s e sk w own ts t n m q =
        λ i. Merge (record { 0 = k }) own
        (sub binary64
        (add binary64
        (cost_dets c v.first ps k p sk.part ts _ (ap (map _) t.keeper ∙ row-joined c v own 0 r s (window k v.first ss) (window o v.first ss) e sk.row w) i)
        (mul binary64 (of_int binary64 (pos (q i))) (clutter c)))
        base)

    module _ (lost : shared a b ss ≡ shared_rows ra rb) (turned : shared b a ss ≡ shared_rows rb ra) where
      merge-first : (own : Bool) → try_merge c v.first ps a b a own ss base ≡ try_merge_row c v (id_of a) own pa ra rb (shared_rows ra rb) base
      unfolding try_merge
      merge-first own =
          merge-row a b pa ra rb alike sa sb.row own (merged c v.first ps own a (other_of a b a) ss) (merge_first_says c v.first ps a b ha hb apart ss regular own base)
          (shared a b ss) (shared_rows ra rb) lost

      merge-second : (own : Bool) → try_merge c v.first ps a b b own ss base ≡ try_merge_row c v (id_of b) own pb rb ra (shared_rows rb ra) base
      unfolding try_merge
      merge-second own =
          merge-row b a pb rb ra (sym alike) sb sa.row own (merged c v.first ps own b (other_of a b b) ss) (merge_second_says c v.first ps a b ha hb apart ss regular own base)
          (shared a b ss) (shared_rows rb ra) (shared-turned a b ss ∙ turned)

      swaps-row : (close : List Bool) → foldl better_pair None (map (try_swap c v.first ps a b ss base) (map (λ (k : ℕ). v.first + k) (cuts_of close))) ≡ best_swap_row c v pa pb close ra rb base
      unfolding best_swap_row
      swaps-row close =
          ap (foldl better_pair None) (map-map (try_swap c v.first ps a b ss base) (λ (k : ℕ). v.first + k) (cuts_of close) ∙ (λ i. map (λ (g : ℕ). swap-row g i) (cuts_of close)))

      tries-row :
          (close : List Bool) →
          foldl better_pair None
          (map (try_swap c v.first ps a b ss base) (map (λ (k : ℕ). v.first + k) (cuts_of close))
          ++ (try_merge c v.first ps a b a true ss base
          ∷ try_merge c v.first ps a b a false ss base
          ∷ try_merge c v.first ps a b b true ss base
          ∷ try_merge c v.first ps a b b false ss base
          ∷ []))
          ≡ best_pair_row c v (id_of a) (id_of b) pa pb close ra rb base
      unfolding best_pair_row better_merge
      tries-row close =
          foldl-append better_pair None (map (try_swap c v.first ps a b ss base) (map (λ (k : ℕ). v.first + k) (cuts_of close))) _
          ∙ (λ i. better_pair (better_pair (better_pair (better_pair (swaps-row close i) (merge-first true i)) (merge-first false i)) (merge-second true i)) (merge-second false i))

pub pair_best_lem : (e : Scene) (next : ℕ) (ps : List (ℕ × Prefix)) (ss : List Scan) (ids : List ℕ) → Standing e next ss ids → PartsOk e ps → WindowRow e next ps ss ids → SharedRows e next ps ss ids → PairBest e next ps ss ids
unfolding best_of_pair pair_candidates
pair_best_lem e next ps ss ids stands parts rows shares a b ha hb apart close =
    let c = e.hall.config in
    let v = view_on e in
    let now = scans_now e ss ids in
    let base = add binary64 (track_cost c v.first ps a now) (track_cost c v.first ps b now) in
    tries-row c v ps now stands.regular a b ha hb apart (fold_on e a) (fold_on e b) (row_on e ids a) (row_on e ids b) (row-length e.starts ids a ∙ sym (row-length e.starts ids b))
    (record { part = parts a ha; row = rows a ha }) (record { part = parts b hb; row = rows b hb }) base (shares a b ha hb) (shares b a hb ha) close
    ∙ (λ i. best_pair_row c v (id_of a) (id_of b) (fold_on e a) (fold_on e b) close (row_on e ids a) (row_on e ids b)
    (add binary64 (cost_dets c v.first ps a (fold_on e a) (parts a ha) now _ (rows a ha) i) (cost_dets c v.first ps b (fold_on e b) (parts b hb) now _ (rows b hb) i)))
