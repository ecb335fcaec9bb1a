-- The best move of a pair or of a track, and the ids and the tally after it. Assumes nothing.
use Rattle.std.specs.Prelude.{Option, Some, None, is_none}
use Prim.Native.Nat.{ℕ, ◌+◌, ◌^◌, ◌≤◌, ◌<◌}
use native.Mathlib.Nat.{le_refl}
use native.Mathlib.Omega.{arith}
use mathlib.Core.Path.{◌≡◌, refl, sym, ap, ◌∙◌}
use mathlib.Core.Bool.{Bool, true, false, cond}
use mathlib.Core.List.{List}
use lib.ListN.{length}
use lib.Dec.{ltb}
use lib.Ieee.{Float, binary64, add}
use Rattle.bounds.specs.Bounds.{DETECTIONS}
use Rattle.cost.specs.declared.Fold.{Fold}
use Rattle.fgo_spec.specs.declared.moves.PairMove.{PairMove}
use Rattle.fgo_spec.specs.declared.moves.TrackMove.{TrackMove}
use Rattle.fgo_spec.specs.declared.moves.TrackMove.TheVariants.{Split, Drop}
use Rattle.search_rows.specs.declared.moves.Tally.{Tally}
use Rattle.search_rows.specs.Rows.{Starts}
use Rattle.search_pair.specs.Pair.{best_pair_row}
use Rattle.search_track.specs.Track.{best_track_row}
use Rattle.search_rows.specs.Moves.{pair_ids, track_ids, pair_tally, track_tally, next_id_after}
use Rattle.search.specs.Pass.{Scene, Progress, progress_of, id_of, view_on, fold_on, row_on, cost_on, pair_best, pair_moved, pair_step_on, track_best, track_moved, track_step_on}
use Rattle.search.proofs.OtherRows.{pair_other, track_other}
use Rattle.search_rows.proofs.Renamed.{renamed_length}

none_is : {M : Type 0} (o : Option M) → is_none o ≡ true → o ≡ None
none_is None h = refl
none_is (Some m) h = cc

-- ---- a pair

module _ (e : Scene) (close : List Bool) (a b : ℕ) (ids : List ℕ) where
  -- worked out from the parts, the rows and the costs
  pub pair_best_is :
      {pa pb : Fold} {ra rb : List ℕ} {base : Float} {m : Option PairMove} → pa ≡ fold_on e a → pb ≡ fold_on e b → ra ≡ row_on e ids a → rb ≡ row_on e ids b →
      base ≡ add binary64 (cost_on e ids a) (cost_on e ids b) → m ≡ best_pair_row e.hall.config (view_on e) (id_of a) (id_of b) pa pb close ra rb base → m ≡ pair_best e close a b ids
  pair_best_is pa pb ra rb q m = m ∙ (λ i. best_pair_row e.hall.config (view_on e) (id_of a) (id_of b) (pa i) (pb i) close (ra i) (rb i) (q i))

  module _ (t : Tally) {o : Option PairMove} (best : o ≡ pair_best e close a b ids) where
    pub pair_stays_is : o ≡ None → progress_of ids t ≡ pair_step_on e close a b (progress_of ids t)
    unfolding pair_step_on
    pair_stays_is h = sym (ap (λ (o : Option PairMove). pair_moved e o a b (progress_of ids t)) (sym best ∙ h))

    pub pair_rests_is : is_none o ≡ true → progress_of ids t ≡ pair_step_on e close a b (progress_of ids t)
    pair_rests_is h = pair_stays_is (none_is o h)

    pub pair_moves_is :
        {m : PairMove} {ra rb new : List ℕ} {r : Tally} → o ≡ Some m → ra ≡ row_on e ids a → rb ≡ row_on e ids b →
        new ≡ pair_ids e.hall.first.0 e.starts m a b ra rb ids → r ≡ pair_tally m t →
        progress_of new r ≡ pair_step_on e close a b (progress_of ids t)
    unfolding pair_step_on
    pair_moves_is {m} h ra rb n r =
        (λ i. record { ids = (n ∙ (λ j. pair_ids e.hall.first.0 e.starts m a b (ra j) (rb j) ids)) i; tally = r i })
        ∙ sym (ap (λ (o : Option PairMove). pair_moved e o a b (progress_of ids t)) (sym best ∙ h))

module _ (e : Scene) (begins : Starts e.starts) (a b : ℕ) (ids : List ℕ) (long : length ids ≡ DETECTIONS) (m : PairMove) (ra rb : List ℕ) {new : List ℕ} (made : new ≡ pair_ids e.hall.first.0 e.starts m a b ra rb ids) where
  pub pair_long : length new ≡ DETECTIONS
  unfolding pair_ids
  pair_long = ap length made ∙ renamed_length begins a b _ ids long

  -- the rows of the others are as before
  pub pair_leaves : (x : ℕ) → 0 < x → (x ≡ a → ⊥) → (x ≡ b → ⊥) → row_on e new x ≡ row_on e ids x
  pair_leaves x h na nb = ap (λ (l : List ℕ). row_on e l x) made ∙ pair_other e begins ids long x h a b na nb m ra rb

-- ---- a track

module _ (e : Scene) (a : ℕ) (ids : List ℕ) where
  pub track_best_is :
      {p : Fold} {row : List ℕ} {base : Float} {m : Option TrackMove} → p ≡ fold_on e a → row ≡ row_on e ids a → base ≡ cost_on e ids a →
      m ≡ best_track_row e.hall.config (view_on e) p row base → m ≡ track_best e a ids
  track_best_is p row q m = m ∙ (λ i. best_track_row e.hall.config (view_on e) (p i) (row i) (q i))

  module _ (t : Tally) {o : Option TrackMove} (best : o ≡ track_best e a ids) where
    pub track_stays_is : o ≡ None → progress_of ids t ≡ track_step_on e a (progress_of ids t)
    unfolding track_step_on
    track_stays_is h = sym (ap (λ (o : Option TrackMove). track_moved e o a (progress_of ids t)) (sym best ∙ h))

    pub track_rests_is : is_none o ≡ true → progress_of ids t ≡ track_step_on e a (progress_of ids t)
    track_rests_is h = track_stays_is (none_is o h)

    pub track_moves_is :
        {m : TrackMove} {new : List ℕ} {r : Tally} → o ≡ Some m → new ≡ track_ids e.hall.first.0 e.starts m a t.next_id.0 ids → r ≡ track_tally m t →
        progress_of new r ≡ track_step_on e a (progress_of ids t)
    unfolding track_step_on
    track_moves_is h n r =
        (λ i. progress_of (n i) (r i))
        ∙ sym (ap (λ (o : Option TrackMove). track_moved e o a (progress_of ids t)) (sym best ∙ h))

-- the next id does not fall
pub next_from : (m : TrackMove) (n : ℕ) → n ≤ next_id_after m n
next_from (Split f g) n = go (ltb n (2 ^ 63))
  where
    go : (b : Bool) → n ≤ cond b (n + 1) n
    go true = omega arith
    go false = omega arith
next_from (Drop f g) n = le_refl n

-- a step of a track leaves the rows of the others, and the next id does not fall
pub track_step_other :
    (e : Scene) → Starts e.starts → (a : ℕ) (s : Progress) → length s.ids ≡ DETECTIONS →
    ((x : ℕ) → 0 < x → (x ≡ a → ⊥) → x < s.tally.next_id.0 → row_on e (track_step_on e a s).ids x ≡ row_on e s.ids x) × (s.tally.next_id.0 ≤ (track_step_on e a s).tally.next_id.0)
unfolding track_step_on
track_step_other e begins a s long = go (track_best e a s.ids)
  where
    go : (o : Option TrackMove) →
        ((x : ℕ) → 0 < x → (x ≡ a → ⊥) → x < s.tally.next_id.0 → row_on e (track_moved e o a s).ids x ≡ row_on e s.ids x) × (s.tally.next_id.0 ≤ (track_moved e o a s).tally.next_id.0)
    go None = ((λ x p na l. refl), le_refl s.tally.next_id.0)
    go (Some m) = ((λ x p na l. track_other e begins s.ids long x p a s.tally.next_id.0 na (λ q. omega arith) m), next_from m s.tally.next_id.0)
