-- What need not be looked at again: pairs and tracks at rest, and the marks of those that moved. Assumes nothing.
use Rattle.search_rows.specs.declared.rows.Row.{Row}
use Rattle.search.specs.declared.marks.Mark.{Mark}
use Rattle.search.specs.declared.marks.Mark.TheVariants.{Resting, ByPair}
use Rattle.std.specs.Prelude.{◌≢◌}
use Prim.Native.Nat.{ℕ, ◌<◌}
use native.Mathlib.Decide.{ℕ_discrete}
use native.Mathlib.Omega.{arith}
use mathlib.Core.Path.{◌≡◌, refl, sym, ap, ◌∙◌}
use mathlib.Core.Bool.{Bool, true, false, cond}
use mathlib.Core.List.{List}
use lib.ListN.{length, get_or, set, length-set}
use lib.Seq.{get_or-set_same, get_or-set_other}
use lib.Ieee.{Float}
use Rattle.bounds.specs.Bounds.{DETECTIONS}
use Rattle.search_rows.specs.declared.moves.Tally.{Tally}
use Rattle.search_neighbours.specs.Near.{any_close}
use Rattle.std.specs.Prelude.{is_none}
use Rattle.search.specs.Pass.{Scene, progress_of, row_on, cost_on, close_on, pair_best, pair_step_on, pair_if, track_best, track_step_on, pair_rest, track_rest, IdTable, Rests, Grows, Swept}
use Rattle.search.proofs.Listing.{listed_apart}
use Rattle.search.proofs.Costing.{costed_anew}
use Rattle.search.proofs.Stepping.{pair_rests_is, track_rests_is}

-- ---- a pair and a track

module _ (e : Scene) (a b : ℕ) (ids : List ℕ) where
  close : List Bool
  close = close_on e (row_on e ids a) (row_on e ids b)

  -- a pair at rest keeps all as it is
  rest-keeps : (t : Tally) → pair_rest e a b (row_on e ids a) (row_on e ids b) ≡ true → pair_if e close a b (progress_of ids t) ≡ progress_of ids t
  unfolding pair_rest close
  rest-keeps t = go (any_close (close_on e (row_on e ids a) (row_on e ids b)))
    where
      go : (u : Bool) → cond u (is_none (pair_best e (close_on e (row_on e ids a) (row_on e ids b)) a b ids)) true ≡ true →
          cond u (pair_step_on e (close_on e (row_on e ids a) (row_on e ids b)) a b (progress_of ids t)) (progress_of ids t) ≡ progress_of ids t
      go true h = sym (pair_rests_is e (close_on e (row_on e ids a) (row_on e ids b)) a b ids t refl h)
      go false h = refl

  -- the rows are those of a table
  module _ {ra rb : List ℕ} (qa : row_on e ids a ≡ ra) (qb : row_on e ids b ≡ rb) where
    pub rest-passes : (t : Tally) → pair_rest e a b ra rb ≡ true → pair_if e (close_on e ra rb) a b (progress_of ids t) ≡ progress_of ids t
    unfolding close
    rest-passes t h =
        ap (λ (c : List Bool). pair_if e c a b (progress_of ids t)) (sym (λ m. close_on e (qa m) (qb m)))
        ∙ rest-keeps t ((λ m. pair_rest e a b (qa m) (qb m)) ∙ h)

    pub stay_rests : {c : List Bool} → c ≡ close_on e ra rb → is_none (pair_best e c a b ids) ≡ true → pair_rest e a b ra rb ≡ true
    unfolding pair_rest
    stay_rests {c} q h =
        sym (λ m. pair_rest e a b (qa m) (qb m)) ∙ go (any_close (close_on e (row_on e ids a) (row_on e ids b)))
        (ap (λ (c : List Bool). is_none (pair_best e c a b ids)) (sym (q ∙ sym (λ m. close_on e (qa m) (qb m)))) ∙ h)
      where
        go : (u : Bool) → is_none (pair_best e (close_on e (row_on e ids a) (row_on e ids b)) a b ids) ≡ true →
            cond u (is_none (pair_best e (close_on e (row_on e ids a) (row_on e ids b)) a b ids)) true ≡ true
        go true k = k
        go false k = refl

pub apart_rests : (e : Scene) (a b : ℕ) (ra rb : List ℕ) → any_close (close_on e ra rb) ≡ false → pair_rest e a b ra rb ≡ true
unfolding pair_rest
apart_rests e a b ra rb h = rw h

module _ (e : Scene) (a : ℕ) (ids : List ℕ) where
  pub track_passes : (t : Tally) → track_rest e a (row_on e ids a) ≡ true → progress_of ids t ≡ track_step_on e a (progress_of ids t)
  unfolding track_rest
  track_passes t h = track_rests_is e a ids t refl h

  pub stay_track : is_none (track_best e a ids) ≡ true → track_rest e a (row_on e ids a) ≡ true
  unfolding track_rest
  stay_track h = h

-- ---- marks

pub grows_on : {n : ℕ} {a b c : List Mark} → Grows n a b → Grows n b c → Grows n a c
grows_on g h = record { back = λ k l z. g.back k l (h.back k l z) }

pub rests_grow :
    {e : Scene} {n : ℕ} {table : List ℕ} {rows : List Row} {marks marks' : List Mark} → Grows n marks marks' → {i j : ℕ} → i < n → j < n → Rests e table rows marks i j → Rests e table rows marks' i j
rests_grow g {i} {j} h k r = record { pair = λ p q. r.pair (g.back i h p) (g.back j k q) }

module _ (moved : List Mark) (long : length moved ≡ DETECTIONS) (i j : ℕ) (v : Mark) (h : i < DETECTIONS) (g : j < DETECTIONS) (some : v ≢ Resting) where
  -- a place without a mark is neither of the two that were marked
  pub two-marks : (k : ℕ) → get_or (set (set moved i v) j v) k Resting ≡ Resting → (k ≡ i → ⊥) × (k ≡ j → ⊥) × (get_or moved k Resting ≡ Resting)
  two-marks k z = go (ℕ_discrete k i) (ℕ_discrete k j)
    where
      once : length (set moved i v) ≡ DETECTIONS
      once = length-set moved i v ∙ long

      go : Dec (k ≡ i) → Dec (k ≡ j) → (k ≡ i → ⊥) × (k ≡ j → ⊥) × (get_or moved k Resting ≡ Resting)
      go d (yes y) = let w : v ≡ Resting = sym (get_or-set_same (set moved i v) j v Resting (omega (arith, once))) ∙ ap (λ (m : ℕ). get_or (set (set moved i v) j v) m Resting) (sym y) ∙ z in absurd (some w)
      go (yes x) (no y) = let w : v ≡ Resting = sym (get_or-set_same moved i v Resting (omega (arith, long))) ∙ ap (λ (m : ℕ). get_or (set moved i v) m Resting) (sym x) ∙ sym (get_or-set_other (set moved i v) j k v Resting y) ∙ z in absurd (some w)
      go (no x) (no y) = (x, y, sym (get_or-set_other moved i k v Resting x) ∙ sym (get_or-set_other (set moved i v) j k v Resting y) ∙ z)

by_pair : ByPair ≢ Resting
by_pair e = cc

-- the rows of two ids of the table change: their costs are worked out anew, and they are marked
module _ {e : Scene} {n next : ℕ} {table ids : List ℕ} {rows : List Row} {costs : List Float} {moved : List Mark} (listed : IdTable n table) (s : Swept e n table rows next ids costs moved) (i j : ℕ) (h : i < j) (g : j < n) where
  pub stands_anew :
      {next' : ℕ} → next' ≡ next → (new : List ℕ) → length new ≡ DETECTIONS →
      ((x : ℕ) → 0 < x → (x ≡ get_or table i 0 → ⊥) → (x ≡ get_or table j 0 → ⊥) → row_on e new x ≡ row_on e ids x) →
      (v w : Float) → v ≡ cost_on e new (get_or table i 0) → w ≡ cost_on e new (get_or table j 0) →
      Swept e n table rows next' new (set (set costs i v) j w) (set (set moved i ByPair) j ByPair)
  stands_anew keeps new l other v w p q =
      record {
        costed = costed_anew listed s.costed i j h g new l other v w p q;
        entered = s.entered;
        below = λ k b. omega (arith, s.below k b, keeps);
        marks = length-set (set moved i ByPair) j ByPair ∙ length-set moved i ByPair ∙ s.marks;
        same = λ k b z.
            let m = two-marks moved s.marks i j ByPair (omega (arith, listed.within)) (omega (arith, listed.within)) by_pair k z in
            other (get_or table k 0) (listed.above k b) (listed_apart listed k i b (omega arith) m.0) (listed_apart listed k j b g m.1) ∙ s.same k b m.2;
      }
