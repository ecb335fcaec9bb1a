-- The loop over the tracks of a table: what is left to visit, and what is at rest. Assumes nothing.
use Rattle.search_rows.specs.declared.rows.Row.{Row}
use Rattle.search.specs.declared.marks.Mark.{Mark}
use Rattle.search.specs.declared.marks.Mark.TheVariants.{Resting, ByTrack}
use Rattle.std.specs.Prelude.{◌≢◌}
use Prim.Native.Nat.{ℕ, ◌+◌, ◌≤◌, ◌<◌}
use native.Mathlib.Decide.{ℕ_discrete}
use native.Mathlib.Omega.{arith}
use mathlib.Core.Path.{◌≡◌, refl, sym, ap, ◌∙◌, subst}
use mathlib.Core.Bool.{true}
use mathlib.Core.List.{List}
use lib.ListN.{length, get_or, take, drop}
use lib.Ieee.{Float, nan}
use Rattle.bounds.specs.Bounds.{DETECTIONS}
use Rattle.search_rows.specs.declared.moves.Tally.{Tally}
use Rattle.search_rows.specs.Rows.{Starts}
use Rattle.search_neighbours.specs.Near.{row_at}
use Rattle.search.specs.Pass.{Scene, Progress, progress_of, row_on, cost_on, track_step_on, track_rest, visit, IdTable, Grows, Due, Visits, TrackStepped}
use Rattle.search.proofs.Listing.{listed_apart, listed_next, listed_end}
use Rattle.search.proofs.Costing.{cost-stays}
use Rattle.search.proofs.Stepping.{track_step_other}
use Rattle.search.proofs.Resting.{track_passes, grows_on}

-- ---- the step of a track

module _ {e : Scene} {i a : ℕ} {ids : List ℕ} {costs : List Float} {moved : List Mark} (all : length ids ≡ DETECTIONS) (long : length costs ≡ DETECTIONS) (marks : length moved ≡ DETECTIONS) where
  pub stepped_none : get_or costs i nan ≡ cost_on e ids a → track_rest e a (row_on e ids a) ≡ true → TrackStepped e i a ids costs moved ids costs moved
  stepped_none q r =
      record {
        all = all;
        long = long;
        marks = marks;
        costs_other = λ k n. refl;
        marks_other = λ k n. refl;
        cost = q;
        unmarked = λ z. (z, refl);
        rested = λ z. r;
      }

-- ---- a turn of the loop

module _ {e : Scene} {n : ℕ} {table : List ℕ} {rows : List Row} {i : ℕ} {ids : List ℕ} {costs : List Float} {moved : List Mark} (t : Tally) (listed : IdTable n table) (h : i < n) (v : Visits e n table rows i t.next_id.0 ids costs moved) where
  -- its row did not change since it was last visited
  pub visits_past :
      {due : List Mark} → Due e n table rows due → (get_or due i Resting ≢ ByTrack) × (get_or moved i Resting ≡ Resting) →
      (progress_of ids t ≡ track_step_on e (get_or table i 0) (progress_of ids t)) × Visits e n table rows (i + 1) t.next_id.0 ids costs moved
  visits_past d m = (
    track_passes e (get_or table i 0) ids t rest,
    record { swept = v.swept; rested = λ k l z. rested k l z (ℕ_discrete k i) },
  )
    where
      rest : track_rest e (get_or table i 0) (row_on e ids (get_or table i 0)) ≡ true
      rest = ap (track_rest e (get_or table i 0)) (v.swept.same i h m.1) ∙ d.track i h m.0

      rested : (k : ℕ) → k < i + 1 → get_or moved k Resting ≢ ByTrack → Dec (k ≡ i) → track_rest e (get_or table k 0) (row_on e ids (get_or table k 0)) ≡ true
      rested k l z (yes q) = ap (λ (m : ℕ). track_rest e (get_or table m 0) (row_on e ids (get_or table m 0))) q ∙ rest
      rested k l z (no q) = v.rested k (omega arith) z

  -- its step was made
  module _ {t' : Tally} {ids' : List ℕ} {costs' : List Float} {moved' : List Mark} (begins : Starts e.starts) (step : progress_of ids' t' ≡ track_step_on e (get_or table i 0) (progress_of ids t)) (s : TrackStepped e i (get_or table i 0) ids costs moved ids' costs' moved') where
    others : ((x : ℕ) → 0 < x → (x ≡ get_or table i 0 → ⊥) → x < t.next_id.0 → row_on e ids' x ≡ row_on e ids x) × (t.next_id.0 ≤ t'.next_id.0)
    others =
        subst (λ (p : Progress). ((x : ℕ) → 0 < x → (x ≡ get_or table i 0 → ⊥) → x < t.next_id.0 → row_on e p.ids x ≡ row_on e ids x) × (t.next_id.0 ≤ p.tally.next_id.0)) (sym step)
        (track_step_other e begins (get_or table i 0) (progress_of ids t) v.swept.costed.all)

    -- the rows of the others are as before
    other : (k : ℕ) → k < n → (k ≡ i → ⊥) → row_on e ids' (get_or table k 0) ≡ row_on e ids (get_or table k 0)
    other k b q = others.0 (get_or table k 0) (listed.above k b) (listed_apart listed k i b h q) (omega (arith, v.swept.below k b))

    pub visits_grow : Grows n moved moved'
    visits_grow = record { back = λ k b z. go k z (ℕ_discrete k i) }
      where
        go : (k : ℕ) → get_or moved' k Resting ≡ Resting → Dec (k ≡ i) → get_or moved k Resting ≡ Resting
        go k z (yes q) = ap (λ (m : ℕ). get_or moved m Resting) q ∙ (s.unmarked (sym (ap (λ (m : ℕ). get_or moved' m Resting) q) ∙ z)).0
        go k z (no q) = sym (s.marks_other k q) ∙ z

    costed-on : (k : ℕ) → k < n → Dec (k ≡ i) → get_or costs' k nan ≡ cost_on e ids' (get_or table k 0)
    costed-on k b (yes q) = ap (λ (m : ℕ). get_or costs' m nan) q ∙ s.cost ∙ ap (λ (m : ℕ). cost_on e ids' (get_or table m 0)) (sym q)
    costed-on k b (no q) = s.costs_other k q ∙ v.swept.costed.each k b ∙ sym (cost-stays e ids' ids (get_or table k 0) (other k b q))

    same-on : (k : ℕ) → k < n → get_or moved' k Resting ≡ Resting → Dec (k ≡ i) → row_on e ids' (get_or table k 0) ≡ row_at rows k
    same-on k b z (yes q) =
        ap (λ (m : ℕ). row_on e ids' (get_or table m 0)) q
        ∙ (s.unmarked (sym (ap (λ (m : ℕ). get_or moved' m Resting) q) ∙ z)).1
        ∙ ap (λ (m : ℕ). row_on e ids (get_or table m 0)) (sym q)
        ∙ v.swept.same k b (visits_grow.back k b z)
    same-on k b z (no q) = other k b q ∙ v.swept.same k b (visits_grow.back k b z)

    rested-on : (k : ℕ) → k < i + 1 → get_or moved' k Resting ≢ ByTrack → Dec (k ≡ i) → track_rest e (get_or table k 0) (row_on e ids' (get_or table k 0)) ≡ true
    rested-on k l z (yes q) =
        ap (λ (m : ℕ). track_rest e (get_or table m 0) (row_on e ids' (get_or table m 0))) q
        ∙ s.rested (subst (λ (m : ℕ). get_or moved' m Resting ≢ ByTrack) q z)
    rested-on k l z (no q) =
        ap (track_rest e (get_or table k 0)) (other k (omega arith) q)
        ∙ v.rested k (omega arith) (subst (λ (m : Mark). m ≢ ByTrack) (s.marks_other k q) z)

    pub visits_on : Visits e n table rows (i + 1) t'.next_id.0 ids' costs' moved'
    visits_on =
        record {
          swept =
              record {
                below = λ k b. omega (arith, v.swept.below k b, others.1);
                costed = record { all = s.all; long = s.long; each = λ k b. costed-on k b (ℕ_discrete k i) };
                entered = v.swept.entered;
                marks = s.marks;
                same = λ k b z. same-on k b z (ℕ_discrete k i);
              };
          rested = λ k l z. rested-on k l z (ℕ_discrete k i);
        }

-- ---- the loop

-- those before place i are done
pub record Visited (e : Scene) (n : ℕ) (table : List ℕ) (rows : List Row) (ids₀ : List ℕ) (moved₀ : List Mark) (t₀ : Tally) (ids : List ℕ) (costs : List Float) (moved : List Mark) (t : Tally) (i : ℕ) : Type 0 where
  pub within : i ≤ n
  pub visits : Visits e n table rows i t.next_id.0 ids costs moved
  pub grows : Grows n moved₀ moved
  pub left : visit e (take n table) (progress_of ids₀ t₀) ≡ visit e (drop i (take n table)) (progress_of ids t)

module _ {e : Scene} {n : ℕ} {table ids₀ : List ℕ} {rows : List Row} {moved₀ : List Mark} {t₀ : Tally} (listed : IdTable n table) where
  module _ {ids : List ℕ} {costs : List Float} {moved : List Mark} {t : Tally} {i : ℕ} (o : Visited e n table rows ids₀ moved₀ t₀ ids costs moved t i) where
    pub visit-step :
        {ids' : List ℕ} {costs' : List Float} {moved' : List Mark} {t' : Tally} → i < n →
        progress_of ids' t' ≡ track_step_on e (get_or table i 0) (progress_of ids t) → Visits e n table rows (i + 1) t'.next_id.0 ids' costs' moved' → Grows n moved moved' →
        Visited e n table rows ids₀ moved₀ t₀ ids' costs' moved' t' (i + 1)
    unfolding visit
    visit-step h step v g =
        record {
          within = omega arith;
          visits = v;
          grows = grows_on o.grows g;
          left =
              o.left
              ∙ ap (λ (l : List ℕ). visit e l (progress_of ids t)) (listed_next listed i h)
              ∙ ap (visit e (drop (i + 1) (take n table))) (sym step);
        }

    pub visit_done : n ≤ i → (progress_of ids t ≡ visit e (take n table) (progress_of ids₀ t₀)) × Visits e n table rows n t.next_id.0 ids costs moved × Grows n moved₀ moved
    unfolding visit
    visit_done h =
        let q : i ≡ n = omega (arith, o.within) in (
          sym (o.left ∙ ap (λ (l : List ℕ). visit e l (progress_of ids t)) (ap (λ (k : ℕ). drop k (take n table)) q ∙ listed_end listed)),
          subst (λ (k : ℕ). Visits e n table rows k t.next_id.0 ids costs moved) q o.visits,
          o.grows,
        )
