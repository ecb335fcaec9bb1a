-- The search, and the owners told anew: the state is the one of the refiner as defined, every cell of the lent memory
-- is as defined, and the oldest scan may leave. Assumes nothing.
use Prim.Native.Nat.{ℕ, ◌+◌, ◌*◌, ◌≤◌, ◌<◌}
use native.Mathlib.Numerals.{add-one}
use native.Mathlib.Omega.{arith}
use mathlib.Core.Path.{◌≡◌, refl, sym, ap, subst, fun_ext, ◌∙◌}
use mathlib.Core.List.{List, map, flat_map}
use lib.ListN.{length, length-map}
use Rattle.bounds.specs.Bounds.{BODY, COLUMN, DETECTIONS, OWNED, OWNER}
use Rattle.buffers.specs.Buffers.{over, renewed}
use Rattle.engine.specs.Frame.{Frame}
use Rattle.engine.specs.Body.{Body, frame_in}
use Rattle.engine.proofs.Passing.{length-rows}
use Rattle.fgo_spec.specs.Lists.{keep}
use Rattle.fgo_spec.specs.Windows.{window_count}
use Rattle.fgo_spec.specs.Searching as searching
use Rattle.fgo_spec.specs.Searching.{improve}
use Rattle.fgo_spec.specs.Owning.{latest, live_owners, reown}
use Rattle.fgo_spec.specs.Refiner.{State, placed, with_scan, searched, arrive}
use Rattle.fgo_spec.specs.Rule.{Bytes}
use Rattle.fgo_spec.proofs.Counting.{count-le}
use Rattle.fgo_spec.proofs.Arrival.{arrived}
use Rattle.search_rows.specs.declared.moves.Tally.{Tally}
use Rattle.fgo_state.specs.declared.state.FixedLagRefiner.{FixedLagRefiner}
use Rattle.fgo_part.specs.Parts.{entry_in}
use Rattle.fgo_state.specs.declared.state.Memory.{Memory}
use Rattle.fgo_state.specs.Memory.{memory, slot_at, scan_in, scans_in, live_in, column_words, owner_entry, owner_words, owners_in, state_of}
use Rattle.fgo_state.specs.Contents as contents
use Rattle.fgo_state.specs.Contents.{ids_put}
use Rattle.fgo_arrive.specs.Arriving.{Ready, Arrives, HeldBy, improved_in, told_in, SearchedHeld, Arrived}
use Rattle.fgo_state.proofs.Live.{live_rule}
use Rattle.fgo_state.proofs.OwnerCells.{words_long}
use Rattle.fgo_place.proofs.Owners.{owners_are}
use Rattle.fgo_arrive.proofs.Placements.{before}
use Rattle.buffers.proofs.Agreeing.{renewed_again}
use Rattle.fgo_arrive.proofs.ReadyLaw.{sound_ready}
use Rattle.fgo_arrive.proofs.Accepted.{room, rule, holds}
use Rattle.fgo_arrive.proofs.HeldFrame.{v, held_as, placed_same, next_held, owners_held, scans_held}

-- a refiner after the search: so many owners, the next id and the counters
abbrev pub after : FixedLagRefiner → ℕ → Tally → FixedLagRefiner
after u k y =
    record {
      config = u.config;
      first = u.first;
      held = u.held;
      frozen = u.frozen;
      owned = k;
      next_id = y.next_id;
      counters = y.counters;
    }

owners_long : (owners : List ℕ) (n : ℕ) → length (owners_in owners n) ≡ n
owners_long owners n = length-rows (owner_entry owners) 0 n

-- the entries that have a live owner
abbrev living : FixedLagRefiner → Memory → List ℕ → List ℕ → List (ℕ × ℕ)
living u m columns owners = keep (λ o. live_in m.scans.bodies columns u.first.0 u.held m.parts.tracks u.frozen o.1) (owners_in owners u.owned)

-- what keep_owners leaves: these, and every cell of their array
pub record Keeps (u : FixedLagRefiner) (m : Memory) (columns owners owners' : List ℕ) (k : ℕ) : Type 0 where
  pub many : k ≡ length (living u m columns owners)
  pub cells : owners' ≡ renewed 0 (OWNER * u.owned) (flat_map owner_words (living u m columns owners)) owners

module _ (r : FixedLagRefiner) (m : Memory) (s : Body) (a : Arrives r m s) (l : Bytes m.scans.bodies) (b : Bytes s.bytes) where
  abbrev t : State
  t = state_of r m

  abbrev f : Frame
  f = frame_in s

  held-long : length (scans_in m.scans.bodies m.scans.columns r.first.0 r.held) ≡ r.held
  held-long = length-rows (scan_in m.scans.bodies m.scans.columns) r.first.0 r.held

  module _ (u : FixedLagRefiner) (bodies columns owners : List ℕ) (h : HeldBy r s m.scans.bodies m.scans.columns m.owners u bodies columns owners) where
    abbrev m' : Memory
    m' = memory bodies columns owners m.parts.tracks m.parts.filters

    abbrev w : FixedLagRefiner
    w = v r m s a l b u bodies columns owners h

    module _ (columns' owners' owners'' : List ℕ) (k : ℕ) (y : Tally) (q : SearchedHeld w m' columns' owners' y) (o : Keeps w m' columns' owners' owners'' k) where
      abbrev m'' : Memory
      m'' = memory bodies columns' owners'' m.parts.tracks m.parts.filters

      -- what the search finds is what it finds as defined
      found_as : improved_in w m' ≡ searched r.config t f
      unfolding state_of
      found_as =
          ap (λ ss. improve r.config r.first.0 t.prefixes ss w.next_id.0 r.counters) (scans_held r m s a l b u bodies columns owners h)
          ∙ ap (λ (n : ℕ). improve r.config r.first.0 t.prefixes (with_scan t f) n r.counters) (next_held r m s a l b u bodies columns owners h)

      abbrev e : searching.Search
      e = (searched r.config t f).search

      scans-as : scans_in bodies columns' r.first.0 (r.held + 1) ≡ e.scans
      scans-as = q.scans ∙ ap (λ x. x.search.scans) found_as

      -- the owners that the search leaves
      told-long : w.owned ≡ length (told_in w m')
      told-long = sym (length-map (owners_in owners w.owned) (λ p. (p.0, latest p.0 p.1 (improved_in w m').search.scans)) ∙ owners_long owners w.owned)

      told-as : owners_in owners' w.owned ≡ told_in w m'
      told-as = owners_are (told_in w m') owners told-long q.owners_put

      living-as : living w m' columns' owners' ≡ reown t.prefixes e.scans (placed t f).owners
      unfolding reown state_of
      living-as =
          ap (λ g. keep g (owners_in owners' w.owned))
          (fun_ext (λ p. live_rule bodies columns' r.first.0 (r.held + 1) m.parts.tracks m.parts.filters r.frozen p.1))
          ∙ ap (λ ss. live_owners t.prefixes ss (owners_in owners' w.owned)) scans-as
          ∙ ap (live_owners t.prefixes e.scans)
          (told-as
          ∙ ap (λ x. map (λ p. (p.0, latest p.0 p.1 x.search.scans)) (owners_in owners w.owned)) found_as
          ∙ ap (map (λ p. (p.0, latest p.0 p.1 e.scans))) (owners_held r m s a l b u bodies columns owners h))

      owners-as : owners_in owners'' k ≡ reown t.prefixes e.scans (placed t f).owners
      owners-as = owners_are (living w m' columns' owners') _ o.many o.cells ∙ living-as

      state-as : state_of (after w k y) m'' ≡ arrive r.config t f
      unfolding state_of arrive
      state-as =
          λ i.
          record {
            first = r.first.0;
            scans = scans-as i;
            prefixes = t.prefixes;
            owners = owners-as i;
            next_id = (q.next_id ∙ ap (λ x. x.search.next_id) found_as) i;
            counters = (q.counters ∙ ap (λ x. x.search.counters) found_as) i;
          }

      few-owners : k ≤ OWNED
      few-owners =
          omega (
            arith,
            owners_long owners' w.owned,
            o.many,
            count-le (λ p. live_in bodies columns' r.first.0 (r.held + 1) m.parts.tracks r.frozen p.1) (owners_in owners' w.owned),
            h.owned,
          )

      room-left : r.frozen + window_count (scans_in bodies columns' r.first.0 (r.held + 1)) ≤ DETECTIONS
      unfolding state_of
      room-left =
          subst (λ ss. r.frozen + window_count ss ≤ DETECTIONS) (sym scans-as)
          (omega (
            arith,
            (arrived r.config t f (λ x. x < t.next_id) (before r.config t f (rule r m s a l))).few,
            (room r m s a).sum,
            length-rows (entry_in m.parts.tracks m.parts.filters) 0 r.frozen,
          ))

      ready : Ready (after w k y) m''
      ready =
          let z = sound_ready r m a.sound in
          let n = holds r m s a l in
          record {
            few = omega (arith, n.few);
            early = omega (arith, n.early);
            passes = q.bodies;
            ordered = z.ordered;
            parts = z.parts;
            room = room-left;
            owners = few-owners;
          }

      -- ---- every cell

      bodies-as : bodies ≡ over (BODY * slot_at (t.first + length t.scans)) s.bytes m.scans.bodies
      unfolding state_of
      bodies-as = h.bodies_put ∙ ap (λ (n : ℕ). over (BODY * slot_at (r.first.0 + n)) s.bytes m.scans.bodies) (sym held-long)

      -- the column of the frame, and the ids of all
      columns-as :
          columns'
          ≡ ids_put t.first (arrive r.config t f).scans
          (over (COLUMN * slot_at (t.first + length t.scans)) (column_words s.kind (length s.bytes) (placed t f).ids) m.scans.columns)
      unfolding state_of arrive
      columns-as =
          q.columns_put
          ∙ ap (λ x. ids_put r.first.0 x.search.scans columns) found_as
          ∙ ap (ids_put r.first.0 e.scans)
          (h.columns_put
          ∙ ap (λ p. over (COLUMN * slot_at (r.first.0 + r.held)) (column_words s.kind (length s.bytes) p.ids) m.scans.columns) (placed_same r m s a l b u bodies columns owners h)
          ∙ ap (λ (n : ℕ). over (COLUMN * slot_at (r.first.0 + n)) (column_words s.kind (length s.bytes) (placed t f).ids) m.scans.columns) (sym held-long))

      owned-long : OWNER * w.owned ≡ OWNER * length (placed t f).owners
      owned-long = ap (λ (n : ℕ). OWNER * n) (sym (owners_long owners w.owned) ∙ ap length (owners_held r m s a l b u bodies columns owners h))

      owners-cells : owners'' ≡ renewed 0 (OWNER * length (placed t f).owners) (flat_map owner_words (arrive r.config t f).owners) m.owners
      unfolding arrive
      owners-cells =
          let g = flat_map owner_words (living w m' columns' owners') in
          let n : ℕ = OWNER * length (placed t f).owners in
          let put : owners ≡ over 0 (flat_map owner_words (placed t f).owners) m.owners =
          h.owners_put ∙ ap (λ p. over 0 (flat_map owner_words p.owners) m.owners) (placed_same r m s a l b u bodies columns owners h) in
          o.cells
          ∙ ap (λ (i : ℕ). renewed 0 i g owners') owned-long
          ∙ renewed_again 0 n g _ owners' owners (words_long (told_in w m') ∙ ap (λ (i : ℕ). OWNER * i) (sym told-long) ∙ owned-long) q.owners_put
          ∙ renewed_again 0 n g _ owners m.owners (words_long (placed t f).owners) put
          ∙ ap (λ os. renewed 0 n (flat_map owner_words os) m.owners) living-as

      memory-as : m'' ≡ contents.arrived r.config t s m
      memory-as = λ i. memory (bodies-as i) (columns-as i) (owners-cells i) m.parts.tracks m.parts.filters

      arrived-as : Arrived r m s (after w k y) m''
      arrived-as = record { settings = refl; memory = memory-as; state = state-as; ready = ready; held = add-one r.held }

    -- of the refiner that holds the frame
    pub arrives :
        (columns' owners' owners'' : List ℕ) (k : ℕ) (y : Tally) → SearchedHeld u m' columns' owners' y → Keeps u m' columns' owners' owners'' k →
        Arrived r m s (after u k y) (memory bodies columns' owners'' m.parts.tracks m.parts.filters)
    arrives columns' owners' owners'' k y q o =
        let e = held_as r m s a l b u bodies columns owners h in
        subst (λ x. Arrived r m s (after x k y) (memory bodies columns' owners'' m.parts.tracks m.parts.filters)) e
        (arrived-as columns' owners' owners'' k y (subst (λ x. SearchedHeld x m' columns' owners' y) (sym e) q) (subst (λ x. Keeps x m' columns' owners' owners'' k) (sym e) o))
