-- A frame that was accepted is held: the scans, the next id and the owners are those of placing as defined, and the
-- search may begin. Assumes nothing.
use Prim.Native.Nat.{ℕ, suc, ◌+◌, ◌^◌, ◌≤◌, ◌<◌}
use native.Mathlib.Nat.{le_refl, le_trans}
use native.Mathlib.Decide.{dec_lt}
use native.Mathlib.Omega.{arith}
use mathlib.Core.Path.{◌≡◌, refl, sym, ap, subst, ◌∙◌}
use mathlib.Core.List.{List, [], ◌∷◌, ◌++◌}
use mathlib.Core.Logic.{inl, inr}
use mathlib.Core.Option.{Option, none, some}
use lib.ListN.{length}
use Rattle.bounds.specs.Bounds.{DETECTIONS}
use Rattle.engine.specs.declared.types.Association.{Association}
use Rattle.engine.specs.Frame.{Frame, Associated}
use Rattle.engine.specs.Body.{Body, frame_in, body_refusal}
use Rattle.fgo_spec.specs.Lists.{find}
use Rattle.fgo_spec.specs.Windows.{Scan, Prefix, window_count}
use Rattle.fgo_spec.specs.Placing.{Placing, free_owner, place_track, place_one, place}
use Rattle.fgo_spec.specs.Refiner.{State, placed, with_scan}
use Rattle.fgo_spec.specs.Rule.{All, Bytes, ColumnRule}
use Rattle.fgo_spec.proofs.All.{All_weaken, All-append}
use Rattle.fgo_spec.proofs.Tables.{keys}
use Rattle.fgo_spec.proofs.Windows.{detections_snoc}
use Rattle.fgo_spec.proofs.Keeping.{Known}
use Rattle.fgo_spec.proofs.Ties.{tied_loose}
use Rattle.fgo_spec.proofs.Placement.{Has, Placed, joined_ids}
use Rattle.fgo_spec.proofs.Arrival.{place_is}
use Rattle.search.specs.Represents.{Spare}
use Rattle.fgo_state.specs.declared.state.FixedLagRefiner.{FixedLagRefiner}
use Rattle.fgo_state.specs.declared.state.Memory.{Memory}
use Rattle.fgo_state.specs.Memory.{memory, body_at, scans_in, owners_in, state_of}
use Rattle.fgo_arrive.specs.Arriving.{Arrives, placed_by, HeldBy, SearchesHeld}
use Rattle.fgo_state.proofs.Counts.{associations_long, associations_few}
use Rattle.fgo_arrive.proofs.Placements.{before, places}
use Rattle.fgo_arrive.proofs.ReadyLaw.{sound_tells, sound_ready}
use Rattle.fgo_arrive.proofs.Accepted.{passes, room, spaced, rule, holds}
use Rattle.std.specs.Prelude.{None, Some}

-- ---- placing gives no more ids than the frame has associations

module _ (ps : List (ℕ × Prefix)) (ss : List Scan) where
  one_next : (p : Placing) (o : Associated) → (place_one ps ss p o).next_id ≤ suc p.next_id
  one_next p None = omega arith
  one_next p (Some e) = go (free_owner ps ss p.ids (find e.0 p.owners))
    where
      go : (x : Option ℕ) → (place_track p e.0 x).next_id ≤ suc p.next_id
      go none = le_refl _
      go (some x) = omega arith

  all-next : (l : List Association) (p : Placing) → (place ps ss l p).next_id ≤ p.next_id + length l
  unfolding place
  all-next [] p = omega arith
  all-next (a ∷ l) p = omega (arith, one_next p a.track, all-next l (place_one ps ss p a.track))

module _ (r : FixedLagRefiner) (m : Memory) (s : Body) (a : Arrives r m s) (l : Bytes m.scans.bodies) (b : Bytes s.bytes) where
  abbrev t : State
  t = state_of r m

  abbrev f : Frame
  f = frame_in s

  abbrev p : Placing
  p = placed t f

  placed-is : Placed (λ x. x < t.next_id) t.next_id t.owners (joined_ids (keys t.owners) f.associations) f.associations p
  placed-is = place_is r.config t f (λ x. x < t.next_id) (before r.config t f (rule r m s a l))

  -- the columns are in order
  columns-placed : All (ColumnRule p.next_id) (with_scan t f)
  columns-placed =
      All-append (ColumnRule p.next_id) t.scans _
      (All_weaken (ColumnRule t.next_id) (ColumnRule p.next_id) t.scans
      (λ x k. record { complete = k.complete; apart = k.apart; known = λ y z q. le_trans (k.known y z q) placed-is.low; loose = k.loose; spoken = k.spoken })
      (rule r m s a l).columns) (
        record {
          complete = placed-is.complete;
          apart = placed-is.apart;
          known = λ x z q. below x (placed-is.named x z q);
          loose = tied_loose (Has p.owners) f.associations p.ids placed-is.tied;
          spoken = (s, b, passes r m s a, refl);
        },
        tt,
      )
    where
      below : (x : ℕ) → Known (λ y. y < t.next_id) t.next_id p.next_id x → x < p.next_id
      below x (inl o) = le_trans o placed-is.low
      below x (inr k) = k.1

  -- there is room for all the detections
  room-placed : length t.prefixes + window_count (with_scan t f) ≤ DETECTIONS
  room-placed = omega (arith, detections_snoc t.scans (record { frame = f; ids = p.ids }), placed-is.few, (room r m s a).sum)

  -- ---- the lent memory after it

  module _ (u : FixedLagRefiner) (bodies columns owners : List ℕ) (h : HeldBy r s m.scans.bodies m.scans.columns m.owners u bodies columns owners) where
    abbrev m' : Memory
    m' = memory bodies columns owners m.parts.tracks m.parts.filters

    -- what is kept, and what is new
    abbrev pub v : FixedLagRefiner
    v = record { config = r.config; first = r.first; held = r.held + 1; frozen = r.frozen; owned = u.owned; next_id = u.next_id; counters = r.counters }

    pub held_as : v ≡ u
    held_as =
        sym
        (λ i.
        record { config = h.settings i; first = h.first i; held = h.held i; frozen = h.frozen i; owned = u.owned; next_id = u.next_id; counters = h.counters i })

    pub placed_same : placed_by r s m.owners ≡ p
    unfolding state_of
    placed_same = places r.config t f (rule r m s a l) (room r m s a)

    pub next_held : v.next_id.0 ≡ p.next_id
    next_held = h.next_id ∙ ap (λ q. q.next_id) placed_same

    pub owners_held : owners_in owners v.owned ≡ p.owners
    owners_held = h.owners_are ∙ ap (λ q. q.owners) placed_same

    pub scans_held : scans_in bodies columns v.first.0 v.held ≡ with_scan t f
    unfolding state_of
    scans_held = h.scans ∙ ap (λ q. t.scans ++ (record { frame = f; ids = q.ids } ∷ [])) placed_same

    few-ids : v.next_id.0 ≤ 2 ^ 61
    unfolding state_of
    few-ids =
        omega
        (arith, next_held, all-next t.prefixes t.scans f.associations (record { ids = []; owners = t.owners; next_id = t.next_id }), associations_long s, associations_few s (passes r m s a), (spaced r m s a).ids)

    spare : Spare v.next_id.0 v.counters
    spare =
        let z = spaced r m s a in
        record {
          ids = few-ids;
          swaps = omega (arith, z.swaps);
          merges = omega (arith, z.merges);
          splits = omega (arith, z.splits);
          drops = omega (arith, z.drops);
        }

    searches-as : SearchesHeld v m'
    searches-as =
        let k = sound_tells r m a.sound in
        let w = holds r m s a l in
        record {
          settings = k.settings;
          held =
              record {
                few = omega (arith, w.few);
                early = omega (arith, w.early);
                passes = λ i q. pass i (dec_lt i r.held) q;
                room = few-held;
              };
          columns = subst (All (ColumnRule v.next_id.0)) (sym scans_held) (subst (λ (n : ℕ). All (ColumnRule n) (with_scan t f)) (sym next_held) columns-placed);
          begun = omega (arith, next_held, placed-is.low, (rule r m s a l).begun);
          parts = (sound_ready r m a.sound).ordered;
          frozen = let z = k.room in omega arith;
          owners = h.owned;
          spare = spare;
        }
      where
        pass : (i : ℕ) → Dec (i < r.held) → i < r.held + 1 → body_refusal (body_at bodies columns (r.first.0 + i)) ≡ 0
        pass i (yes q) z = ap (λ (x : Body). body_refusal x) (h.older i q) ∙ (sound_ready r m a.sound).passes i q
        pass i (no q) z =
            let e : i ≡ r.held = omega arith in
            ap (λ (j : ℕ). body_refusal (body_at bodies columns (r.first.0 + j))) e ∙ ap (λ (x : Body). body_refusal x) h.newest ∙ passes r m s a

        few-held : window_count (scans_in bodies columns v.first.0 v.held) ≤ DETECTIONS
        few-held = subst (λ ss. window_count ss ≤ DETECTIONS) (sym scans_held) (omega (arith, room-placed))

    pub searches : SearchesHeld u m'
    searches = subst (λ x. SearchesHeld x m') held_as searches-as
