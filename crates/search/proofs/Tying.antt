-- The search over the gathered ids beside fgo_spec's: what ties them, and that a step keeps it. Assumes nothing.
use Rattle.std.specs.Prelude.{Option, Some, None}
use Prim.Native.Nat.{ℕ, suc, ◌+◌, ◌^◌, ◌≤◌, ◌<◌}
use native.Mathlib.Nat.{le_trans}
use native.Mathlib.Numerals.{add-one}
use native.Mathlib.Omega.{arith}
use mathlib.Core.Path.{◌≡◌, refl, sym, ap, ◌∙◌, subst}
use mathlib.Core.Bool.{Bool, ◌||◌, or-true, or-false}
use mathlib.Core.List.{List, map}
use borrow.Author.Tests.{lt-ltb}
use Rattle.fgo_spec.specs.declared.moves.FgoCounters.{FgoCounters}
use Rattle.fgo_spec.specs.declared.moves.PairMove.{PairMove}
use Rattle.fgo_spec.specs.declared.moves.PairMove.TheVariants.{Swap, Merge}
use Rattle.fgo_spec.specs.declared.moves.TrackMove.{TrackMove}
use Rattle.fgo_spec.specs.declared.moves.TrackMove.TheVariants.{Split, Drop}
use Rattle.fgo_spec.specs.Windows.{Scan, Prefix}
use Rattle.fgo_spec.specs.Searching.{Search as Model, after_pair, after_track, count_pair, count_track, next_after, moves, best_of_pair, best_of_track, pair_step as on_pair, track_step as on_track}
use Rattle.search_rows.specs.declared.moves.Tally.{Tally}
use Rattle.search_pair.specs.Pair.{cuts_of}
use Rattle.search_rows.specs.Moves.{one_more, pair_tally, track_tally}
use Rattle.search.specs.Pass.{Scene, Progress, pair_best, pair_moved, pair_step_on, track_best, track_moved, track_step_on}
use Rattle.search.proofs.Standing.{Standing, scans_now, Fits}
use Rattle.search.proofs.PassLaws.{PassLaws}
use Rattle.search.proofs.Stepping.{next_from}
use Rattle.search.proofs.Absence.{Absent, absent_pair, absent_track, absent_rests}

-- what holds of what is left by no move and by each
by_pair : (Q : Progress → Type 0) (e : Scene) (a b : ℕ) (s : Progress) (m : Option PairMove) → Q s → ((m : PairMove) → Q (pair_moved e (Some m) a b s)) → Q (pair_moved e m a b s)
by_pair Q e a b s None h g = h
by_pair Q e a b s (Some m) h g = g m

by_track : (Q : Progress → Type 0) (e : Scene) (a : ℕ) (s : Progress) (m : Option TrackMove) → Q s → ((m : TrackMove) → Q (track_moved e (Some m) a s)) → Q (track_moved e m a s)
by_track Q e a s None h g = h
by_track Q e a s (Some m) h g = g m

-- ---- room for n more moves

pub record Room (n next : ℕ) (k : FgoCounters) : Type 0 where
  pub ids : next + n ≤ 2 ^ 62
  pub swaps : k.swaps + n ≤ 2 ^ 62
  pub merges : k.merges + n ≤ 2 ^ 62
  pub splits : k.splits + n ≤ 2 ^ 62
  pub drops : k.drops + n ≤ 2 ^ 62

pub room-less : (m n next : ℕ) (k : FgoCounters) → n ≤ m → Room m next k → Room n next k
room-less m n next k h r =
    record {
      ids = less next r.ids;
      swaps = less k.swaps r.swaps;
      merges = less k.merges r.merges;
      splits = less k.splits r.splits;
      drops = less k.drops r.drops;
    }
  where
    less : (i : ℕ) → i + m ≤ 2 ^ 62 → i + n ≤ 2 ^ 62
    less i g = omega arith

-- far from where a word ends one more is the next number
pub one_more_lem : (k : ℕ) → k ≤ 2 ^ 62 → one_more k ≡ suc k
one_more_lem k h = rw (lt-ltb k (2 ^ 63) (omega arith)) (add-one k)

module _ (n k : ℕ) (h : k + suc n ≤ 2 ^ 62) where
  used : one_more k + n ≤ 2 ^ 62
  used = rw (one_more_lem k (omega arith)) (omega arith)

  counted : suc k ≡ one_more k
  counted = sym (one_more_lem k (omega arith))

-- ---- what ties the two

-- fgo_spec's search at this point
abbrev pub model_of : Scene → List Scan → Progress → Model
model_of e ss s = record { scans = scans_now e ss s.ids; next_id = s.tally.next_id.0; counters = s.tally.counters; moved = s.tally.moved }

module _ (e : Scene) (ss : List Scan) (Out : ℕ → Type 0) (low p : ℕ) where
  -- fgo_spec's search m is that of s; ids below low are in use; p passes have begun; there is room for n more moves;
  -- ids of Out stand nowhere
  pub record Tied (n : ℕ) (s : Progress) (m : Model) : Type 0 where
    pub same : m ≡ model_of e ss s
    pub stands : Standing e s.tally.next_id.0 ss s.ids
    pub from : low ≤ s.tally.next_id.0
    pub passes : s.tally.passes ≡ p
    pub room : Room n s.tally.next_id.0 s.tally.counters
    pub out : (x : ℕ) → 0 < x → Out x → Absent x (scans_now e ss s.ids)

  pub tied_less : (k n : ℕ) {s : Progress} {m : Model} → n ≤ k → Tied k s m → Tied n s m
  tied_less k n {s} h t = record { same = t.same; stands = t.stands; from = t.from; passes = t.passes; room = room-less k n s.tally.next_id.0 s.tally.counters h t.room; out = t.out }

-- what a move of a pair makes of fgo_spec's search
abbrev with_pair : Scene → List (ℕ × Prefix) → ℕ → ℕ → Option PairMove → Model → Model
with_pair e ps a b m r =
    record {
      scans = after_pair e.hall.config e.hall.first.0 ps a b r.scans m;
      next_id = r.next_id;
      counters = count_pair m r.counters;
      moved = r.moved || moves m;
    }

-- and a move of a track
abbrev with_track : Scene → List (ℕ × Prefix) → ℕ → Option TrackMove → Model → Model
with_track e ps a m r =
    record {
      scans = after_track e.hall.config e.hall.first.0 ps a r.next_id r.scans m;
      next_id = next_after m r.next_id;
      counters = count_track m r.counters;
      moved = r.moved || moves m;
    }

-- with room, the counts are fgo_spec's, and leave room
module _ (n : ℕ) (t : Tally) (r : Room (suc n) t.next_id.0 t.counters) where
  pair-counters : (m : PairMove) → count_pair (Some m) t.counters ≡ (pair_tally m t).counters
  pair-counters (Swap f g) =
      λ i. record { swaps = counted n t.counters.swaps r.swaps i; merges = t.counters.merges; splits = t.counters.splits; drops = t.counters.drops }
  pair-counters (Merge k own g) =
      λ i. record { swaps = t.counters.swaps; merges = counted n t.counters.merges r.merges i; splits = t.counters.splits; drops = t.counters.drops }

  track-counters : (m : TrackMove) → count_track (Some m) t.counters ≡ (track_tally m t).counters
  track-counters (Split f g) =
      λ i. record { swaps = t.counters.swaps; merges = t.counters.merges; splits = counted n t.counters.splits r.splits i; drops = t.counters.drops }
  track-counters (Drop f g) =
      λ i. record { swaps = t.counters.swaps; merges = t.counters.merges; splits = t.counters.splits; drops = counted n t.counters.drops r.drops i }

  track-next : (m : TrackMove) → next_after (Some m) t.next_id.0 ≡ (track_tally m t).next_id.0
  track-next (Split f g) = counted n t.next_id.0 r.ids
  track-next (Drop f g) = refl

  room_next : Room n t.next_id.0 t.counters
  room_next = room-less (suc n) n t.next_id.0 t.counters (omega arith) r

  pair-room : (m : PairMove) → Room n (pair_tally m t).next_id.0 (pair_tally m t).counters
  pair-room (Swap f g) =
      record { ids = room_next.ids; swaps = used n t.counters.swaps r.swaps; merges = room_next.merges; splits = room_next.splits; drops = room_next.drops }
  pair-room (Merge k own g) =
      record { ids = room_next.ids; swaps = room_next.swaps; merges = used n t.counters.merges r.merges; splits = room_next.splits; drops = room_next.drops }

  track-room : (m : TrackMove) → Room n (track_tally m t).next_id.0 (track_tally m t).counters
  track-room (Split f g) =
      record { ids = used n t.next_id.0 r.ids; swaps = room_next.swaps; merges = room_next.merges; splits = used n t.counters.splits r.splits; drops = room_next.drops }
  track-room (Drop f g) =
      record { ids = room_next.ids; swaps = room_next.swaps; merges = room_next.merges; splits = room_next.splits; drops = used n t.counters.drops r.drops }

module _ (e : Scene) (ps : List (ℕ × Prefix)) (ss : List Scan) (laws : PassLaws e ps ss) where
  module _ (n : ℕ) (s : Progress) (st : Standing e s.tally.next_id.0 ss s.ids) (r : Room (suc n) s.tally.next_id.0 s.tally.counters) where
    -- ---- a pair

    module _ (a b : ℕ) (ha : 0 < a) (hb : 0 < b) (apart : a ≡ b → ⊥) where
      pair_same : (m : Option PairMove) → Fits a b m → with_pair e ps a b m (model_of e ss s) ≡ model_of e ss (pair_moved e m a b s)
      pair_same None f = λ i. record { scans = scans_now e ss s.ids; next_id = s.tally.next_id.0; counters = s.tally.counters; moved = or-false s.tally.moved i }
      pair_same (Some (Swap k g)) f =
          λ i.
          record {
            scans = sym (laws.pair_ids_lem s.tally.next_id.0 s.ids st a b ha hb apart (Swap k g) f) i;
            next_id = s.tally.next_id.0;
            counters = pair-counters n s.tally r (Swap k g) i;
            moved = or-true s.tally.moved i;
          }
      pair_same (Some (Merge k own g)) f =
          λ i.
          record {
            scans = sym (laws.pair_ids_lem s.tally.next_id.0 s.ids st a b ha hb apart (Merge k own g) f) i;
            next_id = s.tally.next_id.0;
            counters = pair-counters n s.tally r (Merge k own g) i;
            moved = or-true s.tally.moved i;
          }

      module _ (la : a < s.tally.next_id.0) (lb : b < s.tally.next_id.0) where
        pair_keeps : (m : Option PairMove) → Fits a b m → Standing e (pair_moved e m a b s).tally.next_id.0 ss (pair_moved e m a b s).ids
        pair_keeps None f = st
        pair_keeps (Some (Swap k g)) f = laws.pair_stands s.tally.next_id.0 s.ids st a b ha hb apart la lb (Swap k g) f
        pair_keeps (Some (Merge k own g)) f = laws.pair_stands s.tally.next_id.0 s.ids st a b ha hb apart la lb (Merge k own g) f

    -- ---- a track

    module _ (a : ℕ) (ha : 0 < a) where
      track-same : (m : Option TrackMove) → with_track e ps a m (model_of e ss s) ≡ model_of e ss (track_moved e m a s)
      track-same None = λ i. record { scans = scans_now e ss s.ids; next_id = s.tally.next_id.0; counters = s.tally.counters; moved = or-false s.tally.moved i }
      track-same (Some (Split k g)) =
          λ i.
          record {
            scans = sym (laws.track_ids_lem s.tally.next_id.0 s.ids st a s.tally.next_id.0 ha st.begun (Split k g)) i;
            next_id = track-next n s.tally r (Split k g) i;
            counters = track-counters n s.tally r (Split k g) i;
            moved = or-true s.tally.moved i;
          }
      track-same (Some (Drop k g)) =
          λ i.
          record {
            scans = sym (laws.track_ids_lem s.tally.next_id.0 s.ids st a s.tally.next_id.0 ha st.begun (Drop k g)) i;
            next_id = s.tally.next_id.0;
            counters = track-counters n s.tally r (Drop k g) i;
            moved = or-true s.tally.moved i;
          }

      module _ (la : a < s.tally.next_id.0) where
        track-keeps : (m : Option TrackMove) → Standing e (track_moved e m a s).tally.next_id.0 ss (track_moved e m a s).ids
        track-keeps None = st
        track-keeps (Some (Split k g)) =
            subst (λ x. Standing e x ss (track_moved e (Some (Split k g)) a s).ids) (track-next n s.tally r (Split k g))
            (laws.track_stands s.tally.next_id.0 s.ids st a ha la (Split k g))
        track-keeps (Some (Drop k g)) = laws.track_stands s.tally.next_id.0 s.ids st a ha la (Drop k g)

  -- ---- one step of each

  module _ (Out : ℕ → Type 0) (low p : ℕ) where
    pair-moved-tied :
        (a b : ℕ) → 0 < a → 0 < b → (a ≡ b → ⊥) → a < low → b < low → (Out a → ⊥) → (Out b → ⊥) → (m : Option PairMove) → Fits a b m →
        (n : ℕ) (s : Progress) (q : Model) → Tied e ss Out low p (suc n) s q → Tied e ss Out low p n (pair_moved e m a b s) (with_pair e ps a b m q)
    pair-moved-tied a b ha hb apart la lb oa ob m f n s q t =
        record {
          same = ap (with_pair e ps a b m) t.same ∙ is;
          stands = pair_keeps n s t.stands t.room a b ha hb apart (le_trans la t.from) (le_trans lb t.from) m f;
          from = by_pair (λ s. low ≤ s.tally.next_id.0) e a b s m t.from (λ m. t.from);
          passes = by_pair (λ s. s.tally.passes ≡ p) e a b s m t.passes (λ m. t.passes);
          room = by_pair (λ s. Room n s.tally.next_id.0 s.tally.counters) e a b s m (room_next n s.tally t.room) (pair-room n s.tally t.room);
          out =
              λ x h o.
              subst (Absent x) (ap (λ (q : Model). q.scans) is)
              (absent_pair e.hall.config e.hall.first.0 ps a b x h (λ d. oa (subst Out (sym d) o)) (λ d. ob (subst Out (sym d) o)) (scans_now e ss s.ids) m f (t.out x h o));
        }
      where
        is : with_pair e ps a b m (model_of e ss s) ≡ model_of e ss (pair_moved e m a b s)
        is = pair_same n s t.stands t.room a b ha hb apart m f

    pub pair_tied :
        (a b : ℕ) → 0 < a → 0 < b → (a ≡ b → ⊥) → a < low → b < low → (Out a → ⊥) → (Out b → ⊥) → (close : List Bool) →
        (n : ℕ) (s : Progress) (q : Model) → Tied e ss Out low p (suc n) s q →
        Tied e ss Out low p n (pair_step_on e close a b s) (on_pair e.hall.config e.hall.first.0 ps q (record { a = a; b = b; cuts = map (λ (k : ℕ). e.hall.first.0 + k) (cuts_of close) }))
    unfolding pair_step_on on_pair
    pair_tied a b ha hb apart la lb oa ob close n s q t =
        subst (λ m. Tied e ss Out low p n (pair_moved e (pair_best e close a b s.ids) a b s) (with_pair e ps a b m q)) (sym best)
        (pair-moved-tied a b ha hb apart la lb oa ob (pair_best e close a b s.ids) (laws.fits close a b s.ids) n s q t)
      where
        best : best_of_pair e.hall.config e.hall.first.0 ps q.scans (record { a = a; b = b; cuts = map (λ (k : ℕ). e.hall.first.0 + k) (cuts_of close) }) ≡ pair_best e close a b s.ids
        best =
            ap (λ (q : Model). best_of_pair e.hall.config e.hall.first.0 ps q.scans (record { a = a; b = b; cuts = map (λ (k : ℕ). e.hall.first.0 + k) (cuts_of close) })) t.same
            ∙ laws.pair_best_lem s.tally.next_id.0 s.ids t.stands a b ha hb apart close

    track-moved-tied :
        (a : ℕ) → 0 < a → a < low → (Out a → ⊥) → ((x : ℕ) → Out x → x < low) → (m : Option TrackMove) →
        (n : ℕ) (s : Progress) (q : Model) → Tied e ss Out low p (suc n) s q → Tied e ss Out low p n (track_moved e m a s) (with_track e ps a m q)
    track-moved-tied a ha la oa below m n s q t =
        record {
          same = ap (with_track e ps a m) t.same ∙ is;
          stands = track-keeps n s t.stands t.room a ha (le_trans la t.from) m;
          from = by_track (λ s. low ≤ s.tally.next_id.0) e a s m t.from (λ m. le_trans t.from (next_from m s.tally.next_id.0));
          passes = by_track (λ s. s.tally.passes ≡ p) e a s m t.passes (λ m. t.passes);
          room = by_track (λ s. Room n s.tally.next_id.0 s.tally.counters) e a s m (room_next n s.tally t.room) (track-room n s.tally t.room);
          out =
              λ x h o.
              subst (Absent x) (ap (λ (q : Model). q.scans) is)
              (absent_track e.hall.config e.hall.first.0 ps a s.tally.next_id.0 x h (λ d. oa (subst Out (sym d) o)) (λ d. let u = below x o in let v = t.from in omega arith) (scans_now e ss s.ids) m (t.out x h o));
        }
      where
        is : with_track e ps a m (model_of e ss s) ≡ model_of e ss (track_moved e m a s)
        is = track-same n s t.stands t.room a ha m

    pub track_tied :
        (a : ℕ) → 0 < a → a < low → (Out a → ⊥) → ((x : ℕ) → Out x → x < low) → (n : ℕ) (s : Progress) (q : Model) →
        Tied e ss Out low p (suc n) s q → Tied e ss Out low p n (track_step_on e a s) (on_track e.hall.config e.hall.first.0 ps q a)
    unfolding track_step_on on_track
    track_tied a ha la oa below n s q t =
        subst (λ m. Tied e ss Out low p n (track_moved e (track_best e a s.ids) a s) (with_track e ps a m q)) (sym best)
        (track-moved-tied a ha la oa below (track_best e a s.ids) n s q t)
      where
        best : best_of_track e.hall.config e.hall.first.0 ps q.scans q.next_id a ≡ track_best e a s.ids
        best =
            ap (λ (q : Model). best_of_track e.hall.config e.hall.first.0 ps q.scans q.next_id a) t.same
            ∙ laws.track_best_lem s.tally.next_id.0 s.ids t.stands a ha (le_trans la t.from)

    -- who stands nowhere has no move
    pub absent_tied :
        (a : ℕ) → 0 < a → a < low → Out a → (n : ℕ) (s : Progress) (q : Model) → Tied e ss Out low p n s q → track_step_on e a s ≡ s
    unfolding track_step_on
    absent_tied a ha la o n s q t = ap (λ m. track_moved e m a s) (sym (laws.track_best_lem s.tally.next_id.0 s.ids t.stands a ha (le_trans la t.from)) ∙ absent_rests e.hall.config e.hall.first.0 ps a s.tally.next_id.0 (scans_now e ss s.ids) (t.out a ha o))
