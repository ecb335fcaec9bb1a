-- Where no pass runs: dots of two engine ids never stand under one id, and those of one engine id stay together while
-- their track lives. Assumes nothing.
use Prim.Native.Nat.{ℕ, ◌≤◌, ◌<◌}
use native.Mathlib.Nat.{le_refl, le_trans, lt_irrefl, eq-zero-or-pos}
use native.Mathlib.Omega.{arith}
use mathlib.Core.Path.{◌≡◌, refl, sym, ap, ◌∙◌, subst}
use mathlib.Core.Logic.{◌⊎◌, inl, inr}
use mathlib.Core.Bool.{Bool, true, false, ◌&&◌, ◌||◌, true≢false}
use mathlib.Core.List.Memᴰ
use mathlib.Core.List.{List, [], ◌∷◌, ◌++◌, append-nil, append_assoc, append_cancel_left, head-eq_of_cons-eq, nil≢cons, map, map-append, flat_map, Memᴰ}
use mathlib.Core.Option
use mathlib.Core.Option.{Option, none, some, none-ne-some, some-injective, map-eq-some_iff}
use lib.ListN.{length}
use lib.Dec.{T, ltb}
use lib.Ieee.Bits.{is_true}
use borrow.Author.Tests.{eqb-true}
use Rattle.buffers.specs.Answer.{Op, pushed, taken, Reply, refusal_in}
use Rattle.buffers.specs.Run.{Run, begin, emitted_by, accepted_by, step, run_from}
use Rattle.buffers.proofs.Running.{run_snoc}
use Rattle.engine.specs.declared.config.FgoConfig.{FgoConfig}
use Rattle.engine.specs.declared.types.Association.{Association}
use Rattle.engine.specs.Config.{max_passes_of}
use Rattle.engine.specs.Frame.{Frame, Associated}
use Rattle.engine.specs.Body.{Body, frame_in}
use Rattle.fgo_spec.specs.Lists.{any, has, times, find, is_some}
use Rattle.fgo_spec.specs.Windows.{Scan, Prefix, present, live}
use Rattle.fgo_spec.specs.Placing.{Placing}
use Rattle.fgo_spec.specs.Searching.{Search, passes, improve}
use Rattle.fgo_spec.specs.Owning.{is_engine, holder_in, latest, live_owners, reown}
use Rattle.fgo_spec.specs.Freezing.{freeze_scan, kept, remember}
use Rattle.fgo_spec.specs.Emitting.{Emitted}
use Rattle.fgo_spec.specs.Refiner.{State, new, placed, with_scan, searched, arrive, emit, leave, push, takes, reply}
use Rattle.fgo_spec.specs.Rule.{All}
use Rattle.fgo_spec.specs.History.{run, scans_of, Stands, standing}
use Rattle.fgo_spec.specs.Following.{sighted, sighted_all, sightings, Unrepeated, Followed}
use Rattle.fgo_spec.proofs.All.{All-left, All-right, mem_All, foldl_keeps}
use Rattle.fgo_spec.proofs.Counting.{or_right, any_append, times_here, times_tail}
use Rattle.fgo_spec.proofs.Tables.{Distinct, only, only_some, find-keep, up_distinct}
use Rattle.fgo_spec.proofs.Presence.{present-has, stands_present, present_stands}
use Rattle.fgo_spec.proofs.Windows.{under_absent}
use Rattle.fgo_spec.proofs.Growing.{grown, freeze-all, freeze_up}
use Rattle.fgo_spec.proofs.Latest.{holder, Case, holder_cases, latest_is, latest_later}
use Rattle.fgo_spec.proofs.Owners.{find-map, distinct_map}
use Rattle.fgo_spec.proofs.Invariant.{Inv}
use Rattle.fgo_spec.proofs.Accepting.{inv_arrive}
use Rattle.fgo_spec.proofs.Doing.{Does, refuses, holds, leaves, Leads, stays, goes, leads, Passes, take_does, push_does}
use Rattle.fgo_spec.proofs.Giving.{arrives}
use Rattle.fgo_spec.proofs.Sighting.{Sees, Apart, apart_by, Follows, Placed, Kept, placed-all, kept-all}
use Rattle.fgo_spec.proofs.HistoryLaw.{Ran, ran_step, ran}
use Rattle.std.specs.Prelude.{None, Some}

-- ---- sightings of scans

pub sightings-append : (ss ts : List Scan) → sightings (ss ++ ts) ≡ sightings ss ++ sightings ts
unfolding sightings flat_map
sightings-append [] ts = refl
sightings-append (s ∷ ss) ts =
    ap (λ l. sighted_all s.frame.associations s.ids ++ l) (sightings-append ss ts) ∙ sym (append_assoc (sighted_all s.frame.associations s.ids) (sightings ss) (sightings ts))

sightings-one : (s : Scan) → sightings (s ∷ []) ≡ sighted_all s.frame.associations s.ids
unfolding sightings flat_map
sightings-one s = append-nil (sighted_all s.frame.associations s.ids)

-- a holder is sighted
holder_sighted : (e : ℕ) (l : List Association) (is : List ℕ) → 0 < holder_in e l is → Memᴰ (e, holder_in e l is) (sighted_all l is)
unfolding sighted_all
holder_sighted e [] is h = absurd (unfold holder_in in (omega arith))
holder_sighted e (a ∷ l) [] h = absurd (unfold holder_in in (omega arith))
holder_sighted e (a ∷ l) (i ∷ is) h = go (holder_cases e a l i is h) (holder_sighted e l is)
  where
    here : (o : Associated) → is_engine e o ≡ true → Memᴰ (e, i) (sighted o i)
    here None q = absurd (true≢false (sym q))
    here (Some k) q = Memᴰ.head (ap (λ n. (n, i)) (eqb-true e k.0 q))

    go : Case e a l i is → (0 < holder_in e l is → Memᴰ (e, holder_in e l is) (sighted_all l is)) → Memᴰ (e, holder_in e (a ∷ l) (i ∷ is)) (sighted a.track i ++ sighted_all l is)
    go (inl q) r = subst (λ x. Memᴰ (e, x) (sighted a.track i ++ sighted_all l is)) (sym q.2) (Memᴰ.append_left (sighted_all l is) (here a.track q.0))
    go (inr q) r = subst (λ x. Memᴰ (e, x) (sighted a.track i ++ sighted_all l is)) (sym q.1) (Memᴰ.append_right (sighted a.track i) (r q.0))

scan_sighted : (e x : ℕ) (ss : List Scan) {s : Scan} → Memᴰ s ss → Memᴰ (e, x) (sighted_all s.frame.associations s.ids) → Memᴰ (e, x) (sightings ss)
unfolding sightings flat_map
scan_sighted e x [] m k = absurd (Memᴰ.not-nil m)
scan_sighted e x (r ∷ ss) {s} m k = go (Memᴰ.cases_cons m) (λ w. scan_sighted e x ss w k)
  where
    go : (s ≡ r) ⊎ Memᴰ s ss → (Memᴰ s ss → Memᴰ (e, x) (sightings ss)) → Memᴰ (e, x) (sighted_all r.frame.associations r.ids ++ sightings ss)
    go (inl q) f = Memᴰ.append_left (sightings ss) (subst (λ s. Memᴰ (e, x) (sighted_all s.frame.associations s.ids)) q k)
    go (inr w) f = Memᴰ.append_right (sighted_all r.frame.associations r.ids) (f w)

-- one that is sighted stands in a scan
sighted_stands : (e x : ℕ) (l : List Association) (is : List ℕ) → Memᴰ (e, x) (sighted_all l is) → 0 < times x is
unfolding sighted_all
sighted_stands e x [] is m = absurd (Memᴰ.not-nil m)
sighted_stands e x (a ∷ l) [] m = absurd (Memᴰ.not-nil m)
sighted_stands e x (a ∷ l) (i ∷ is) m = go (Memᴰ.append_cases (sighted a.track i) m) (sighted_stands e x l is)
  where
    here : (o : Associated) → Memᴰ (e, x) (sighted o i) → x ≡ i
    here None m = absurd (Memᴰ.not-nil m)
    here (Some k) m = ap (λ p. p.1) (Memᴰ.eq_of_singleton m)

    go : Memᴰ (e, x) (sighted a.track i) ⊎ Memᴰ (e, x) (sighted_all l is) → (Memᴰ (e, x) (sighted_all l is) → 0 < times x is) → 0 < times x (i ∷ is)
    go (inl m) r = rw (times_here x i is (here a.track m)) (omega arith)
    go (inr m) r = le_trans (r m) (times_tail x i is)

sightings_stand : (e x : ℕ) (ss : List Scan) → Memᴰ (e, x) (sightings ss) → Stands x ss
unfolding sightings flat_map
sightings_stand e x [] m = absurd (Memᴰ.not-nil m)
sightings_stand e x (s ∷ ss) m = go (Memᴰ.append_cases (sighted_all s.frame.associations s.ids) m) (sightings_stand e x ss)
  where
    go : Memᴰ (e, x) (sighted_all s.frame.associations s.ids) ⊎ Memᴰ (e, x) (sightings ss) → (Memᴰ (e, x) (sightings ss) → Stands x ss) → Stands x (s ∷ ss)
    go (inl m) r = (s, Memᴰ.head refl, sighted_stands e x s.frame.associations s.ids m)
    go (inr m) r = let k = r m in (k.0, Memᴰ.tail k.1, k.2)

-- ---- tracks that live

-- with one scan more
live_snoc : (ps : List (ℕ × Prefix)) (ss : List Scan) (s : Scan) (x : ℕ) → T (live ps (ss ++ (s ∷ [])) x) → T (live ps ss x) ⊎ T (has x s.ids)
unfolding any
live_snoc ps ss s x t = go (is_some (find x ps)) (ltb 0 x) (any (λ r. has x r.ids) ss) (has x s.ids) refl refl refl refl (rw (present-has x (ss ++ (s ∷ [])), any_append (λ (r : Scan). has x r.ids) ss (s ∷ [])) at t)
  where
    go :
        (a b d e : Bool) → is_some (find x ps) ≡ a → ltb 0 x ≡ b → any (λ r. has x r.ids) ss ≡ d → has x s.ids ≡ e →
        T (a || (b && (d || (e || false)))) → T (live ps ss x) ⊎ T (has x s.ids)
    go true b d e p q r w t = inl (rw (p) tt)
    go false true true e p q r w t = inl (rw (p, present-has x ss, q, r) tt)
    go false true false true p q r w t = inr (rw w tt)
    go false true false false p q r w t = absurd t
    go false false d e p q r w t = absurd t

-- after the oldest scan has left, with the frozen parts that are kept
module _ (c : FgoConfig) (n : ℕ) (ps : List (ℕ × Prefix)) (s : Scan) (ss : List Scan) where
  abbrev later : List (ℕ × Prefix)
  later = remember c s.frame.time ss (freeze_scan c n s ps)

  frozen-before : (x : ℕ) (p : Prefix) → 0 < x → Distinct (freeze_scan c n s ps) → find x later ≡ some p → T (live ps (s ∷ ss) x)
  unfolding remember grown
  frozen-before x p h d e = go (find x ps) (eq-zero-or-pos (times x s.ids)) refl
    where
      f : find x (freeze_scan c n s ps) ≡ some p
      f = (only_some (kept c s.frame.time ss) x (find x (freeze_scan c n s ps)) (sym (find-keep (kept c s.frame.time ss) x (freeze_scan c n s ps) d) ∙ e)).0

      go : (o : Option Prefix) → (times x s.ids ≡ 0) ⊎ (0 < times x s.ids) → find x ps ≡ o → T (live ps (s ∷ ss) x)
      go (some q) z w = rw w tt
      go none (inl z) w =
          absurd
          (none-ne-some p
          (sym (freeze-all c n s.frame x h s.frame.associations s.ids ps ∙ (λ i. grown c (w i) (under_absent n s.frame x s.frame.associations s.ids z i))) ∙ f))
      go none (inr z) w = or_right (is_some (find x ps)) (has x (present (s ∷ ss))) (stands_present x (s ∷ ss) h (Memᴰ.head refl) z)

  live-before : (x : ℕ) → 0 < x → Distinct (freeze_scan c n s ps) → T (live later ss x) → T (live ps (s ∷ ss) x)
  live-before x h d t = go (find x later) refl t
    where
      go : (o : Option Prefix) → find x later ≡ o → T (is_some o || has x (present ss)) → T (live ps (s ∷ ss) x)
      go (some p) e t = frozen-before x p h d e
      go none e t =
          or_right (is_some (find x ps)) (has x (present (s ∷ ss)))
          (let r = present_stands x ss t in stands_present x (s ∷ ss) h (Memᴰ.tail r.1) r.2)

-- ---- owners, worked over

module _ (ps : List (ℕ × Prefix)) (ss : List Scan) (os : List (ℕ × ℕ)) (d : Distinct os) where
  alive : ℕ × ℕ → Bool
  alive o = live ps ss o.1

  live-find : (e x : ℕ) → find e (live_owners ps ss os) ≡ some x → find e os ≡ some x
  live-find e x q = (only_some (λ o. live ps ss o.1) e (find e os) (sym (find-keep (λ o. live ps ss o.1) e os d) ∙ q)).0

  live-stays : (e x : ℕ) → find e os ≡ some x → T (live ps ss x) → find e (live_owners ps ss os) ≡ some x
  live-stays e x q t = find-keep (λ o. live ps ss o.1) e os d ∙ ap (only (λ o. live ps ss o.1) e) q ∙ rw (is_true (live ps ss x) t)

module _ (ps : List (ℕ × Prefix)) (ss : List Scan) (os : List (ℕ × ℕ)) (d : Distinct os) where
  abbrev again : List (ℕ × ℕ)
  again = map (λ o. (o.0, latest o.0 o.1 ss)) os

  distinct-again : Distinct again
  distinct-again = distinct_map (λ e y. latest e y ss) os d

  -- whom it finds was seen
  reown-sees : (e x : ℕ) → 0 < x → find e (reown ps ss os) ≡ some x → Sees (sightings ss) os e x
  unfolding reown
  reown-sees e x h q =
      let r = (map-eq-some_iff (λ y. latest e y ss) (find e os)).0 (sym (find-map (λ e y. latest e y ss) e os) ∙ live-find ps ss again distinct-again e x q) in
      subst (Sees (sightings ss) os e) r.2
      (latest_is e (Sees (sightings ss) os e) ss
      (mem_All (λ s. 0 < holder e s → Sees (sightings ss) os e (holder e s)) ss (λ s m z. inl (scan_sighted e (holder e s) ss m (holder_sighted e s.frame.associations s.ids z))))
      r.0 (λ z. inr r.1) (subst (λ n. 0 < n) (sym r.2) h))

  -- an owner that lives, and under whom all dots of the engine id in the scans stand, stays
  reown-stays :
      (e x : ℕ) → 0 < x → find e os ≡ some x → T (live ps ss x) → ((i : ℕ) → 0 < i → Memᴰ (e, i) (sightings ss) → i ≡ x) → find e (reown ps ss os) ≡ some x
  unfolding reown
  reown-stays e x h q t f =
      live-stays ps ss again distinct-again e x
      (find-map (λ e y. latest e y ss) e os ∙ ap (Option.map (λ y. latest e y ss)) q
      ∙ ap some
      (latest_is e (λ z. z ≡ x) ss
      (mem_All (λ s. 0 < holder e s → holder e s ≡ x) ss (λ s m z. f (holder e s) z (scan_sighted e (holder e s) ss m (holder_sighted e s.frame.associations s.ids z))))
      x (λ z. refl) (latest_later e ss x h)))
      t

-- ---- along a run

-- of a state, with the frames accepted and emitted before it
pub record Tracks (acc : List Frame) (es : List Emitted) (t : State) : Type 0 where
  pub apart : Apart (sightings (scans_of es ++ t.scans)) t.owners t.next_id
  pub owners : All Unrepeated acc → Follows t.prefixes t.scans (sightings (scans_of es ++ t.scans)) t.owners

module _ (c : FgoConfig) (still : max_passes_of c ≡ 0) where
  -- no pass runs
  unsearched : (t : State) (f : Frame) → (searched c t f).search ≡ record { scans = with_scan t f; next_id = (placed t f).next_id; counters = t.counters; moved = true }
  unfolding improve passes
  unsearched t f =
      ap
      (λ n.
      (passes c t.first t.prefixes n 0 (record { scans = with_scan t f; next_id = (placed t f).next_id; counters = t.counters; moved = true }) true).search)
      still

  -- ---- a frame arrives

  module _ (es : List Emitted) (acc : List Frame) (t : State) (i : Inv c es acc t) (h : Tracks acc es t) (f : Frame) where
    abbrev S : List (ℕ × ℕ)
    S = sightings (scans_of es ++ t.scans)

    abbrev p : Placing
    p = placed t f

    abbrev s : Scan
    s = record { frame = f; ids = p.ids }

    abbrev new-ones : List (ℕ × ℕ)
    new-ones = sighted_all f.associations p.ids

    abbrev start : Placing
    start = record { ids = []; owners = t.owners; next_id = t.next_id }

    all_are : sightings (scans_of es ++ (t.scans ++ (s ∷ []))) ≡ S ++ new-ones
    all_are =
        ap sightings (sym (append_assoc (scans_of es) t.scans (s ∷ []))) ∙ sightings-append (scans_of es ++ t.scans) (s ∷ []) ∙ ap (λ l. S ++ l) (sightings-one s)

    held-are : (e x : ℕ) → Memᴰ (e, x) (sightings (t.scans ++ (s ∷ []))) → Memᴰ (e, x) (S ++ new-ones)
    held-are e x m =
        subst (Memᴰ (e, x)) (sym (sightings-append (scans_of es) (t.scans ++ (s ∷ []))) ∙ all_are) (Memᴰ.append_right (sightings (scans_of es)) m)

    begins : Placed t.prefixes t.scans S t.owners t.next_id i.begun [] start
    unfolding sighted_all any
    begins =
        record {
          complete = refl;
          low = le_refl t.next_id;
          apart = subst (λ l. Apart l t.owners t.next_id) (sym (append-nil S)) h.apart;
          from = λ x z k. absurd k;
        }

    ends : Placed t.prefixes t.scans S t.owners t.next_id i.begun f.associations p
    ends = placed-all t.prefixes t.scans S t.owners t.next_id i.begun [] f.associations start begins

    distinct : Distinct p.owners
    distinct = (arrives c es acc t i f).distinct

    apart-arrive : Apart (S ++ new-ones) (reown t.prefixes (t.scans ++ (s ∷ [])) p.owners) p.next_id
    apart-arrive =
        let ss = t.scans ++ (s ∷ []) in
        apart_by (S ++ new-ones) p.owners p.next_id (S ++ new-ones) (reown t.prefixes ss p.owners) p.next_id (le_refl p.next_id) back
        (le_trans i.begun ends.low) ends.apart
      where
        back : (e x : ℕ) → 0 < x → Sees (S ++ new-ones) (reown t.prefixes (t.scans ++ (s ∷ [])) p.owners) e x → Sees (S ++ new-ones) p.owners e x
        back e x z (inl m) = inl m
        back e x z (inr q) = go (reown-sees t.prefixes (t.scans ++ (s ∷ [])) p.owners distinct e x z q)
          where
            go : Sees (sightings (t.scans ++ (s ∷ []))) p.owners e x → Sees (S ++ new-ones) p.owners e x
            go (inl m) = inl (held-are e x m)
            go (inr q) = inr q

    module _ (once : All Unrepeated acc) (one : Unrepeated f) where
      kept-start : Kept t.prefixes t.scans S t.owners t.next_id i.begun [] start
      unfolding sighted_all
      kept-start =
          record {
            kept = λ e x m. absurd (Memᴰ.not-nil m);
            same = λ e z. refl;
            follow = λ e x y z m k w. absurd (Memᴰ.not-nil w);
            new = λ e y m. absurd (Memᴰ.not-nil m);
            still = h.owners once;
          }

      pub kept-end : Kept t.prefixes t.scans S t.owners t.next_id i.begun f.associations p
      kept-end = kept-all t.prefixes t.scans S t.owners t.next_id i.begun [] f.associations start begins kept-start one

      -- before owners are worked over
      placed-follows : Follows t.prefixes (t.scans ++ (s ∷ [])) (S ++ new-ones) p.owners
      placed-follows e x z m k = go (Memᴰ.append_cases S m)
        where
          old : Memᴰ (e, x) S → T (live t.prefixes t.scans x) ⊎ T (has x p.ids) → find e p.owners ≡ some x
          old m (inl k) = kept-end.still e x z m k
          old m (inr k) = came (kept-end.new r.0 x r.1)
            where
              r : (d : ℕ) × Memᴰ (d, x) new-ones
              r = ends.from x z k

              came : T (live t.prefixes t.scans x) ⊎ (t.next_id ≤ x) → find e p.owners ≡ some x
              came (inl k) = kept-end.still e x z m k
              came (inr n) = absurd (lt_irrefl x (le_trans (h.apart.below e x (inl m)) n))

          go : Memᴰ (e, x) S ⊎ Memᴰ (e, x) new-ones → find e p.owners ≡ some x
          go (inl m) = old m (live_snoc t.prefixes t.scans s x k)
          go (inr m) = kept-end.kept e x m

      follows-arrive : Follows t.prefixes (t.scans ++ (s ∷ [])) (S ++ new-ones) (reown t.prefixes (t.scans ++ (s ∷ [])) p.owners)
      follows-arrive e x z m k =
          let ss = t.scans ++ (s ∷ []) in
          let q = placed-follows e x z m k in
          reown-stays t.prefixes ss p.owners distinct e x z q k
          (λ y w n.
          let r = sightings_stand e y ss n in
          some-injective _ _
          (sym (placed-follows e y w (held-are e y n) (or_right (is_some (find y t.prefixes)) (has y (present ss)) (stands_present y ss w r.1 r.2))) ∙ q))

    tracks-arrive : Tracks (acc ++ (f ∷ [])) es (arrive c t f)
    unfolding arrive
    tracks-arrive =
        let u = unsearched t f in
        record {
          apart =
              subst (λ (r : Search). Apart (sightings (scans_of es ++ r.scans)) (reown t.prefixes r.scans p.owners) r.next_id) (sym u)
              (subst (λ l. Apart l (reown t.prefixes (t.scans ++ (s ∷ [])) p.owners) p.next_id) (sym all_are) apart-arrive);
          owners =
              λ o.
              subst (λ (r : Search). Follows t.prefixes r.scans (sightings (scans_of es ++ r.scans)) (reown t.prefixes r.scans p.owners)) (sym u)
              (subst (λ l. Follows t.prefixes (t.scans ++ (s ∷ [])) l (reown t.prefixes (t.scans ++ (s ∷ [])) p.owners)) (sym all_are)
              (follows-arrive (All-left Unrepeated acc (f ∷ []) o) (All-right Unrepeated acc (f ∷ []) o).0));
        }

  -- ---- the oldest scan leaves

  tracks-leave :
      (es : List Emitted) (acc : List Frame) (t : State) (s : Scan) (ss : List Scan) → t.scans ≡ s ∷ ss → Inv c es acc t → Tracks acc es t →
      Tracks acc (es ++ (emit c t.first t.prefixes s ∷ [])) (leave c t s ss)
  unfolding leave emit
  tracks-leave es acc t s ss q i h =
      record {
        apart =
            subst (λ l. Apart l os t.next_id) (sym same)
            (apart_by S t.owners t.next_id S os t.next_id (le_refl t.next_id) back i.begun h.apart);
        owners =
            λ o e x z m k.
            live-stays ps ss t.owners i.owners.distinct e x
            (h.owners o e x z (subst (Memᴰ (e, x)) same m)
            (subst (λ l. T (live t.prefixes l x)) (sym q) (live-before c t.first t.prefixes s ss x z froze-distinct k)))
            k;
      }
    where
      ps : List (ℕ × Prefix)
      ps = remember c s.frame.time ss (freeze_scan c t.first s t.prefixes)

      os : List (ℕ × ℕ)
      os = live_owners ps ss t.owners

      S : List (ℕ × ℕ)
      S = sightings (scans_of es ++ t.scans)

      same : sightings (scans_of (es ++ (emit c t.first t.prefixes s ∷ [])) ++ ss) ≡ S
      same =
          ap sightings
          (ap (λ l. l ++ ss) (map-append (λ e. e.scan) es (emit c t.first t.prefixes s ∷ [])) ∙ append_assoc (scans_of es) (s ∷ []) ss ∙ ap (λ l. scans_of es ++ l) (sym q))

      froze-distinct : Distinct (freeze_scan c t.first s t.prefixes)
      froze-distinct =
          up_distinct 0 (freeze_scan c t.first s t.prefixes) (freeze_up c t.first s.frame s.frame.associations s.ids t.prefixes i.rise)

      back : (e x : ℕ) → 0 < x → Sees S os e x → Sees S t.owners e x
      back e x z (inl m) = inl m
      back e x z (inr f) = inr (live-find ps ss t.owners i.owners.distinct e x f)

  -- ---- along a run

  abbrev After : List Emitted → Reply Emitted × State → List Frame → Type 0
  After es a acc = Tracks acc (es ++ emitted_by a.0) a.1

  tracks-step : (r : Run Frame Emitted State) (o : Op Body) → Ran c r → Tracks r.accepted r.emitted r.state → (let q = step frame_in (reply c) r o in Tracks q.accepted q.emitted q.state)
  unfolding step
  tracks-step r (pushed b) g h = go (push_does c t b)
    where
      t : State
      t = r.state

      f : Frame
      f = frame_in b

      u : State
      u = arrive c t f

      P : Reply Emitted × State → Type 0
      P a = After r.emitted a (r.accepted ++ accepted_by frame_in (pushed b) (refusal_in a.0))

      go : Does c t u (Passes c t b) (push c t b) → P (push c t b)
      go (refuses n q) = subst P (sym q) (rw (append-nil r.accepted, append-nil r.emitted) h)
      go (holds k l q) = subst P (sym q) (rw (append-nil r.emitted) (tracks-arrive r.emitted r.accepted t g.inv h f))
      go (leaves k s ss p q) =
          subst P (sym q)
          (tracks-leave r.emitted (r.accepted ++ (f ∷ [])) u s ss p (inv_arrive c r.emitted r.accepted t f k.1 g.inv) (tracks-arrive r.emitted r.accepted t g.inv h f))
  tracks-step r taken g h = go (take_does c r.state)
    where
      P : Reply Emitted × State → Type 0
      P a = After r.emitted a (r.accepted ++ [])

      go : Does c r.state r.state (Unit {0}) (takes c r.state) → P (takes c r.state)
      go (refuses n q) = subst P (sym q) (rw (append-nil r.accepted, append-nil r.emitted) h)
      go (holds k l q) = subst P (sym q) (rw (append-nil r.accepted, append-nil r.emitted) h)
      go (leaves k s ss p q) = subst P (sym q) (rw (append-nil r.accepted) (tracks-leave r.emitted r.accepted r.state s ss p g.inv h))

  tracks-new : Tracks [] [] new
  unfolding sightings flat_map find
  tracks-new =
      record {
        apart = record { apart = λ d e x z p q. absurd (nobody p); below = λ e x p. absurd (nobody p) };
        owners = λ o e x z m k. absurd (Memᴰ.not-nil m);
      }
    where
      nobody : {e x : ℕ} → Sees [] [] e x → ⊥
      nobody (inl m) = Memᴰ.not-nil m
      nobody (inr q) = none-ne-some _ q

  tracks : (ops : List (Op Body)) → (let r = run c ops in Tracks r.accepted r.emitted r.state)
  unfolding run_from
  tracks ops =
      (foldl_keeps (λ r. Ran c r × Tracks r.accepted r.emitted r.state) (λ o. Unit {0}) (step frame_in (reply c)) (λ r o i u. (ran_step c r o i.0, tracks-step r o i.0 i.1)) (begin new)
      ops (ran c [], tracks-new) (mem_All (λ o. Unit {0}) ops (λ o m. tt))).1

  -- ---- the theorem

  -- the scans after one more operation
  module _ (ops : List (Op Body)) where
    abbrev r : Run Frame Emitted State
    r = run c ops

    arrived-scans : (f : Frame) → scans_of r.emitted ++ (arrive c r.state f).scans ≡ standing c ops ++ (record { frame = f; ids = (placed r.state f).ids } ∷ [])
    unfolding arrive
    arrived-scans f =
        ap (λ (q : Search). scans_of r.emitted ++ q.scans) (unsearched r.state f)
        ∙ sym (append_assoc (scans_of r.emitted) r.state.scans (record { frame = f; ids = (placed r.state f).ids } ∷ []))

    after_is : (o : Op Body) → standing c (ops ++ (o ∷ [])) ≡ (let a = reply c r.state o in scans_of (r.emitted ++ emitted_by a.0) ++ a.1.scans)
    unfolding step
    after_is o = ap (λ (q : Run Frame Emitted State). scans_of q.emitted ++ q.state.scans) (run_snoc frame_in (reply c) new ops o)

    accepted-is : (o : Op Body) → (run c (ops ++ (o ∷ []))).accepted ≡ r.accepted ++ accepted_by frame_in o (refusal_in (reply c r.state o).0)
    unfolding step
    accepted-is o = ap (λ (q : Run Frame Emitted State). q.accepted) (run_snoc frame_in (reply c) new ops o)

    stay : (o : Op Body) → (more : List Scan) × (standing c (ops ++ (o ∷ [])) ≡ standing c ops ++ more) × (length more ≤ 1)
    stay taken = go (leads c r.emitted r.state r.state _ (takes c r.state) (take_does c r.state))
      where
        go : Leads c r.emitted r.state r.state (Unit {0}) (takes c r.state) → (more : List Scan) × (standing c (ops ++ (taken ∷ [])) ≡ standing c ops ++ more) × (length more ≤ 1)
        go (stays s e n q) = ([], after_is taken ∙ s ∙ sym (append-nil (standing c ops)), omega arith)
        go (goes k s e q) = ([], after_is taken ∙ s ∙ sym (append-nil (standing c ops)), omega arith)
    stay (pushed b) = go (leads c r.emitted r.state _ _ (push c r.state b) (push_does c r.state b))
      where
        go :
            Leads c r.emitted r.state (arrive c r.state (frame_in b)) (Passes c r.state b) (push c r.state b) →
            (more : List Scan) × (standing c (ops ++ (pushed b ∷ [])) ≡ standing c ops ++ more) × (length more ≤ 1)
        go (stays s e n q) = ([], after_is (pushed b) ∙ s ∙ sym (append-nil (standing c ops)), omega arith)
        go (goes k s e q) = (record { frame = frame_in b; ids = (placed r.state (frame_in b)).ids } ∷ [], after_is (pushed b) ∙ s ∙ arrived-scans (frame_in b), omega arith)

    together :
        (b : Body) (s : Scan) → standing c (ops ++ (pushed b ∷ [])) ≡ standing c ops ++ (s ∷ []) → All Unrepeated (run c (ops ++ (pushed b ∷ []))).accepted →
        (e x y : ℕ) → 0 < x → Memᴰ (e, x) (sightings (standing c ops)) → T (live r.state.prefixes r.state.scans x) →
        Memᴰ (e, y) (sightings (s ∷ [])) → y ≡ x
    together b s w o e x y z m k n = go (leads c r.emitted r.state _ _ (push c r.state b) (push_does c r.state b))
      where
        f : Frame
        f = frame_in b

        go : Leads c r.emitted r.state (arrive c r.state f) (Passes c r.state b) (push c r.state b) → y ≡ x
        go (stays v q p j) = absurd (nil≢cons (append_cancel_left (standing c ops) [] (s ∷ []) (append-nil (standing c ops) ∙ sym v ∙ sym (after_is (pushed b)) ∙ w)))
        go (goes l v q j) =
            let same : record { frame = f; ids = (placed r.state f).ids } ≡ s =
            head-eq_of_cons-eq
            (append_cancel_left (standing c ops) (record { frame = f; ids = (placed r.state f).ids } ∷ []) (s ∷ []) (sym (after_is (pushed b) ∙ v ∙ arrived-scans f) ∙ w)) in
            let u : All Unrepeated (r.accepted ++ (f ∷ [])) =
            subst (All Unrepeated) (accepted-is (pushed b) ∙ ap (λ d. r.accepted ++ accepted_by frame_in (pushed b) d) j) o in
            (kept-end r.emitted r.accepted r.state (ran c ops).inv (tracks ops) f (All-left Unrepeated r.accepted (f ∷ []) u) (All-right Unrepeated r.accepted (f ∷ []) u).0
            ).follow e x y z m k
            (subst (Memᴰ (e, y)) (sightings-one (record { frame = f; ids = (placed r.state f).ids })) (subst (λ s. Memᴰ (e, y) (sightings (s ∷ []))) (sym same) n))

  pub followed : (ops : List (Op Body)) → Followed c ops
  followed ops =
      record { apart = λ d e x z p q. (tracks ops).apart.apart d e x z (inl p) (inl q); stay = stay ops; together = together ops }
