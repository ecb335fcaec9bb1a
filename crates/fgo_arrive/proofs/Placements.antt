-- Placing by the lent owner table is placing as defined, by the state rule and the refusals 8, 9 and 10. Assumes
-- nothing.
use Prim.Native.Nat.{ℕ, suc, ◌≤◌, ◌<◌}
use native.Mathlib.Nat.{le_refl, le_trans}
use native.Mathlib.Numerals.{add-one}
use native.Mathlib.Omega.{arith}
use mathlib.Core.Path.{◌≡◌, refl, sym, ap, ◌∙◌}
use mathlib.Core.Bool.{Bool, true, false, cond, ◌&&◌, not}
use mathlib.Core.List.{List, [], ◌∷◌, ◌++◌}
use mathlib.Core.Option.{Option, none, some}
use lib.ListN.{length}
use lib.Dec.{T, ltb, eqb, not_T}
use lib.Ieee.Bits.{is_true, is_false}
use borrow.Author.Tests.{lt-ltb, le-ltb, le-leb}
use Rattle.bounds.specs.Bounds.{OWNED}
use Rattle.engine.specs.declared.config.FgoConfig.{FgoConfig}
use Rattle.engine.specs.declared.types.Association.{Association}
use Rattle.engine.specs.Frame.{Frame, Associated}
use Rattle.fgo_spec.specs.Lists.{has, find, assign}
use Rattle.fgo_spec.specs.Windows.{Scan, Prefix, live}
use Rattle.fgo_spec.specs.Placing as spec
use Rattle.fgo_spec.specs.Placing.{free_owner, place_track, place_one, place}
use Rattle.fgo_spec.specs.Refiner.{State, placed}
use Rattle.fgo_spec.specs.Rule.{All, Rise, ColumnRule, Rule}
use Rattle.fgo_spec.proofs.All.{All_weaken, All_mem}
use Rattle.fgo_spec.proofs.Tables.{find_mem}
use Rattle.fgo_spec.proofs.Presence.{Names, live_is}
use Rattle.fgo_spec.proofs.Ties.{TiedScan, loose_tied}
use Rattle.fgo_spec.proofs.Latest.{tied_latest}
use Rattle.fgo_spec.proofs.Placement.{Has, has-entry}
use Rattle.fgo_spec.proofs.Arrival.{Column, Before, arrived}
use Rattle.fgo_spec.proofs.Accepting.{Room}
use Rattle.fgo_state.specs.Memory.{or_none}
use Rattle.fgo_place.specs.Placing.{assigned_in, free_below, placed_track, placed_one, placed_all}
use Rattle.std.specs.Prelude.{None, Some}

-- ---- an owner that is free, by number or as an option

abbrev Agrees : ℕ → Option ℕ → Type 0
Agrees x none = ltb 0 x ≡ false
Agrees x (some y) = (x ≡ y) × (ltb 0 x ≡ true)

-- every entry of the table stays
assign_longer : (e x : ℕ) (os : List (ℕ × ℕ)) → length os ≤ length (assign e x os)
unfolding assign
assign_longer e x [] = omega arith
assign_longer e x (o ∷ os) = go (eqb e o.0) (assign_longer e x os)
  where
    go : (b : Bool) → length os ≤ length (assign e x os) → suc (length os) ≤ length (cond b ((e, x) ∷ os) (o ∷ assign e x os))
    go true h = le_refl _
    go false h = omega arith

assign-All : (P : ℕ × ℕ → Type 0) (e x : ℕ) (os : List (ℕ × ℕ)) → P (e, x) → All P os → All P (assign e x os)
unfolding assign
assign-All P e x [] h k = (h, tt)
assign-All P e x (o ∷ os) h k = go (eqb e o.0) (assign-All P e x os h k.1)
  where
    go : (b : Bool) → All P (assign e x os) → All P (cond b ((e, x) ∷ os) (o ∷ assign e x os))
    go true r = (h, k.1)
    go false r = (k.0, r)

module _ (p : spec.Placing) (e : ℕ) where
  track-same : (x : ℕ) (o : Option ℕ) → Agrees x o → length (place_track p e o).owners ≤ OWNED → placed_track p e x ≡ place_track p e o
  track-same x none a h = rw a (λ i. record { ids = p.ids ++ (p.next_id ∷ []); owners = q i; next_id = add-one p.next_id i })
    where
      q : assigned_in e p.next_id p.owners ≡ assign e p.next_id p.owners
      q = rw (le-leb (length (assign e p.next_id p.owners)) OWNED h)
  track-same x (some y) a h = rw a.1 (λ i. record { ids = p.ids ++ (a.0 i ∷ []); owners = p.owners; next_id = p.next_id })

  track-longer : (o : Option ℕ) → length p.owners ≤ length (place_track p e o).owners
  track-longer none = assign_longer e p.next_id p.owners
  track-longer (some x) = le_refl _

-- ---- tracks that were there before the push have ids below old

module _ (old : ℕ) (ps : List (ℕ × Prefix)) (ss : List Scan) where
  -- an owner is live just where it is above 0 and below old
  abbrev LiveBelow : ℕ × ℕ → Type 0
  LiveBelow o = live ps ss o.1 ≡ (ltb 0 o.1 && ltb o.1 old)

  -- so far
  record Telling (p : spec.Placing) : Type 0 where
    low : old ≤ p.next_id
    told : All LiveBelow p.owners

  agree : (is : List ℕ) (x : ℕ) → live ps ss x ≡ (ltb 0 x && ltb x old) → Agrees (free_below old is x) (free_owner ps ss is (some x))
  agree is x l = go (ltb 0 x) (ltb x old) (has x is) refl refl refl
    where
      go : (a b d : Bool) → ltb 0 x ≡ a → ltb x old ≡ b → has x is ≡ d → Agrees (free_below old is x) (free_owner ps ss is (some x))
      go true true true u v w = simp (l, u, v, w)
      go true true false u v w = simp (l, u, v, w) (refl, refl)
      go true false true u v w = simp (l, u, v, w)
      go true false false u v w = simp (l, u, v, w)
      go false true true u v w = simp (l, u, v, w)
      go false true false u v w = simp (l, u, v, w)
      go false false true u v w = simp (l, u, v, w)
      go false false false u v w = simp (l, u, v, w)

  agrees : (is : List ℕ) (os : List (ℕ × ℕ)) (e : ℕ) → All LiveBelow os → Agrees (free_below old is (or_none (find e os))) (free_owner ps ss is (find e os))
  agrees is os e h = go (find e os) refl
    where
      zero_is : (b : Bool) → ltb 0 (cond b 0 0) ≡ false
      zero_is true = refl
      zero_is false = refl

      go : (o : Option ℕ) → find e os ≡ o → Agrees (free_below old is (or_none o)) (free_owner ps ss is o)
      go none q = zero_is (ltb 0 old && not (has 0 is))
      go (some x) q = agree is x (All_mem LiveBelow os h (find_mem e os q))

  module _ (unborn : (x : ℕ) → old ≤ x → live ps ss x ≡ false) where
    born : (e n : ℕ) → old ≤ n → LiveBelow (e, n)
    born e n h = unborn n h ∙ sym (go (ltb 0 n) (le-ltb n old h))
      where
        go : (a : Bool) {b : Bool} → b ≡ false → (a && b) ≡ false
        go true q = q
        go false q = refl

    track-telling : (p : spec.Placing) (e : ℕ) (o : Option ℕ) → Telling p → Telling (place_track p e o)
    track-telling p e none h = record { low = le_trans h.low (omega arith); told = assign-All LiveBelow e p.next_id p.owners (born e p.next_id h.low) h.told }
    track-telling p e (some x) h = record { low = h.low; told = h.told }

    one-telling : (p : spec.Placing) (t : Associated) → Telling p → Telling (place_one ps ss p t)
    one-telling p None h = record { low = h.low; told = h.told }
    one-telling p (Some e) h = track-telling p e.0 (free_owner ps ss p.ids (find e.0 p.owners)) h

    one_same : (p : spec.Placing) (t : Associated) → Telling p → length (place_one ps ss p t).owners ≤ OWNED → placed_one old p t ≡ place_one ps ss p t
    one_same p None h l = refl
    one_same p (Some e) h l = track-same p e.0 (free_below old p.ids (or_none (find e.0 p.owners))) (free_owner ps ss p.ids (find e.0 p.owners)) (agrees p.ids p.owners e.0 h.told) l

    one-longer : (p : spec.Placing) (t : Associated) → length p.owners ≤ length (place_one ps ss p t).owners
    one-longer p None = le_refl _
    one-longer p (Some e) = track-longer p e.0 (free_owner ps ss p.ids (find e.0 p.owners))

    longer : (l : List Association) (p : spec.Placing) → length p.owners ≤ length (place ps ss l p).owners
    unfolding place
    longer [] p = le_refl _
    longer (a ∷ l) p = le_trans (one-longer p a.track) (longer l (place_one ps ss p a.track))

    all_same : (l : List Association) (p : spec.Placing) → Telling p → length (place ps ss l p).owners ≤ OWNED → placed_all old l p ≡ place ps ss l p
    unfolding place placed_all
    all_same [] p h n = refl
    all_same (a ∷ l) p h n =
        ap (placed_all old l) (one_same p a.track h (le_trans (longer l (place_one ps ss p a.track)) n))
        ∙ all_same l (place_one ps ss p a.track) (one-telling p a.track h) n

-- ---- a state that meets the rule

rise_all : (first next k : ℕ) (ps : List (ℕ × Prefix)) → Rise first next k ps → All (λ e. (0 < e.0) × (e.0 < next)) ps
rise_all first next k [] h = tt
rise_all first next k (e ∷ ps) h = ((omega (arith, h.0), h.1), rise_all first next e.0 ps h.3)

module _ (c : FgoConfig) (t : State) (f : Frame) (rule : Rule c t) where
  -- a live track has an id above 0 and below the next
  live_below : (x : ℕ) → T (live t.prefixes t.scans x) → (0 < x) × (x < t.next_id)
  live_below =
      live_is (λ x. x < t.next_id) t.prefixes t.scans
      (λ x p q. All_mem (λ e. (0 < e.0) × (e.0 < t.next_id)) t.prefixes (rise_all t.first t.next_id 0 t.prefixes rule.prefixes) (find_mem x t.prefixes q))
      (All_weaken (ColumnRule t.next_id) (Names (λ x. x < t.next_id)) t.scans (λ s h. h.known) rule.columns)

  telling : Telling t.next_id t.prefixes t.scans (record { ids = []; owners = t.owners; next_id = t.next_id })
  telling =
      record {
        low = le_refl t.next_id;
        told =
            All_weaken (λ o. T (live t.prefixes t.scans o.1)) (LiveBelow t.next_id t.prefixes t.scans) t.owners
            (λ o h. let b = live_below o.1 h in is_true _ h ∙ sym (rw (lt-ltb 0 o.1 b.0, lt-ltb o.1 t.next_id b.1)))
            rule.alive;
      }

  -- what the ids and the entries were
  pub before : Before c t f (λ x. x < t.next_id)
  before =
      record {
        begun = rule.begun;
        below = λ x h. h;
        alive = λ x h. (live_below x h).1;
        columns =
            All_weaken (ColumnRule t.next_id) (Column (λ x. x < t.next_id)) t.scans
            (λ s h. record { regular = record { complete = h.complete; apart = h.apart }; named = h.known }) rule.columns;
        tied =
            tied_latest (λ e. Unit {0}) (Has t.owners) t.scans (λ e h. has-entry t.owners e (rule.owned e h))
            (All_weaken (ColumnRule t.next_id) (TiedScan (λ e. Unit {0})) t.scans (λ s h. loose_tied s.frame.associations s.ids h.loose) rule.columns);
        distinct = rule.distinct;
      }

  -- no more owners than there is room for
  pub owners_fit : Room t f → length (placed t f).owners ≤ OWNED
  owners_fit room = le_trans (arrived c t f (λ x. x < t.next_id) before).entries room.entries

  pub places : Room t f → placed_all t.next_id f.associations (record { ids = []; owners = t.owners; next_id = t.next_id }) ≡ placed t f
  places room =
      all_same t.next_id t.prefixes t.scans unborn f.associations
      (record { ids = []; owners = t.owners; next_id = t.next_id }) telling (owners_fit room)
    where
      unborn : (x : ℕ) → t.next_id ≤ x → live t.prefixes t.scans x ≡ false
      unborn x h = is_false (live t.prefixes t.scans x) (not_T (live t.prefixes t.scans x) (λ k. omega (arith, (live_below x k).1)))
