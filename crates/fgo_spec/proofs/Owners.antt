-- The owner entries: distinct engine ids, live owners, few, and an engine id in a window is owned by the holder of its
-- latest detection.
-- Assumes nothing.
use Prim.Native.Nat.{ℕ, ◌≤◌, ◌<◌}
use native.Mathlib.Nat.{le_trans}
use native.Mathlib.Decide.{ℕ_discrete}
use mathlib.Core.Path.{◌≡◌, refl, sym, ap, ◌∙◌, subst}
use mathlib.Core.Bool.{Bool}
use mathlib.Core.List.{List, [], ◌∷◌, map, map-map}
use mathlib.Core.Option
use mathlib.Core.Option.{Option, none, some}
use lib.ListN.{length, length-map}
use lib.Dec.{T}
use lib.Ieee.Bits.{is_true}
use Rattle.bounds.specs.Bounds.{OWNED}
use Rattle.fgo_spec.specs.Lists.{has, times, find, is_some}
use Rattle.fgo_spec.specs.Windows.{Scan, Prefix, present, live}
use Rattle.fgo_spec.specs.Owning.{latest, live_owners, reown}
use Rattle.fgo_spec.specs.Rule.{All}
use Rattle.fgo_spec.proofs.All.{All-keep, mem_All}
use Rattle.fgo_spec.proofs.Counting.{or_right, count-le}
use Rattle.fgo_spec.proofs.Tables.{found_here, found_past, Distinct, keys_keep, only, find-keep}
use Rattle.fgo_spec.proofs.Ties.{TiedScan}
use Rattle.fgo_spec.proofs.Latest.{latest-any, latest_known, latest-present, tied_latest}
use Rattle.fgo_spec.proofs.Placement.{Has, has-entry}

pub record Owned (ps : List (ℕ × Prefix)) (ss : List Scan) (os : List (ℕ × ℕ)) : Type 0 where
  -- an association in a window has an engine id, and that has an entry
  pub tied : All (TiedScan (Has os)) ss
  pub owned : (e : ℕ) → 0 < latest e 0 ss → find e os ≡ some (latest e 0 ss)
  pub distinct : Distinct os
  pub alive : All (λ o. T (live ps ss o.1)) os
  pub few : length os ≤ OWNED

-- where each engine id in a window has its latest holder for owner, dead entries may go
pub owned_live :
    (K : ℕ → Type 0) (ps : List (ℕ × Prefix)) (ss : List Scan) (os : List (ℕ × ℕ)) → All (TiedScan K) ss → Distinct os → length os ≤ OWNED →
    ((e : ℕ) → 0 < latest e 0 ss → find e os ≡ some (latest e 0 ss)) → Owned ps ss (live_owners ps ss os)
owned_live K ps ss os t d n own =
    record {
      tied = tied_latest K (Has (live_owners ps ss os)) ss (λ e p. has-entry (live_owners ps ss os) e (kept e p)) t;
      owned = kept;
      distinct = λ e. le_trans (keys_keep test e os) (d e);
      alive = All-keep (λ o. T (test o)) test os (mem_All (λ o. T (test o) → T (test o)) os (λ o m k. k));
      few = le_trans (count-le test os) n;
    }
  where
    test : ℕ × ℕ → Bool
    test o = live ps ss o.1

    kept : (e : ℕ) → 0 < latest e 0 ss → find e (live_owners ps ss os) ≡ some (latest e 0 ss)
    kept e p =
        let x = latest e 0 ss in
        find-keep test e os d ∙ ap (only test e) (own e p) ∙ rw (is_true (live ps ss x) (or_right (is_some (find x ps)) (has x (present ss)) (latest-present e ss p)))

-- what is found after the values were worked over
pub find-map : (g : ℕ → ℕ → ℕ) (e : ℕ) (os : List (ℕ × ℕ)) → find e (map (λ o. (o.0, g o.0 o.1)) os) ≡ Option.map (g e) (find e os)
unfolding find
find-map g e [] = refl
find-map g e (o ∷ os) = go (ℕ_discrete e o.0) (find-map g e os)
  where
    os' : List (ℕ × ℕ)
    os' = map (λ o. (o.0, g o.0 o.1)) os

    go : Dec (e ≡ o.0) → find e os' ≡ Option.map (g e) (find e os) → find e ((o.0, g o.0 o.1) ∷ os') ≡ Option.map (g e) (find e (o ∷ os))
    go (yes q) r =
        found_here e (o.0, g o.0 o.1) os' q ∙ ap (λ k. some (g k o.1)) (sym q) ∙ ap (Option.map (g e)) (sym (found_here e o os q))
    go (no n) r = found_past e (o.0, g o.0 o.1) os' n ∙ r ∙ ap (Option.map (g e)) (sym (found_past e o os n))

pub distinct_map : (g : ℕ → ℕ → ℕ) (os : List (ℕ × ℕ)) → Distinct os → Distinct (map (λ o. (o.0, g o.0 o.1)) os)
distinct_map g os d e = subst (λ k. times e k ≤ 1) (sym (map-map (λ o. o.0) (λ o. (o.0, g o.0 o.1)) os)) (d e)

some_of : (o : Option ℕ) → T (is_some o) → (x : ℕ) × (o ≡ some x)
some_of none t = absurd t
some_of (some x) t = (x, refl)

-- after a search: "each engine id that has detections in windows goes to the track that holds its latest one"
pub owned_reown :
    (ps : List (ℕ × Prefix)) (ss : List Scan) (os : List (ℕ × ℕ)) → All (TiedScan (Has os)) ss → Distinct os → length os ≤ OWNED →
    Owned ps ss (reown ps ss os)
unfolding reown
owned_reown ps ss os t d n = owned_live (Has os) ps ss os' t (distinct_map (λ e y. latest e y ss) os d) (rw (length-map os new) n) own
  where
    new : ℕ × ℕ → ℕ × ℕ
    new o = (o.0, latest o.0 o.1 ss)

    os' : List (ℕ × ℕ)
    os' = map new os

    own : (e : ℕ) → 0 < latest e 0 ss → find e os' ≡ some (latest e 0 ss)
    own e p =
        let y = some_of (find e os) (latest_known (Has os) e ss t p) in
        find-map (λ e y. latest e y ss) e os ∙ ap (Option.map (λ y. latest e y ss)) y.1 ∙ ap some (latest-any e ss y.0 p)

-- after the oldest scan left
pub owned_leave : (ps qs : List (ℕ × Prefix)) (s : Scan) (ss : List Scan) (os : List (ℕ × ℕ)) → Owned ps (s ∷ ss) os → Owned qs ss (live_owners qs ss os)
owned_leave ps qs s ss os o = owned_live (Has os) qs ss os o.tied.1 o.distinct o.few own
  where
    own : (e : ℕ) → 0 < latest e 0 ss → find e os ≡ some (latest e 0 ss)
    own e p =
        let b : latest e 0 (s ∷ ss) ≡ latest e 0 ss = unfold latest in (latest-any e ss _ p) in
        o.owned e (subst (λ n. 0 < n) (sym b) p) ∙ ap some b
