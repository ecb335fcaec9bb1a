-- The test of the owners on the gathered lists is the rule's. Assumes nothing.
use Prim.Native.Nat.{ℕ, zero, suc, ◌+◌, ◌<◌}
use native.Mathlib.Nat.{zero-add}
use native.Mathlib.Omega.{arith}
use mathlib.Core.Path.{◌≡◌, refl, sym, ap, ◌∙◌}
use mathlib.Core.Bool.{Bool, true, ◌&&◌, ◌||◌, not}
use mathlib.Core.List.{List, [], ◌∷◌, map-append}
use mathlib.Core.Option.{Option, none, some}
use lib.ListN.{length, get_or, take, drop, length-map}
use lib.Seq.{take_at}
use lib.Dec.{eqb}
use borrow.Author.Tests.{ne_eqb}
use Rattle.bounds.specs.Bounds.{DETECTIONS}
use Rattle.engine.specs.declared.types.Association.{Association}
use Rattle.engine.specs.Frame.{Frame, engine_of, Associated}
use Rattle.engine.proofs.Every.{all-at}
use Rattle.fgo_spec.specs.Lists.{find}
use Rattle.fgo_spec.specs.Windows.{Scan}
use Rattle.fgo_spec.specs.Owning.{latest}
use Rattle.fgo_spec.specs.Rule as rules
use Rattle.fgo_spec.specs.Rule.{All, all_of, owner_is, owned_by}
use Rattle.fgo_spec.proofs.Ties.{Engine, Tied, TiedScan}
use Rattle.fgo_spec.proofs.Latest.{tied_latest}
use Rattle.buffers.specs.Buffers.{over}
use Rattle.fgo_state.specs.Memory.{scan_in, scans_in, owners_in, or_none}
use Rattle.fgo_state.specs.Gathering.{gathered_in, gathered_of, gathered, engines_of, found_of, latest_of, GatheredAll}
use Rattle.fgo_rule.specs.Tests.{columns_ok, last_at, owned_at, owned_all, owned_in, Owning}
use Rattle.fgo_spec.proofs.Rows.{rows_all}
use Rattle.fgo_rule.proofs.AllOf.{all_same, all_of-append}
use Rattle.fgo_rule.proofs.LastPlace.{all_lasts}
use Rattle.fgo_rule.proofs.Scans.{tied_column}
use Rattle.fgo_state.proofs.HeldGathered.{starts_within, latest_same}
use Rattle.fgo_state.proofs.LatestGathered.{latest-taken}
use Rattle.std.specs.Prelude.{None, Some}

module _ (os : List (ℕ × ℕ)) (ss : List Scan) where
  -- an engine id is owned by the holder of its latest
  abbrev owned : ℕ → Bool
  owned e = eqb (or_none (find e os)) (latest e 0 ss)

  -- it has a latest one
  abbrev Late : ℕ → Type 0
  Late e = 0 < latest e 0 ss

  owner-test : (o : Option ℕ) (x : ℕ) → 0 < x → eqb (or_none o) x ≡ owner_is o x
  owner-test none x h = ne_eqb 0 x (λ z. omega arith)
  owner-test (some y) x h = refl

  in_window : (o : Associated) (i : ℕ) → Engine Late o → owned (engine_of o) ≡ owned_by os ss o (suc i)
  in_window None i h = absurd h
  in_window (Some e) i h = owner-test (find e.0 os) (latest e.0 0 ss) h

  in-clutter : (o : Associated) → owned_by os ss o 0 ≡ true
  in-clutter None = refl
  in-clutter (Some e) = refl

  scan-owned : (n : ℕ) (f : Frame) (l : List Association) (is : List ℕ) → Tied Late l is → all_of owned (engines_of (gathered_in n f l is)) ≡ rules.owned_ok os ss l is
  unfolding gathered_in rules.owned_ok Tied
  scan-owned n f [] is h = refl
  scan-owned n f (a ∷ l) [] h = refl
  scan-owned n f (a ∷ l) (zero ∷ is) h = scan-owned n f l is h.1 ∙ sym (ap (λ b. b && rules.owned_ok os ss l is) (in-clutter a.track))
  scan-owned n f (a ∷ l) (suc i ∷ is) h =
      ap (λ b. b && all_of owned (engines_of (gathered_in n f l is))) (in_window a.track i (h.0 (omega arith)))
      ∙ ap (λ b. owned_by os ss a.track (suc i) && b) (scan-owned n f l is h.1)

  scans-owned :
      (n : ℕ) (ts : List Scan) → All (TiedScan Late) ts →
      all_of owned (engines_of (gathered n ts)) ≡ all_of (λ s. rules.owned_ok os ss s.frame.associations s.ids) ts
  unfolding gathered
  scans-owned n [] h = refl
  scans-owned n (s ∷ ts) h =
      ap (all_of owned) (map-append (λ g. g.engine) (gathered_of n s) (gathered (suc n) ts))
      ∙ all_of-append owned (engines_of (gathered_of n s)) (engines_of (gathered (suc n) ts))
      ∙ ap (λ b. b && all_of owned (engines_of (gathered (suc n) ts))) (scan-owned n s.frame s.frame.associations s.ids h.0)
      ∙ ap (λ b. rules.owned_ok os ss s.frame.associations s.ids && b) (scans-owned (suc n) ts h.1)

column-at : (next : ℕ) (bodies columns : List ℕ) (first held : ℕ) → columns_ok next bodies columns first held ≡ true → (k : ℕ) → k < held → TiedScan (λ e. Unit {0}) (scan_in bodies columns (first + k))
unfolding columns_ok
column-at next bodies columns first held h k l = tied_column next bodies columns (first + k) (all-at _ held k h l)

module _ (bodies columns owners : List ℕ) (first held entries n : ℕ) (is es is' es' ts' : List ℕ) (h : Owning bodies columns first held) (g : GatheredAll bodies columns first held n is es is' es' ts') (v : length is ≡ DETECTIONS) (w : length es ≡ DETECTIONS) where
  abbrev ss : List Scan
  ss = scans_in bodies columns first held

  abbrev found : List ℕ
  found = engines_of (found_of bodies columns first held)

  tied : (k : ℕ) → k < held → TiedScan (λ e. Unit {0}) (scan_in bodies columns (first + k))
  tied = column-at h.ordered.0 bodies columns first held h.ordered.1

  tied-all : All (TiedScan (λ e. Unit {0})) ss
  tied-all = rows_all (TiedScan (λ e. Unit {0})) (scan_in bodies columns) first held tied

  engines_taken : take n es' ≡ found
  unfolding over
  engines_taken =
      let m : length found ≡ n = length-map (found_of bodies columns first held) (λ x. x.engine) ∙ sym (zero-add _) ∙ sym g.scans.count in
      ap (take n) g.scans.engines ∙ take_at found (drop (0 + length found) es) n m

  latest-found : (e : ℕ) → latest_of e is' found ts' held ≡ latest e 0 ss
  latest-found e =
      ap (λ (xs : List ℕ). latest_of e is' xs ts' held) (sym engines_taken)
      ∙ latest-taken (starts_within bodies columns first held n is es is' es' ts' h.scans g) e is' es'
      ∙ latest_same bodies columns first held n is es is' es' ts' h.scans g tied v w e

  -- by the engine ids that were gathered
  pub owned_gathered : owned_all is' (take n es') ts' held owners entries ≡ owned_in bodies columns first held owners entries
  unfolding owned_all owned_at owned_in
  owned_gathered =
      ap (λ (xs : List ℕ). owned_all is' xs ts' held owners entries) engines_taken
      ∙ all_same (owned_at is' found ts' held owners entries) (λ i. not (last_at found i) || owned (owners_in owners entries) ss (get_or found i 0)) (length found)
      (λ i l. ap (λ (x : ℕ). not (last_at found i) || eqb (or_none (find (get_or found i 0) (owners_in owners entries))) x) (latest-found (get_or found i 0)))
      ∙ all_lasts (owned (owners_in owners entries) ss) found
      ∙ scans-owned (owners_in owners entries) ss first ss (tied_latest (λ e. Unit {0}) (Late (owners_in owners entries) ss) ss (λ e p. p) tied-all)
