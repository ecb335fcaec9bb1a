use Prim.Native.Nat.{ℕ, ◌+◌, ◌<◌}
use mathlib.Core.Path.{◌≡◌, refl, sym, ap, subst, ◌∙◌}
use mathlib.Core.List.{List, map, flat_map}
use lib.ListN.{length, take, replicate, length-replicate}
use Rattle.bounds.specs.Bounds.{ACCEPTED, DETECTIONS}
use Rattle.kf.specs.declared.filter.Dot.{Dot}
use Rattle.engine.specs.Body.{body_refusal}
use Rattle.fgo_spec.specs.Windows.{Scan}
use Rattle.fgo_spec.specs.Owning.{or_else, latest}
use Rattle.fgo_spec.specs.Rule.{ColumnRule}
use Rattle.fgo_spec.proofs.Ties.{TiedScan, loose_tied}
use Rattle.buffers.specs.Buffers.{over}
use Rattle.search_rows.specs.declared.moves.Tally.{Tally}
use Rattle.search.specs.Pass.{scene_of}
use Rattle.search.specs.Represents.{Represents, Finds}
use Rattle.fgo_state.specs.declared.state.FixedLagRefiner.{FixedLagRefiner}
use Rattle.fgo_part.specs.Parts.{table_in}
use Rattle.fgo_state.specs.declared.state.Memory.{Memory}
use Rattle.fgo_state.specs.Memory.{scan_in, scans_in, owner_words, owners_in}
use Rattle.fgo_state.specs.Contents.{ids_put}
use Rattle.fgo_state.specs.Gathering.{found_of, dots_of, latest_of, GatheredAll, StartsWithin, Scattered, held_latest}
use Rattle.fgo_arrive.specs.Arriving.{SearchesHeld, SearchedHeld, improved_in}
use Rattle.fgo_spec.proofs.Rows.{row_of}
use Rattle.fgo_state.proofs.HeldGathered.{starts_within, latest-held}
use Rattle.fgo_state.proofs.LatestGathered.{latest-taken}
use Rattle.fgo_freeze.proofs.Order.{ordered_rises}
use Rattle.fgo_arrive.proofs.SearchGathered.{starts_gathered, search_gathered, scans_put_back}
use Rattle.fgo_arrive.proofs.search_held.Goals as goal

-- what the search found, put back, and the owners told anew
searched_by :
    (r : FixedLagRefiner) (m : Memory) → SearchesHeld r m → (n : ℕ) (is es is' es' ts : List ℕ) (dots : List Dot) →
    GatheredAll m.scans.bodies m.scans.columns r.first.0 r.held n is es is' es' ts → length es ≡ DETECTIONS →
    (ids columns' owners' : List ℕ) (t : Tally) → length ids ≡ DETECTIONS →
    Finds (scene_of (record { config = r.config; first = r.first; detections = n; frozen = r.frozen }) ts dots m.parts.tracks m.parts.filters) r.next_id.0 r.counters
    (table_in m.parts.tracks m.parts.filters r.frozen) (scans_in m.scans.bodies m.scans.columns r.first.0 r.held) ids t →
    {held : ℕ} → held ≡ r.held → Scattered m.scans.bodies r.first.0 held ids m.scans.columns columns' →
    owners' ≡ over 0 (flat_map owner_words (held_latest ids (take n es') ts r.held (owners_in m.owners r.owned))) m.owners → SearchedHeld r m columns' owners' t
searched_by r m w n is es is' es' ts dots g es-long ids columns' owners' t long f {held} many put o =
    record {
      scans = found;
      bodies = λ i l. ap (body_refusal) (s.same i l) ∙ w.held.passes i l;
      columns_put = s.put ∙ ap (λ ss. ids_put r.first.0 ss m.scans.columns) (sym s.scans ∙ found);
      owners_put = o ∙ ap (λ (h : ℕ × ℕ → ℕ × ℕ). over 0 (flat_map owner_words (map h (owners_in m.owners r.owned))) m.owners) (λ z p. (p.0, same p.0 p.1 z));
      next_id = f.next_id;
      counters = f.counters;
    }
  where
    s : Scattered m.scans.bodies r.first.0 r.held ids m.scans.columns columns'
    s = subst (λ (k : ℕ). Scattered m.scans.bodies r.first.0 k ids m.scans.columns columns') many put

    found : scans_in m.scans.bodies columns' r.first.0 r.held ≡ (improved_in r m).search.scans
    found = scans_put_back m.scans.bodies m.scans.columns r.first.0 r.held n is es is' es' ts w.held g s ∙ sym f.scans

    scan : ℕ → Scan
    scan = scan_in m.scans.bodies m.scans.columns

    tied : (k : ℕ) → k < r.held → TiedScan (λ e. Unit {0}) (scan (r.first.0 + k))
    tied k l = loose_tied _ _ (row_of (ColumnRule r.next_id.0) scan r.first.0 r.held k w.columns l).loose

    within : StartsWithin ts r.held n
    within = starts_within m.scans.bodies m.scans.columns r.first.0 r.held n is es is' es' ts w.held g

    same : (e y : ℕ) → or_else (latest_of e ids (take n es') ts r.held) y ≡ latest e y (improved_in r m).search.scans
    same e y = ap (λ (x : ℕ). or_else x y) (latest-taken within e ids es') ∙ sym (ap (latest e y) f.scans ∙ latest-held m.scans.bodies m.scans.columns r.first.0 r.held n is es is' es' ts w.held g tied es-long e y ids long)

pub gather_dots-requires : goal.gather_dots-requires
gather_dots-requires c = let h = c.held_in.ensures in
    rw (h.0, h.1, h.2) c.requires.searches.held

pub invariant_of-starts : goal.invariant_of-starts
invariant_of-starts c = record { rise = starts_gathered _ _ _ _ _ _ _ _ _ _ c.requires.searches.held c.requires.gathered.all }

-- what the search is lent is what was gathered of the held scans
represents_held :
    (r : FixedLagRefiner) (m : Memory) → SearchesHeld r m → (n : ℕ) (es is' es' ts : List ℕ) (dots : List Dot) (z : Dot) →
    GatheredAll m.scans.bodies m.scans.columns r.first.0 r.held n (replicate DETECTIONS 0) es is' es' ts →
    dots ≡ over 0 (dots_of r.config (found_of m.scans.bodies m.scans.columns r.first.0 r.held)) (replicate DETECTIONS z) →
    Represents (scene_of (record { config = r.config; first = r.first; detections = n; frozen = r.frozen }) ts dots m.parts.tracks m.parts.filters) r.next_id.0 r.counters is'
    (table_in m.parts.tracks m.parts.filters r.frozen) (scans_in m.scans.bodies m.scans.columns r.first.0 r.held)
represents_held r m w n es is' es' ts dots z g d =
    search_gathered _ _ _ _ _ _ _ _ _ _ w.held g r.config _ _ (length-replicate DETECTIONS z) d r.next_id.0 r.counters m.parts.tracks m.parts.filters r.frozen w.settings (length-replicate {A = ℕ} DETECTIONS 0) w.begun w.columns w.spare

pub improve-t-requires : goal.improve-t-requires
improve-t-requires c = let f = c.args in
    let h = c.held_in.ensures in
    let g = c.requires.gathered.all in
    let d = rw (h.0, h.1, h.2) at c.gather_dots.ensures in
    (_, (_, represents_held f.r.now f.m.now c.requires.searches _ _ _ _ _ _ _ g d))

pub invariant_of-frozen-clause-rises : goal.invariant_of-frozen-clause-rises
invariant_of-frozen-clause-rises c =
    let a = c.args in
    ordered_rises ACCEPTED a.m.now.parts.tracks a.m.now.parts.filters a.r.now.frozen c.requires.searches.parts

pub returns-clause-found : goal.returns-clause-found
returns-clause-found c = let f = c.args in
    let w = c.requires.searches in
    let h = c.held_in.ensures in
    let g = c.requires.gathered.all in
    let d = rw (h.0, h.1, h.2) at c.gather_dots.ensures in
    let k = c.requires.gathered.as_many in
    let v = c.improve-t.ensures in
    searched_by f.r.now f.m.now w _ _ _ _ _ _ _ g refl _ _ _ _ v.long (v.found _ _ (represents_held f.r.now f.m.now w _ _ _ _ _ _ _ g d))
    k c.scatter.ensures (rw (k, c.of-index.ensures) at c.hold_latest.ensures)
