use Prim.Native.Nat.{ℕ, zero, suc, ◌+◌}
use native.Mathlib.Numerals.{add-one}
use native.Mathlib.Omega.{arith}
use mathlib.Core.Path.{◌≡◌, refl, sym, ap, ◌∙◌}
use mathlib.Core.List.{List, map, flat_map}
use Rattle.std.proofs.Common.{rules, tests}
use Rattle.std.specs.List.{range_with_len, sum}
use Rattle.std.proofs.lemmas.Iterator.{YieldsList-from_range, YieldsList-from_map}
use Rattle.std.proofs.lemmas.Iterator.Consumers.{sum_from_yields_List, fits_from_yields_list}
use Rattle.std.proofs.lemmas.List.FromFn.{sum_by-map-range_with_len_more}
use Rattle.engine.specs.Body.{rows, associations_in}
use Rattle.fgo_spec.specs.Lists.{keep}
use Rattle.fgo_spec.specs.Windows.{window_count}
use Rattle.fgo_state.specs.Memory.{body_at, scans_in}
use Rattle.fgo_state.specs.Gathering.{count_in}
use Rattle.fgo_state.proofs.Detections.{found_more, found_few}
use Rattle.fgo_state.proofs.held.HeldRef.window_count.Goals as goal

module _ (bodies columns : List ℕ) (first : ℕ) where
  -- what lies in windows of the scan i after the first
  abbrev in_scan : ℕ → ℕ
  in_scan i = count_in columns (first + i) (associations_in (body_at bodies columns (first + i)))

  counted : (n : ℕ) → sum (map in_scan (range_with_len 0 n)) ≡ window_count (scans_in bodies columns first n)
  unfolding rows keep flat_map
  counted zero = refl
  counted (suc n) =
      ap (λ (k : ℕ). sum (map in_scan (range_with_len 0 k))) (sym (add-one n))
      ∙ sum_by-map-range_with_len_more (λ x. x) in_scan 0 n n (omega arith)
      ∙ ap (λ (k : ℕ). k + in_scan n) (counted n)
      ∙ sym (found_more bodies columns first n)
      ∙ ap (λ (k : ℕ). window_count (scans_in bodies columns first k)) (add-one n)

pub sum-requires-clause-fits : goal.sum-requires-clause-fits
sum-requires-clause-fits c =
    let a = c.args.self.now in
    let h = in_scan a.scans.now.bodies a.scans.now.columns a.first.0 in
    fits_from_yields_list _ _
    (YieldsList-from_map _ h (YieldsList-from_range 0 a.count a.count c.map.ensures.source (omega arith)) c.map.ensures.closure (λ i t q k. search (rules, tests)))
    (omega (arith, counted a.scans.now.bodies a.scans.now.columns a.first.0 a.count, found_few a.scans.now.bodies a.scans.now.columns a.first.0 a.count))

pub returns : goal.returns
returns c =
    let a = c.args.self.now in
    let h = in_scan a.scans.now.bodies a.scans.now.columns a.first.0 in
    sum_from_yields_List _ c.sum.result c.sum.ensures.ran
    (YieldsList-from_map _ h (YieldsList-from_range 0 a.count a.count c.map.ensures.source (omega arith)) c.map.ensures.closure (λ i t q k. search (rules, tests)))
    ∙ counted a.scans.now.bodies a.scans.now.columns a.first.0 a.count
