use borrow.Author.Tests.{ltb-true, lt-ltb, le-ltb}
use Rattle.std.specs.Prelude.{Option}
use Rattle.cost.specs.Cost.{view_in}
use mathlib.Core.Path.{◌≡◌, sym, ap, ◌∙◌}
use mathlib.Core.Bool.{Bool, true, cond}
use mathlib.Core.List.{List, foldl}
use Prim.Native.Nat.{ℕ, suc, ◌+◌, ◌≤◌, ◌<◌}
use native.Mathlib.Decide.{dec_lt}
use native.Mathlib.Omega.{arith}
use lib.ListN.{length, get_or, take, drop}
use lib.Ieee.{Float, nan, binary64, add, sub}
use Rattle.bounds.specs.Bounds.{SCANS}
use Rattle.engine.specs.declared.config.FgoConfig.{FgoConfig}
use Rattle.engine.specs.Config.{clutter}
use Rattle.cost.specs.declared.Fold.{Fold}
use Rattle.cost.specs.declared.Fold.TheVariants.{Fresh, Frozen, Going}
use Rattle.cost.specs.Cost.{View, measurements, closed}
use Rattle.cost.proofs.Steps.{fold-append}
use Rattle.fgo_spec.specs.declared.moves.TrackMove.{TrackMove}
use Rattle.fgo_spec.specs.declared.moves.TrackMove.TheVariants.{Drop}
use Rattle.fgo_spec.specs.Lists.{up_from}
use Rattle.fgo_spec.specs.Searching.{better_track}
use Rattle.fgo_spec.proofs.Counting.{count-le}
use Rattle.search_rows.specs.Moves.{has_slot}
use Rattle.search_track.specs.Track.{marks, frozen_one, try_drop_row, best_split_row, best_drop_row, best_track_row, DropGains, best_drop_by}
use Rattle.cost_row.specs.Price.{scan_at, EndsBy}
use Rattle.cost_row.proofs.Left.{kept_map}
use Rattle.search_track.proofs.best_of_track.Goals as goal

marks_few : (r : List ℕ) → length (marks r) ≤ SCANS
unfolding marks up_from
marks_few r = count-le (has_slot r) (up_from 0 SCANS)

one_at_most : (p : Fold) → frozen_one p ≤ 1
one_at_most Fresh = omega arith
one_at_most (Frozen k l) = omega arith
one_at_most (Going s) = omega arith

-- the drops by what was noted of each
module _ {c : FgoConfig} {v : View} {p : Fold} {r : List ℕ} {base : Float} {end : ℕ} {gains : List Float} (e : EndsBy end r) (d : DropGains c v p r base end gains) where
  each-drop : (k : ℕ) → has_slot r k ≡ true → Drop (scan_at v k) (get_or gains k nan) ≡ try_drop_row c v p r base k
  unfolding try_drop_row
  each-drop k t =
      let x = sym (ap (closed c) (fold-append c p (measurements v 0 (take k r)) (measurements v (suc k) (drop (suc k) r)))) in
      ap (Drop (scan_at v k)) (d.each k (before (dec_lt k end)) t ∙ (λ i. sub binary64 (add binary64 (x i) (clutter c)) base))
    where
      before : Dec (k < end) → k < end
      before (yes h) = h
      before (no h) = absurd (omega (arith, ltb-true 0 (get_or r k 0) t, e.empty k (omega arith)))

  drops-by : (best : Option TrackMove) → best_drop_by v.first gains r best ≡ best_drop_row c v p r base best
  unfolding best_drop_by best_drop_row marks
  drops-by best = ap (foldl better_track best) (kept_map (has_slot r) (λ k. Drop (scan_at v k) (get_or gains k nan)) (try_drop_row c v p r base) 0 SCANS each-drop)

pub overflow_add-length_of : goal.overflow_add-length_of
overflow_add-length_of c =
    let w = c.args.w.now in
    omega (arith, c.length_of.ensures, c.frozen_one.ensures, marks_few w.row.slots.now, one_at_most w.from)

pub returns-then-length_of-frozen_one-gt1 : goal.returns-then-length_of-frozen_one-gt1
unfolding best_track_row
returns-then-length_of-frozen_one-gt1 c =
    let p = c.args.prices.now in
    let w = c.args.w.now in
    let v = view_in p in
    let best = best_split_row p.config v w.from w.row.slots.now w.cost in
    let split = c.best_split-best.ensures in
    let many : 1 < length (marks w.row.slots.now) + frozen_one w.from = omega (arith, c.length_of.ensures, c.frozen_one.ensures, c.if-length_of-frozen_one-gt1.true) in
    c.best_drop.ensures
    ∙ drops-by w.row.ends split.drop_gains _
    ∙ ap (best_drop_row p.config v w.from w.row.slots.now w.cost) split.best
    ∙ sym (ap (λ (t : Bool). cond t (best_drop_row p.config v w.from w.row.slots.now w.cost best) best) (lt-ltb _ _ many))

pub returns : goal.returns
unfolding best_track_row
returns c =
    let p = c.args.prices.now in
    let w = c.args.w.now in
    let v = view_in p in
    let best = best_split_row p.config v w.from w.row.slots.now w.cost in
    let few : length (marks w.row.slots.now) + frozen_one w.from ≤ 1 = omega (arith, c.length_of.ensures, c.frozen_one.ensures, c.if-length_of-frozen_one-gt1.false) in
    c.best_split-best.ensures.best ∙ sym (ap (λ (t : Bool). cond t (best_drop_row p.config v w.from w.row.slots.now w.cost best) best) (le-ltb _ _ few))
