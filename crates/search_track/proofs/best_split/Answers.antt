use borrow.Author.Tests.{lt-ltb, le-ltb}
use Rattle.std.specs.Prelude.{Option}
use Rattle.cost.specs.Cost.{view_in}
use borrow.Author.Count.{below_more}
use mathlib.Core.Path.{◌≡◌, refl, sym, ap, ◌∙◌}
use mathlib.Core.Bool.{Bool, true, false, cond}
use mathlib.Core.List.{List, [], ◌∷◌, map, foldl}
use Prim.Native.Nat.{ℕ, ◌+◌, ◌≤◌, ◌<◌}
use native.Mathlib.Omega.{arith}
use lib.ListN.{get_or, set, drop, length-set}
use lib.Seq.{get_or-set_same, get_or-set_other}
use lib.Ieee.{Float, nan, binary64, add, sub}
use Rattle.bounds.specs.Bounds.{SCANS}
use Rattle.engine.specs.declared.config.FgoConfig.{FgoConfig}
use Rattle.cost.specs.declared.Fold.{Fold}
use Rattle.cost.specs.declared.Fold.TheVariants.{Fresh}
use Rattle.cost.specs.Cost.{View, measurements, cost, closed}
use Rattle.fgo_spec.specs.declared.moves.TrackMove.{TrackMove}
use Rattle.fgo_spec.specs.declared.moves.TrackMove.TheVariants.{Split}
use Rattle.fgo_spec.specs.Searching.{better_track}
use Rattle.search_rows.specs.Moves.{has_slot}
use Rattle.search_track.specs.Track.{marks, try_split_row, best_split_row, better_split, drop_gain, DropGains}
use Rattle.cost_row.specs.Price.{head_of, on_to, scan_at, EndsBy}
use Rattle.cost_row.proofs.Left.{left, left_yes, left_no, left_over}
use Rattle.cost_row.proofs.Heads.{begins, passes, on_to_lem, taken_on, until, few_on}
use Rattle.search_track.proofs.best_split.Invariants.{Splits, after, best_after}
use Rattle.search_track.proofs.best_split.Goals as goal
use Rattle.search_track.proofs.best_split.Goals.{else-w-k-gt0, then-w-k-gt0, else-seen, then-seen}

-- the drop of the detection in scan k is noted
module _ {c : FgoConfig} {v : View} {p : Fold} {r : List ℕ} {base : Float} {k : ℕ} {gains : List Float} (d : DropGains c v p r base k gains) where
  notes : k < SCANS → {g : Float} → g ≡ drop_gain c v (head_of c v p r k) r k base → DropGains c v p r base (k + 1) (set gains k g)
  notes h {g} e =
      record {
        long = length-set gains k g ∙ d.long;
        each =
            below_more (λ j. has_slot r j ≡ true → get_or (set gains k g) j nan ≡ drop_gain c v (head_of c v p r j) r j base) k
            (λ j l t. get_or-set_other gains k j g nan (λ (q : j ≡ k). omega arith) ∙ d.each j l t)
            (λ t. get_or-set_same gains k g nan (omega (arith, d.long)) ∙ e);
      }

  -- there is none
  passes_on : has_slot r k ≡ false → DropGains c v p r base (k + 1) gains
  passes_on t =
      record {
        long = d.long;
        each = below_more (λ j. has_slot r j ≡ true → get_or gains j nan ≡ drop_gain c v (head_of c v p r j) r j base) k d.each (λ u. let n : ◌≡◌ {A = ℕ} 0 1 = cc in absurd (omega arith));
      }

module _ {c : FgoConfig} {v : View} {p : Fold} {r : List ℕ} {base : Float} {end : ℕ} {gains : List Float} {best : Option TrackMove} {fold : Fold} {done : ℕ} {seen : Bool} {k : ℕ} (e : EndsBy end r) (s : Splits c v p r base end gains best fold done seen k) where
  at : (l : List ℕ) → left (has_slot r) SCANS k ≡ l → foldl better_track best (map (try_split_row c v p r base) (after seen l)) ≡ best_after c v p r base seen k best
  at l q = ap (λ (m : List ℕ). foldl better_track best (map (try_split_row c v p r base) (after seen m))) (sym q)

  -- a detection; there is no split before the first
  tries : k < end → has_slot r k ≡ true → {f : Fold} {b : Option TrackMove} {g : Float} → f ≡ on_to c v done k r fold → b ≡ cond seen (better_split c v best f r k base) best → g ≡ drop_gain c v f r k base →
      Splits c v p r base end (set gains k g) b f k true (k + 1)
  tries g t {f} ef eb eg =
      let h : k < SCANS = omega (arith, e.within) in
      let q = ef ∙ on_to_lem s.along (omega (arith, e.long)) in
      record {
        within = omega arith;
        along = rw ef (taken_on s.along (omega (arith, e.long)));
        rest = ap (best_after c v p r base true (k + 1)) eb ∙ split seen q ∙ at (k ∷ left (has_slot r) SCANS (k + 1)) (left_yes (has_slot r) SCANS k h t) ∙ s.rest;
        drops = notes s.drops h (eg ∙ ap (λ (x : Fold). drop_gain c v x r k base) q);
      }
    where
      split : (b : Bool) → f ≡ head_of c v p r k →
          best_after c v p r base true (k + 1) (cond b (better_split c v best f r k base) best) ≡ foldl better_track best (map (try_split_row c v p r base) (after b (k ∷ left (has_slot r) SCANS (k + 1))))
      split true q =
          unfold try_split_row in
          ap (λ (x : Fold). best_after c v p r base true (k + 1) (better_track best (Split (scan_at v k) (sub binary64 (add binary64 (closed c x) (cost c Fresh (measurements v k (drop k r)))) base)))) q
      split false q = refl

  skips : k < end → has_slot r k ≡ false → Splits c v p r base end gains best fold done seen (k + 1)
  skips g t =
      record {
        within = omega arith;
        along = passes s.along;
        rest = at (left (has_slot r) SCANS (k + 1)) (left_no (has_slot r) SCANS k (omega (arith, e.within)) t) ∙ s.rest;
        drops = passes_on s.drops t;
      }

  ends : end ≤ k → best ≡ best_split_row c v p r base
  ends g = none seen ∙ at [] (left_over (has_slot r) SCANS k (λ j h. le-ltb 0 (get_or r j 0) (omega (arith, e.empty j (omega arith))))) ∙ s.rest
    where
      none : (b : Bool) → best ≡ foldl better_track best (map (try_split_row c v p r base) (after b []))
      none true = refl
      none false = refl

pub loop-k-init : goal.loop-k-init
unfolding best_split_row marks
loop-k-init c =
    let p = c.args.prices.now in
    let w = c.args.w.now in
    record {
      within = omega arith;
      along = begins p.config (view_in p) w.from w.row.slots.now;
      rest = refl;
      drops = record { long = c.told-gains; each = λ j h. absurd (omega arith) };
    }

pub fold_to-fold-requires : goal.fold_to-fold-requires
fold_to-fold-requires c =
    let w = c.args.w.now in
    (omega (arith, w.row.ends.within), until c.loop-k.invariant.along c.args.prices.now.early w.fit)

pub drop_gain-requires : goal.drop_gain-requires
drop_gain-requires c =
    let w = c.args.w.now in
    (few_on c.loop-k.invariant.along (omega (arith, w.row.ends.within, w.row.ends.long)) c.args.prices.now.early w.fit c.fold_to-fold.ensures, omega (arith, w.row.ends.within))

pub loop-k-preserved : goal.loop-k-preserved
loop-k-preserved c =
    let i = c.loop-k.invariant in
    let e = c.args.w.now.row.ends in
    let g = c.loop-k-test.true in
    elim c.if-w-k-gt0.branch [
      | then-w-k-gt0 w ↦ rw (w.gains-is, w.best-is, w.fold-is, w.done-is, w.seen-is) (tries e i g (lt-ltb _ _ w.if-w-k-gt0.true) w.fold_to-fold.ensures (elim w.if-seen.branch [ then-seen v ↦ rw v.if-seen.true (v.best-is ∙ v.better_split-best.ensures) | else-seen v ↦ rw (v.if-seen.false, v.best-is) refl ]) w.drop_gain.ensures)
      | else-w-k-gt0 w ↦ rw (w.gains-is, w.best-is, w.fold-is, w.done-is, w.seen-is) (skips e i g (le-ltb _ _ w.if-w-k-gt0.false))
    ]

pub returns-clause-best : goal.returns-clause-best
returns-clause-best c = ends c.args.w.now.row.ends c.loop-k.invariant c.loop-k-test.false
