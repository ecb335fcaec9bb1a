use Rattle.std.specs.Prelude.{Option, None}
use mathlib.Core.Path.{◌≡◌, refl, sym, ap, ◌∙◌}
use mathlib.Core.Bool.{Bool, true, false}
use mathlib.Core.List.{List}
use Prim.Native.Nat.{ℕ, ◌+◌, ◌≤◌}
use native.Mathlib.Nat.{le_trans, add-zero}
use native.Mathlib.Omega.{arith}
use lib.ListN.{length, drop}
use lib.Ieee.{Float, binary64, add, sub}
use Rattle.bounds.specs.Bounds.{SCANS, STARTS}
use Rattle.engine.specs.declared.config.FgoConfig.{FgoConfig}
use Rattle.engine.specs.declared.types.ScanIndex.{ScanIndex}
use Rattle.cost.specs.declared.Fold.{Fold}
use Rattle.cost.specs.Cost.{View, measurements, fold_over, cost, view_in}
use Rattle.fgo_spec.specs.declared.moves.PairMove.{PairMove}
use Rattle.fgo_spec.specs.declared.moves.PairMove.TheVariants.{Swap}
use Rattle.fgo_spec.specs.Searching.{◌⊕◌, ◌⊖◌, pair_gain, best_gain, better_pair}
use Rattle.fgo_spec.proofs.NoGain.{nothing_wins, best_below, start}
use Rattle.search_pair.specs.Pair.{cut_at, cuts_of, try_swap_row, first_swap, best_swap_row}
use Rattle.cost_row.specs.Price.{row_cost, on_to, scan_at, EndsBy}
use Rattle.cost_row.proofs.Left.{best_from, best_yes, best_no, best_stays}
use Rattle.cost_row.proofs.Heads.{begins, passes, on_to_lem, taken_on, until, crossed-cost, few_on, ends_same, ends_later, scan_by}
use Rattle.search_pair.proofs.Pair.best_swap.Invariants.{Tried}
use Rattle.search_pair.proofs.Pair.best_swap.Goals as goal
use Rattle.search_pair.proofs.Pair.best_swap.Goals.{else-is_cut, then-is_cut}

module _ {c : FgoConfig} {v : View} {pa pb : Fold} {close : List Bool} {ra rb : List ℕ} {base : Float} {best : Option PairMove} {fa fb : Fold} {done k : ℕ} (s : Tried c v pa pb close ra rb base best fa fb done k) where
  tries : k ≤ SCANS → length ra ≡ SCANS → length rb ≡ SCANS → cut_at close k ≡ true → {ga gb : Fold} {gain : Float} → ga ≡ on_to c v done k ra fa → gb ≡ on_to c v done k rb fb →
      gain ≡ cost c ga (measurements v k (drop k rb)) ⊕ cost c gb (measurements v k (drop k ra)) ⊖ base →
      Tried c v pa pb close ra rb base (better_pair best (Swap (scan_at v k) gain)) ga gb k (k + 1)
  unfolding try_swap_row
  tries g la lb t {ga} {gb} {gain} ea eb eg =
      let x = ap (λ (f : Fold). cost c f (measurements v k (drop k rb))) (ea ∙ on_to_lem s.a (omega arith)) ∙ crossed-cost c v pa ra k rb (omega arith) in
      let y = ap (λ (f : Fold). cost c f (measurements v k (drop k ra))) (eb ∙ on_to_lem s.b (omega arith)) ∙ crossed-cost c v pb rb k ra (omega arith) in
      record {
        within = omega arith;
        a = rw ea (taken_on s.a (omega arith));
        b = rw eb (taken_on s.b (omega arith));
        left =
            ap (best_from better_pair (try_swap_row c v pa pb ra rb base) (cut_at close) STARTS (k + 1)) (ap (λ d. better_pair best (Swap (scan_at v k) d)) (eg ∙ (λ i. sub binary64 (add binary64 (x i) (y i)) base)))
            ∙ best_yes better_pair (try_swap_row c v pa pb ra rb base) (cut_at close) STARTS k best (omega arith) t
            ∙ s.left;
        low = best_below best (Swap (scan_at v k) gain) s.low;
      }

  skips : k ≤ SCANS → cut_at close k ≡ false → Tried c v pa pb close ra rb base best fa fb done (k + 1)
  skips g t =
      record {
        within = omega arith;
        a = passes s.a;
        b = passes s.b;
        left = best_no better_pair (try_swap_row c v pa pb ra rb base) (cut_at close) STARTS k best (omega arith) t ∙ s.left;
        low = s.low;
      }

  -- from the end of both rows on a swap leaves them as they are, and gains nothing
  idle : {end : ℕ} → EndsBy end ra → EndsBy end rb → base ≡ row_cost c v pa ra ⊕ row_cost c v pb rb → (g : ℕ) → end ≤ g → better_pair best (try_swap_row c v pa pb ra rb base g) ≡ best
  unfolding try_swap_row
  idle ea eb q g h =
      let x = ap (row_cost c v pa) (ends_same ea eb g h) in
      let y = ap (row_cost c v pb) (ends_same eb ea g h) in
      let z = (λ i. sub binary64 (add binary64 (x i) (y i)) base) ∙ ap (λ (d : Float). sub binary64 d base) (sym q) in
      rw (z, nothing_wins base (best_gain pair_gain best) s.low)

  ends : {end : ℕ} → EndsBy end ra → EndsBy end rb → base ≡ row_cost c v pa ra ⊕ row_cost c v pb rb → end ≤ k → best ≡ best_swap_row c v pa pb close ra rb base
  ends ea eb q g = sym (best_stays better_pair (try_swap_row c v pa pb ra rb base) (cut_at close) STARTS k best (λ j l. idle ea eb q j (le_trans g l))) ∙ s.left

-- nothing is tried yet, and then the swap before all scans
module _ (c : FgoConfig) (v : View) (pa pb : Fold) (close : List Bool) (ra rb : List ℕ) (base : Float) where
  begun : Tried c v pa pb close ra rb base None pa pb 0 0
  unfolding best_swap_row cuts_of
  begun = record { within = omega arith; a = begins c v pa ra; b = begins c v pb rb; left = refl; low = start }

  first-tried : (cut : Bool) {xa xb : Float} {first : ScanIndex} → cut ≡ cut_at close 0 → first ≡ scan_at v 0 → length ra ≡ SCANS → length rb ≡ SCANS →
      (cut_at close 0 ≡ true → xa ≡ row_cost c v pa rb) → (cut_at close 0 ≡ true → xb ≡ row_cost c v pb ra) → Tried c v pa pb close ra rb base (first_swap cut first xa xb base) pa pb 0 1
  unfolding fold_over measurements
  first-tried true e f la lb x y = rw f (tries begun (omega arith) la lb (sym e) refl refl (λ i. sub binary64 (add binary64 (x (sym e) i) (y (sym e) i)) base))
  first-tried false e f la lb x y = skips begun (omega arith) (sym e)

pub loop-k-init : goal.loop-k-init
loop-k-init c =
    let s = c.args.self.now in
    let p = s.prices.now in
    let a = s.a.now in
    let b = s.b.now in
    let v = view_in p in
    let first : p.first ≡ scan_at v 0 = λ i. record { 0 = sym (add-zero p.first.0) i } in
    rw c.first_swap-best.ensures
    (first-tried p.config v a.from b.from s.close.now a.row.slots.now b.row.slots.now s.base _ refl first a.fit.long b.fit.long s.priced.exchanged_a s.priced.exchanged_b)

pub fold_to-fa-requires : goal.fold_to-fa-requires
fold_to-fa-requires c =
    let s = c.args.self.now in
    let a = s.a.now in
    let b = s.b.now in
    (omega (arith, c.max-end.ensures, a.row.ends.within, b.row.ends.within), until c.loop-k.invariant.a s.prices.now.early a.fit)

pub fold_to-fb-requires : goal.fold_to-fb-requires
fold_to-fb-requires c =
    let s = c.args.self.now in
    let a = s.a.now in
    let b = s.b.now in
    (omega (arith, c.max-end.ensures, a.row.ends.within, b.row.ends.within), until c.loop-k.invariant.b s.prices.now.early b.fit)

pub swap_gain-gain-requires : goal.swap_gain-gain-requires
swap_gain-gain-requires c =
    let s = c.args.self.now in
    let a = s.a.now in
    let b = s.b.now in
    let i = c.loop-k.invariant in
    let early = s.prices.now.early in
    let t : c.loop-k.k ≤ SCANS = omega (arith, c.max-end.ensures, a.row.ends.within, b.row.ends.within) in (
      few_on i.a (omega (arith, a.fit.long)) early a.fit c.fold_to-fa.ensures,
      few_on i.b (omega (arith, b.fit.long)) early b.fit c.fold_to-fb.ensures,
    )

pub loop-k-preserved : goal.loop-k-preserved
loop-k-preserved c =
    let s = c.args.self.now in
    let a = s.a.now in
    let b = s.b.now in
    let i = c.loop-k.invariant in
    let e = c.is_cut.ensures in
    let t : c.loop-k.k ≤ SCANS = omega (arith, c.max-end.ensures, a.row.ends.within, b.row.ends.within) in
    elim c.if-is_cut.branch [
      | then-is_cut w ↦ rw (w.best-is, w.fa-is, w.fb-is, w.done-is, w.better-best.ensures, scan_by w.later-cut.ensures) (tries i t a.fit.long b.fit.long (sym e ∙ w.if-is_cut.true) w.fold_to-fa.ensures w.fold_to-fb.ensures w.swap_gain-gain.ensures)
      | else-is_cut w ↦ rw (w.best-is, w.fa-is, w.fb-is, w.done-is) (skips i t (sym e ∙ w.if-is_cut.false))
    ]

pub returns : goal.returns
returns c =
    let s = c.args.self.now in
    let a = s.a.now in
    let b = s.b.now in
    let m = c.max-end.ensures in
    let within : c.max-end.result ≤ SCANS = omega (arith, m, a.row.ends.within, b.row.ends.within) in
    ends c.loop-k.invariant (ends_later (omega (arith, m)) within a.row.ends) (ends_later (omega (arith, m)) within b.row.ends) (s.summed ∙ (λ i. s.priced.paid_a i ⊕ s.priced.paid_b i)) c.loop-k-test.false
