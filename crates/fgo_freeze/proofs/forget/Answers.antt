use Prim.Native.Nat.{◌<◌}
use mathlib.Core.Path.{◌≡◌, sym, ap, ◌∙◌}
use native.Mathlib.Omega.{arith}
use borrow.Author.Rules.{rules}
use mir.Syntax.{w64}
use mir.Val.{to_z, of_z}
use mir.Facts.{to_z-of_z}
use lib.ListN.{length}
use Rattle.bounds.specs.Bounds.{FROZEN, PARTS, FILTERS}
use Rattle.fgo_spec.specs.Freezing.{kept}
use Rattle.fgo_part.specs.Parts.{part_id, prefix_in, prefix_of, entry_in, part_last_ns}
use Rattle.fgo_state.specs.Memory.{scans_in}
use Rattle.fgo_freeze.proofs.Forgetting.{Keeping, kept_is, keeping_none, keeping_skip, kept_few, keeping_more, keeping_all}
use Rattle.fgo_freeze.proofs.forget.Goals as goal
use Rattle.fgo_freeze.proofs.forget.Goals.{then-is_kept, else-is_kept}

pub loop-k-init : goal.loop-k-init
loop-k-init c = let a = c.args in (omega arith, keeping_none a.c (to_z w64 (of_z w64 a.time)) (scans_in a.held.now.scans.now.bodies a.held.now.scans.now.columns a.held.now.first.0 a.held.now.count) a.parts.now.tracks a.parts.now.filters)

pub is_kept-requires : goal.is_kept-requires
unfolding prefix_in
is_kept-requires c =
    let a = c.args in
    let v = c.loop-k in
    let p = c.requires in
    let h : v.k < a.frozen = c.loop-k-test.true in
    let e : part_last_ns v.parts.tracks v.k ≡ part_last_ns a.parts.now.tracks v.k = ap (λ u. u.1.last_ns) (v.invariant.1.high v.k (omega arith)) in
    (omega (arith, p.few), rw e (p.parts v.k h).timed)

pub put-requires : goal.put-requires
put-requires c =
    let a = c.args in
    let v = c.loop-k in
    let p = c.requires in
    let ss = scans_in a.held.now.scans.now.bodies a.held.now.scans.now.columns a.held.now.first.0 a.held.now.count in
    (omega (arith, p.few, v.invariant.1.within), kept_few a.c (to_z w64 (of_z w64 a.time)) ss a.parts.now.tracks a.parts.now.filters v.invariant.1 (p.parts v.k c.loop-k-test.true).height c.prefix_at-p.result c.prefix_at-p.ensures)

pub loop-k-preserved : goal.loop-k-preserved
loop-k-preserved c =
    let a = c.args in
    let v = c.loop-k in
    let p = c.requires in
    let h : v.k < a.frozen = c.loop-k-test.true in
    let few : v.k < FROZEN = omega (arith, p.few) in
    let wide : length a.parts.now.tracks ≡ PARTS = search rules in
    let deep : length a.parts.now.filters ≡ FILTERS = search rules in
    let now = to_z w64 (of_z w64 a.time) in
    let ss = scans_in a.held.now.scans.now.bodies a.held.now.scans.now.columns a.held.now.first.0 a.held.now.count in
    let e : entry_in v.parts.tracks v.parts.filters v.k ≡ entry_in a.parts.now.tracks a.parts.now.filters v.k = v.invariant.1.high v.k (omega arith) in
    let n : 0 < part_id v.parts.tracks v.k = rw (← ap (λ u. u.0) e) at (p.parts v.k h).named in
    let b : c.is_kept.result ≡ kept a.c now ss (entry_in a.parts.now.tracks a.parts.now.filters v.k) = c.is_kept.ensures ∙ kept_is a.c now ss v.parts.tracks v.parts.filters v.k n ∙ ap (kept a.c now ss) e in (
      omega arith,
      elim c.if-is_kept.branch [
        | then-is_kept w ↦
            let same : (w.part_id-id.result.0, prefix_of w.prefix_at-p.result) ≡ entry_in v.parts.tracks v.parts.filters v.k = λ i. (w.part_id-id.ensures i, w.prefix_at-p.ensures i) in
            rw (w.parts-is, w.w-is) (keeping_more a.c now ss a.parts.now.tracks a.parts.now.filters v.invariant.1 few wide deep w.part_id-id.result.0 w.prefix_at-p.result same w.put.ensures (sym b ∙ w.if-is_kept.true))
        | else-is_kept w ↦ rw (w.parts-is, w.w-is) (keeping_skip a.c now ss a.parts.now.tracks a.parts.now.filters v.invariant.1 (sym b ∙ w.if-is_kept.false))
      ],
    )

pub returns : goal.returns
returns c =
    let a = c.args in
    let v = c.loop-k in
    let wide : length a.parts.now.tracks ≡ PARTS = search rules in
    let deep : length a.parts.now.filters ≡ FILTERS = search rules in
    let all : v.k ≡ a.frozen = omega arith in
    let now = to_z w64 (of_z w64 a.time) in
    let ss = scans_in a.held.now.scans.now.bodies a.held.now.scans.now.columns a.held.now.first.0 a.held.now.count in
    let g : Keeping a.c now ss a.parts.now.tracks a.parts.now.filters a.frozen v.w v.parts.tracks v.parts.filters = rw all at v.invariant.1 in
    rw (to_z-of_z c.ranges.time) at (keeping_all a.c now ss a.parts.now.tracks a.parts.now.filters a.frozen v.w g c.requires.few wide deep c.clear.ensures.tracks c.clear.ensures.filters)
