use Prim.Native.Nat.{ℕ, ◌+◌}
use native.Mathlib.Omega.{arith}
use mathlib.Core.Path.{◌≡◌, ap}
use Rattle.fgo.proofs.Leaving.{freezes, puts, time-is, forgets, kept-parts, leaving_ends}
use Rattle.fgo.proofs.freeze_oldest.Goals as goal

pub freeze_scan-many-requires : goal.freeze_scan-many-requires
freeze_scan-many-requires c =
    let pre = c.requires in
    freezes _ _ pre.0 pre.2

pub put_frame-size-requires : goal.put_frame-size-requires
put_frame-size-requires c =
    let pre = c.requires in
    puts _ _ pre.0 pre.2 _ _ _ c.freeze_scan-many.ensures.table pre.1

pub later-r-requires : goal.later-r-requires
later-r-requires c = omega (arith, c.requires.0.early)

pub overflow_sub-r : goal.overflow_sub-r
overflow_sub-r c = c.requires.2

pub forget-r-requires : goal.forget-r-requires
forget-r-requires c =
    let pre = c.requires in
    forgets _ _ pre.0 pre.2 _ _ _ c.freeze_scan-many.ensures.table (time-is _ _ pre.0 pre.2 c.body.ensures c.time-time.ensures.1)

pub live_in-live-requires : goal.live_in-live-requires
live_in-live-requires c =
    let pre = c.requires in
    let h = c.held_in-held.ensures in
    let forgot = rw (h.0, h.1, h.2, c.later-r.ensures) at c.forget-r.ensures in
    let kept = kept-parts _ _ pre.0 pre.2 c.freeze_scan-many.new.parts.tracks c.freeze_scan-many.new.parts.filters c.freeze_scan-many.result c.freeze_scan-many.ensures.table c.forget-r.new.parts.tracks c.forget-r.new.parts.filters c.forget-r.result (time-is _ _ pre.0 pre.2 c.body.ensures c.time-time.ensures.1) forgot in
    (omega (arith, pre.0.early), kept.0, kept.1)

pub keep_owners-r-requires : goal.keep_owners-r-requires
keep_owners-r-requires c = c.requires.0.owners

pub returns : goal.returns
returns c =
    let pre = c.requires in
    let h = c.held_in-held.ensures in
    let l = c.live_in-live.ensures.held in
    let f = c.live_in-live.ensures.frozen in
    let forgot = rw (h.0, h.1, h.2, c.later-r.ensures) at c.forget-r.ensures in
    let kept = rw (l.0, l.1, l.2, f.0, f.1, c.later-r.ensures) at c.keep_owners-r.ensures in
    let next : c.later-r.result ≡ record { 0 = c.args.r.now.first.0 + 1 } = ap (λ (i : ℕ). record { 0 = i }) c.later-r.ensures in
    rw (next, c.clear.ensures)
    (leaving_ends _ _ pre.0 pre.2 c.freeze_scan-many.new.parts.tracks c.freeze_scan-many.new.parts.filters c.freeze_scan-many.result c.freeze_scan-many.ensures.table c.forget-r.new.parts.tracks c.forget-r.new.parts.filters c.forget-r.result (time-is _ _ pre.0 pre.2 c.body.ensures c.time-time.ensures.1) forgot _ _ kept c.typed.ensures.bodies_long c.typed.ensures.columns_long c.put_frame-size.ensures c.freeze_scan-many.ensures.past)
