use Prim.Native.Nat.{ℕ}
use native.Mathlib.Omega.{arith}
use mathlib.Core.Path.{sym, subst}
use lib.ListN.{length-replicate}
use Rattle.bounds.specs.Bounds.{ACCEPTED, DETECTIONS}
use Rattle.engine.specs.Body.{body_of}
use Rattle.fgo_state.proofs.GatheringHeld.{lies_at}
use Rattle.fgo_state.proofs.AddingScan.{add_fits, added, still_gathered}
use Rattle.fgo_freeze.proofs.Order.{ordered_rises}
use Rattle.fgo_arrive.specs.Arriving.{Arrived}
use Rattle.fgo_arrive.proofs.Accepted.{holds}
use Rattle.fgo_arrive.proofs.HeldFrame.{searches}
use Rattle.fgo_arrive.proofs.ArrivedState.{after, arrives}
use Rattle.fgo_arrive.proofs.arrive.Goals as goal

pub hold-requires : goal.hold-requires
hold-requires c =
    let a = c.args in
    holds a.r.now a.m.now (body_of a.b.now) c.requires.arrives c.typed.ensures.bytes

pub later-n-requires : goal.later-n-requires
later-n-requires c =
    let a = c.args in
    omega (arith, (holds a.r.now a.m.now (body_of a.b.now) c.requires.arrives c.typed.ensures.bytes).early)

pub add-requires : goal.add-requires
add-requires c =
    let a = c.args in
    let e = c.hold.ensures in
    let h = rw (e.first, e.held) at (searches a.r.now a.m.now (body_of a.b.now) c.requires.arrives c.typed.ensures.bytes c.are_bytes-bytes.ensures.bytes _ _ _ _ e).held in
    let w = still_gathered a.m.now.scans c.hold.new.scans _ _ _ e.scans c.requires.gathered in
    add_fits _ _ _ h (omega arith) w (lies_at c.held.result c.held.ensures c.later-n.ensures)

pub search_held-t-requires : goal.search_held-t-requires
search_held-t-requires c =
    let a = c.args in
    let e = c.hold.ensures in
    let h = rw (e.first, e.held) at (searches a.r.now a.m.now (body_of a.b.now) c.requires.arrives c.typed.ensures.bytes c.are_bytes-bytes.ensures.bytes _ _ _ _ e).held in
    let w = still_gathered a.m.now.scans c.hold.new.scans _ _ _ e.scans c.requires.gathered in
    record {
      searches = searches a.r.now a.m.now (body_of a.b.now) c.requires.arrives c.typed.ensures.bytes c.are_bytes-bytes.ensures.bytes _ _ _ _ e;
      gathered = rw (e.first, e.held) (added _ _ _ h (omega arith) w (lies_at c.held.result c.held.ensures c.later-n.ensures) (length-replicate {A = ℕ} DETECTIONS 0) c.add.ensures);
    }

pub invariant_of-checked : goal.invariant_of-checked
invariant_of-checked c =
    let a = c.args in
    record { passes = (holds a.r.now a.m.now (body_of a.b.now) c.requires.arrives c.typed.ensures.bytes).passes }

pub live_in-live-requires : goal.live_in-live-requires
live_in-live-requires c =
    let a = c.args in
    let h = searches a.r.now a.m.now (body_of a.b.now) c.requires.arrives c.typed.ensures.bytes c.are_bytes-bytes.ensures.bytes _ _ _ _ c.hold.ensures in
    let p = c.search_held-t.ensures.parts in
    (h.held.early, h.frozen, rw p (ordered_rises ACCEPTED a.m.now.parts.tracks a.m.now.parts.filters c.hold.new.r.frozen h.parts))

pub keep_owners-r-requires : goal.keep_owners-r-requires
keep_owners-r-requires c =
    let a = c.args in
    let h = searches a.r.now a.m.now (body_of a.b.now) c.requires.arrives c.typed.ensures.bytes c.are_bytes-bytes.ensures.bytes _ _ _ _ c.hold.ensures in
    h.owners

pub returns-clause-arrived : goal.returns-clause-arrived
returns-clause-arrived c =
    let a = c.args in
    let u = c.hold.new.r in
    let n = c.search_held-t.new.m in
    let e = c.search_held-t.ensures.bodies in
    let p = c.search_held-t.ensures.parts in
    let h = c.live_in-live.ensures.held in
    let f = c.live_in-live.ensures.frozen in
    let keeps = rw (h.0, h.1, h.2, f.0, f.1, e, p) at c.keep_owners-r.ensures in
    subst (Arrived a.r.now a.m.now (body_of a.b.now) (after u c.keep_owners-r.result c.search_held-t.result))
    (λ i. record { scans = record { bodies = sym e i; columns = n.scans.columns }; owners = c.keep_owners-r.new.owners; parts = sym p i })
    (arrives a.r.now a.m.now (body_of a.b.now) c.requires.arrives c.typed.ensures.bytes c.are_bytes-bytes.ensures.bytes _ _ _ _ c.hold.ensures _ _ _ _ _ c.search_held-t.ensures.found (record { many = keeps.0; cells = keeps.1 }))
