use Prim.Native.Nat.{◌+◌, ◌<◌}
use mathlib.Core.Path.{◌≡◌, refl, sym, ap, ◌∙◌}
use native.Mathlib.Omega.{arith}
use lib.ListN.{length, get_or}
use Rattle.bounds.specs.Bounds.{ACCEPTED}
use Rattle.engine.specs.Frame.{no_association}
use Rattle.engine.specs.Body.{body_of, associations_in}
use Rattle.engine.proofs.Passing.{length-rows}
use Rattle.fgo_spec.specs.Windows.{detection_of}
use Rattle.fgo_part.specs.Parts.{table_in}
use Rattle.fgo_state.specs.Memory.{body_at, id_at, scan_in}
use Rattle.fgo_freeze.specs.Frozen.{detection_by, seen_in}
use Rattle.fgo_state.proofs.Columns.{scan_frame, associations_long, ids_long, id_here}
use Rattle.fgo_state.proofs.Counts.{associations_few}
use Rattle.fgo_state.proofs.GatheringHeld.{lies_at}
use Rattle.fgo_freeze.proofs.Pasts.{past_none, past_more, past_then}
use Rattle.fgo_freeze.proofs.FrozenOne.{frozen_more}
use Rattle.fgo_freeze.proofs.FrozenScan.{going_none, going_skip, going_room, going_one, going_done}
use Rattle.fgo_freeze.proofs.freeze_scan.Goals as goal
use Rattle.fgo_freeze.proofs.freeze_scan.Goals.{then-id-gt0, else-id-gt0}

pub loop-j-init : goal.loop-j-init
loop-j-init c =
    let a = c.args in
    let l : length (table_in a.parts.now.tracks a.parts.now.filters a.frozen) ≡ a.frozen = length-rows _ 0 a.frozen in
    (omega arith, past_none a.frozen a.parts.now.tracks a.parts.now.filters, going_none a.c a.n.0 (scan_in a.scans.now.bodies a.scans.now.columns a.n.0) (table_in a.parts.now.tracks a.parts.now.filters a.frozen) c.requires.ordered (omega (arith, c.requires.room)))

pub freeze_one-f-requires : goal.freeze_one-f-requires
freeze_one-f-requires c =
    let a = c.args in
    let v = c.loop-j in
    let s = scan_in a.scans.now.bodies a.scans.now.columns a.n.0 in
    let p = lies_at c.held-s.result c.held-s.ensures refl in
    let eb = p.2 in
    let ec = c.count-j-end.ensures.count in
    let h : v.j < c.count-j-end.result = c.loop-j-test.true in
    let q : get_or s.ids v.j 0 ≡ id_at a.scans.now.columns a.n.0 v.j = id_here a.scans.now.bodies a.scans.now.columns a.n.0 eb v.j (omega arith) in
    let x : 0 < get_or s.ids v.j 0 = omega (arith, (rw (p.0, p.1) at c.id-id.ensures), c.if-id-gt0.true) in
    let l : length (table_in v.parts.tracks v.parts.filters v.f) ≡ v.f = length-rows _ 0 v.f in
    let r = going_room a.c a.n.0 s (table_in a.parts.now.tracks a.parts.now.filters a.frozen) v.invariant.2 (omega (arith, associations_long a.scans.now.bodies a.scans.now.columns a.n.0 eb)) (omega (arith, ids_long a.scans.now.bodies a.scans.now.columns a.n.0 eb)) x in
    record {
      most = ACCEPTED + v.j;
      small = omega (arith, associations_few (body_at a.scans.now.bodies a.scans.now.columns a.n.0) c.requires.passes, ap (λ b. associations_in b) eb);
      ordered = v.invariant.2.ordered;
      named = c.if-id-gt0.true;
      room = omega arith;
    }

pub loop-j-preserved : goal.loop-j-preserved
loop-j-preserved c =
    let a = c.args in
    let v = c.loop-j in
    let s = scan_in a.scans.now.bodies a.scans.now.columns a.n.0 in
    let t = table_in a.parts.now.tracks a.parts.now.filters a.frozen in
    let p = lies_at c.held-s.result c.held-s.ensures refl in
    let eb = p.2 in
    let ec = c.count-j-end.ensures.count in
    let h : v.j < c.count-j-end.result = c.loop-j-test.true in
    let q : c.id-id.result.0 ≡ get_or s.ids v.j 0 = (rw (p.0, p.1) at c.id-id.ensures) ∙ sym (id_here a.scans.now.bodies a.scans.now.columns a.n.0 eb v.j (omega arith)) in
    let la : v.j < length s.frame.associations = omega (arith, associations_long a.scans.now.bodies a.scans.now.columns a.n.0 eb) in
    let li : v.j < length s.ids = omega (arith, ids_long a.scans.now.bodies a.scans.now.columns a.n.0 eb) in (
      omega arith,
      elim c.if-id-gt0.branch [
        | then-id-gt0 w ↦
            let m = frozen_more a.c c.id-id.result.0 (detection_by w.seen_at.result) v.parts.tracks v.parts.filters v.f w.freeze_one-f.new.parts.tracks w.freeze_one-f.new.parts.filters w.freeze_one-f.result w.freeze_one-f.ensures.table in
            rw (w.parts-is, w.f-is) (past_then w.freeze_one-f.result a.parts.now.tracks a.parts.now.filters (past_more v.f a.parts.now.tracks a.parts.now.filters v.invariant.1 w.freeze_one-f.result m) w.freeze_one-f.ensures.past)
        | else-id-gt0 w ↦ rw (w.parts-is, w.f-is) v.invariant.1
      ],
      elim c.if-id-gt0.branch [
        | then-id-gt0 w ↦
            let d : detection_by w.seen_at.result ≡ detection_of a.n.0 s.frame (get_or s.frame.associations v.j no_association) = w.seen_at.ensures ∙ ap (λ m. seen_in m.0 (body_of c.held-s.result.frame.body) v.j) c.held-s.ensures.1 ∙ ap (λ f. detection_of a.n.0 f (get_or f.associations v.j no_association)) (sym (scan_frame a.scans.now.bodies a.scans.now.columns a.n.0 eb)) in
            let g = going_one a.c a.n.0 s t v.invariant.2 la li (omega (arith, w.if-id-gt0.true)) in
            rw (w.parts-is, w.f-is, w.freeze_one-f.ensures.table, d, q) g
        | else-id-gt0 w ↦ rw (w.parts-is, w.f-is) (going_skip a.c a.n.0 s t v.invariant.2 la li (omega (arith, w.if-id-gt0.false)))
      ],
    )

pub returns : goal.returns
returns c =
    let a = c.args in
    let v = c.loop-j in
    let p = lies_at c.held-s.result c.held-s.ensures refl in
    let eb = p.2 in
    let ec = c.count-j-end.ensures.count in
    record {
      past = v.invariant.1;
      table = going_done a.c a.n.0 (scan_in a.scans.now.bodies a.scans.now.columns a.n.0) (table_in a.parts.now.tracks a.parts.now.filters a.frozen) v.invariant.2 (omega (arith, associations_long a.scans.now.bodies a.scans.now.columns a.n.0 eb, ec));
    }
