use Rattle.std.proofs.Common.{◌≡◌, ◌≤◌, refl, ap, ◌∙◌, arith, w64, to_z, of_z}
use Rattle.bounds.specs.Bounds.{SENSORS, ASSOCIATIONS}
use Rattle.engine.specs.Body.{body_of, Body, body_refusal, sensors_in, associations_in}
use Rattle.fgo_freeze.proofs.Times.{passed_on}
use Rattle.fgo_state.proofs.GatheringHeld.{lies_at}
use Rattle.fgo_state.proofs.Columns.{scan_frame}
use Rattle.fgo_state.proofs.Counts.{associations_few, sensors_few}
use Rattle.fgo_emit.proofs.Framing.{framed_all}
use Rattle.fgo_emit.proofs.put_frame.Goals as goal

-- the body that is read is that of the scan
module _ {s b : Body} (read : s ≡ b) (ok : body_refusal b ≡ 0) where
  passes : body_refusal s ≡ 0
  passes = ap (λ (x : Body). body_refusal x) read ∙ ok

  few_associations : associations_in s ≤ ASSOCIATIONS
  few_associations = associations_few s passes

  few_sensors : sensors_in s ≤ SENSORS
  few_sensors = sensors_few s passes

pub invariant_of-at : goal.invariant_of-at
invariant_of-at c =
    let e = (lies_at c.held-s.result c.held-s.ensures refl).2 in
    let time = passed_on c.time.result c.time.type_inv ∙ c.time.ensures in
    record { near = rw (time, ← scan_frame c.args.scans.now.bodies c.args.scans.now.columns c.args.n.0 e) c.requires.parts.timed }

pub put_tracks-t-requires : goal.put_tracks-t-requires
put_tracks-t-requires c =
    let e = (lies_at c.held-s.result c.held-s.ensures refl).2 in
    let time = passed_on c.time.result c.time.type_inv ∙ c.time.ensures in
    (rw (time, ← scan_frame c.args.scans.now.bodies c.args.scans.now.columns c.args.n.0 e) c.requires.parts, c.requires.room)

pub put_associations-requires : goal.put_associations-requires
put_associations-requires c =
    let e = (lies_at c.held-s.result c.held-s.ensures refl).2 in
    omega (arith, c.put_tracks-t.ensures.few, few_associations e c.requires.passes, c.put_tracks-t.auto, c.put_head.auto, c.requires.room.words)

pub put_sensors-requires : goal.put_sensors-requires
put_sensors-requires c =
    let e = (lies_at c.held-s.result c.held-s.ensures refl).2 in
    omega (arith, c.put_tracks-t.ensures.few, few_associations e c.requires.passes, few_sensors e c.requires.passes, c.count-count.ensures.count, c.put_tracks-t.auto, c.put_head.auto, c.put_associations.auto, c.requires.room.words)

pub put_costs-requires : goal.put_costs-requires
put_costs-requires c =
    let e = (lies_at c.held-s.result c.held-s.ensures refl).2 in
    omega (arith, c.put_tracks-t.ensures.few, few_associations e c.requires.passes, c.put_tracks-t.auto, c.requires.room.numbers)

pub returns : goal.returns
returns c =
    let e = (lies_at c.held-s.result c.held-s.ensures refl).2 in
    let time = passed_on c.time.result c.time.type_inv ∙ c.time.ensures in
    let a = c.args in
    framed_all a.c a.scans.now.bodies a.scans.now.columns a.n.0 a.parts.now.tracks a.parts.now.filters a.frozen (body_of c.held-s.result.frame.body) (to_z w64 (of_z w64 c.time.result)) c.put_tracks-t.result c.count-count.result c.sensor_count.result a.words.now a.numbers.now
    e
    time
    c.count-count.ensures.count
    c.sensor_count.ensures.count
    (omega (arith, c.put_tracks-t.ensures.few, few_associations e c.requires.passes, few_sensors e c.requires.passes, c.count-count.ensures.count, c.sensor_count.ensures, c.requires.room.words))
    (omega (arith, c.put_tracks-t.ensures.few, few_associations e c.requires.passes, c.count-count.ensures.count, c.requires.room.numbers))
    c.put_tracks-t.auto.numbers
    c.put_tracks-t.ensures.tracks
    c.put_head.ensures
    (rw (c.held-s.ensures.0, c.held-s.ensures.1) at c.put_associations.ensures)
    c.put_sensors.ensures
    c.put_costs.ensures
