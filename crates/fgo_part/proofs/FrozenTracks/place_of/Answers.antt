use native.Mathlib.Nat.{zero-add}
use native.Mathlib.Omega.{arith}
use Prim.Native.Nat.{ℕ, ◌+◌, ◌-◌, ◌/◌, ◌≤◌, ◌<◌}
use mathlib.Core.Path.{◌≡◌}
use Rattle.engine.proofs.Ids.{id_to, id_past}
use Rattle.fgo_part.specs.Parts.{part_id}
use Rattle.fgo_part.proofs.Places.{place_within, place_until, place_later}
use Rattle.fgo_part.proofs.FrozenTracks.place_of.Goals as goal

pub loop-low-init : goal.loop-low-init
loop-low-init c =
    let s = c.args.self.now in
    (omega arith, place_within (part_id s.tracks.now) c.args.id.0 0 s.count, omega arith)

pub loop-low-preserved-then-le : goal.loop-low-preserved-then-le
loop-low-preserved-then-le c =
    let s = c.args.self.now in
    let v = c.loop-low in
    let m : ℕ = v.low + (v.high - v.low) / 2 in
    let z : 0 + m ≡ m = zero-add m in
    let h : m < s.count = omega arith in
    let l : c.args.id.0 ≤ part_id s.tracks.now (0 + m) = rw z (omega (arith, id_to c.args.id.0 c.part_id.result.0 c.le.ensures c.if-le.true, c.part_id.ensures)) in
    (omega arith, place_until (part_id s.tracks.now) c.args.id.0 0 s.count m h l, omega arith)

pub loop-low-preserved : goal.loop-low-preserved
loop-low-preserved c =
    let s = c.args.self.now in
    let v = c.loop-low in
    let m : ℕ = v.low + (v.high - v.low) / 2 in
    let h : m < s.count = omega arith in
    (place_later s.rises c.args.id.0 m h (omega (arith, id_past c.args.id.0 c.part_id.result.0 c.le.ensures c.if-le.false, c.part_id.ensures)), omega arith, omega arith)
