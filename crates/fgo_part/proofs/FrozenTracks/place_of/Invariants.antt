use Rattle.std.proofs.Common.{◌-◌, ◌≤◌}
use Rattle.fgo_spec.specs.Lists.{place_in}
use Rattle.fgo_part.specs.Parts.{part_ids}
use Rattle.fgo_part.proofs.FrozenTracks.place_of.Given as goal

-- the place lies between the two
abbrev pub invariant-loop-low : goal.invariant-loop-low
invariant-loop-low l =
    let p = place_in l.id.0 (part_ids l.self.tracks.now l.self.count) in
    (l.low ≤ p) × (p ≤ l.high) × (l.high ≤ l.self.count)

abbrev pub decreases-loop-low : goal.decreases-loop-low
decreases-loop-low l = l.high - l.low
