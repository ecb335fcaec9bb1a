use Rattle.std.proofs.Common.{◌≤◌}
use Rattle.fgo_emit.proofs.Listing.{Puts}
use Rattle.fgo_emit.proofs.put_tracks.Given as goal

abbrev pub invariant-loop-k : goal.invariant-loop-k
invariant-loop-k l = (l.k ≤ l.frozen) × Puts l.at.config l.at.time l.parts.tracks l.parts.filters l.k l.i l.initial.words l.initial.numbers l.words l.numbers
