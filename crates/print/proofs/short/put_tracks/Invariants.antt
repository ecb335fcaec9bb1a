use Rattle.print.specs.Text.{track_line}
use Rattle.print.proofs.Putting.{Put}
use Rattle.print.proofs.short.put_tracks.Given as goal

abbrev pub invariant-loop-i : goal.invariant-loop-i
invariant-loop-i l = Put (track_line l.words l.x) l.many l.n l.initial.out l.i l.out l.at
