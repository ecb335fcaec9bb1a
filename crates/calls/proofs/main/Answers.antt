use Rattle.console.proofs.Reading.{read_within}
use Rattle.calls.proofs.main.Goals as goal

pub slice_bounds-play-end : goal.slice_bounds-play-end
slice_bounds-play-end c = (read_within _ c.in-Some.is c.read_all.ensures).1
