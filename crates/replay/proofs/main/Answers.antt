use Rattle.console.proofs.Reading.{read_within}
use Rattle.replay.proofs.main.Goals as goal

pub slice_bounds-buffer-end : goal.slice_bounds-buffer-end
slice_bounds-buffer-end c = (read_within _ c.in-Some.is c.read_all.ensures).0

pub slice_bounds-play_all-end : goal.slice_bounds-play_all-end
slice_bounds-play_all-end c = (read_within _ c.in-Some.is c.read_all.ensures).1
