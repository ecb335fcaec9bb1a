use Rattle.playback.proofs.Playing.{fresh_of, lag-within}
use Rattle.playback.proofs.play.try_play.Goals as goal

pub open-requires-2 : goal.open-requires-2
open-requires-2 g c = lag-within _ (fresh_of _ _ c.in_ok-refiner.was c.open.ensures.opened)
