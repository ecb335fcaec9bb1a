use mathlib.Core.Path.{◌∙◌}
use Rattle.playback.proofs.Playing.{fresh_led, played}
use Rattle.playback.proofs.play.run.Goals as goal

pub take_all-requires : goal.take_all-requires
take_all-requires g c = fresh_led _ _ c.requires.fresh c.push_all.ensures

pub returns : goal.returns
returns g c =
    let rest = c.take_rest.ensures in
    let last = c.print_counters.ensures in
    played c.args.player.now.refiner _ c.requires.fresh c.print_counters.new.self c.push_all.ensures c.take_all.ensures (last.refiner ∙ rest.refiner)
    (last.memory ∙ rest.memory) (rw last.sink rest.emptied)
