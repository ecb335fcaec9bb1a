use mathlib.Core.Path.{refl}
use Rattle.fgo_state.specs.Memory.{memory}
use Rattle.fgo.proofs.Answering.{sound_is}
use Rattle.fgo.proofs.counters.Goals as goal

pub returns-else-is_sound : goal.returns-else-is_sound
returns-else-is_sound c filters =
    let g = c.args in
    rw (sound_is g.r.now (memory g.scans.now.bodies g.scans.now.columns g.owners.now g.tracks.now filters) c.is_sound.ensures (c.if-is_sound.false)) refl

pub returns-then-is_sound : goal.returns-then-is_sound
returns-then-is_sound c filters =
    let g = c.args in
    rw (sound_is g.r.now (memory g.scans.now.bodies g.scans.now.columns g.owners.now g.tracks.now filters) c.is_sound.ensures (c.if-is_sound.true)) refl
