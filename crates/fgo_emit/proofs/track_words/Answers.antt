use mir.Facts.{to_z-of_z}
use Rattle.fgo_spec.specs.Emitting.{report}
use Rattle.engine.proofs.ReadBack.{time_fits}
use Rattle.fgo_freeze.proofs.Times.{passed_on}
use Rattle.fgo_emit.proofs.track_words.Goals as goal

pub returns : goal.returns
unfolding report
returns c = let called = c.age_of in
    let last = to_z-of_z (time_fits c.args.p.last_ns c.requires.last) in
    rw (c.class_word.ensures.0, c.to_word-2.ensures, c.to_word.ensures, c.lifecycle.ensures, passed_on called.result called.type_inv, called.ensures, last)
