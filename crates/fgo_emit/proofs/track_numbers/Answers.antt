use Rattle.std.proofs.Common.{to_z-of_z}
use Rattle.fgo_spec.specs.Emitting.{report}
use Rattle.engine.proofs.ReadBack.{time_fits}
use Rattle.fgo_emit.proofs.track_numbers.Goals as goal

pub returns : goal.returns
unfolding report
returns c = rw (c.row_of.ensures, c.position_variance.ensures, c.predict-k.ensures, c.seconds.ensures, to_z-of_z (time_fits c.args.at.time c.args.at.near), c.mean.ensures)
