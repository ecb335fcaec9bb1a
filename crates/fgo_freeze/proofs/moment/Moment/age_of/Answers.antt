use mir.Facts.{to_z-of_z}
use Rattle.engine.proofs.ReadBack.{time_fits}
use Rattle.fgo_freeze.proofs.Times.{age_fits}
use Rattle.fgo_freeze.proofs.moment.Moment.age_of.Goals as goal

pub overflow_sub-result : goal.overflow_sub-result
overflow_sub-result c = let a = c.args in rw (to_z-of_z (time_fits a.self.time a.self.near), to_z-of_z c.ranges.last) (age_fits a.self.time a.last a.self.near c.requires)

pub returns : goal.returns
returns c = let a = c.args in rw (to_z-of_z (time_fits a.self.time a.self.near), to_z-of_z c.ranges.last, to_z-of_z (age_fits a.self.time a.last a.self.near c.requires))
