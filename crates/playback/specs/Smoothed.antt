-- A smoother behind a refiner: its settings, and where calls of it have led. Definitions only.
use Rattle.std.specs.Prelude.{◌≡◌, true, List}
use Rattle.bounds.specs.Bounds.{TRACKS}
use Rattle.buffers.specs.Answer.{Op, Written}
use Rattle.engine.specs.declared.config.FgoConfig.{FgoConfig}
use Rattle.smoother_window.specs.declared.FixedLagSmoother.{FixedLagSmoother}
use Rattle.smoother_window.specs.declared.SmootherConfig.{SmootherConfig}
use Rattle.smoother_window.specs.Config.{legal}
use Rattle.smoother.specs.Promise.{Window}
use Rattle.histories.specs.Joined.{Reached}

-- the settings of a smoother behind a refiner: the same lag and density, for frames of as many tracks as it may emit
abbrev pub smoothing_of : FgoConfig → SmootherConfig
smoothing_of c = record { lag_frames = c.lag_frames; accel_spectral_density = c.accel_spectral_density; max_tracks = TRACKS }

-- pushes and takes have led to a smoother and its window
pub record Smoothed (s : FixedLagSmoother) (w : Window) : Type 0 where
  pub settings : legal s.config ≡ true
  pub calls : List (Op Written)
  pub reached : Reached s.config calls s w
