-- Document 01, the smoother's settings: "lag 0 to 16, finite density, C tracks per frame, 1 to 128". Definitions only.
use Rattle.std.specs.Prelude.{ℕ, Bool, ◌&&◌, leb, Float}
use Rattle.bounds.specs.Bounds.{LAG, TRACKS}
use Rattle.scalar.specs.Scalar.{finite}
use Rattle.smoother_window.specs.declared.SmootherConfig.{SmootherConfig}

-- "lag"
abbrev pub lag : SmootherConfig → ℕ
lag c = c.lag_frames

-- "density"
abbrev pub density : SmootherConfig → Float
density c = c.accel_spectral_density

-- "C tracks per frame"
abbrev pub most : SmootherConfig → ℕ
most c = c.max_tracks

-- "lag 0 to 16", and "C tracks per frame, 1 to 128"
unfoldable pub bounded : SmootherConfig → Bool
bounded c = leb (lag c) LAG && (leb 1 (most c) && leb (most c) TRACKS)

-- "finite density" too
unfoldable pub legal : SmootherConfig → Bool
legal c = bounded c && finite (density c)
