-- Document 01: "Settings are the eleven fields of `FgoConfig`". Definitions only.
use Rattle.std.specs.Prelude.{ℕ, Bool, ◌&&◌, leb, ℤ, pos, Float}
use Rattle.std.specs.Float.{binary64}
use Rattle.std.specs.Float.Ieee.{of_bits, mul}
use Rattle.bounds.specs.Bounds.{LAG, PASSES}
use Rattle.scalar.specs.Scalar.{finite, signed}
use Rattle.engine.specs.declared.config.FgoConfig.{FgoConfig}

-- "lag_frames"; the fields stand in the order of `FgoConfig`
abbrev pub lag : FgoConfig → ℕ
lag c = c.lag_frames

-- "radius": how near two detections of a pair have to come
abbrev pub radius : FgoConfig → Float
radius c = c.radius_m

-- "birth_cost"
abbrev pub birth : FgoConfig → Float
birth c = c.birth_cost

-- "miss_cost"
abbrev pub miss : FgoConfig → Float
miss c = c.miss_cost

-- "clutter_cost"
abbrev pub clutter : FgoConfig → Float
clutter c = c.clutter_cost

-- the acceleration spectral density, "q"
abbrev pub density : FgoConfig → Float
density c = c.accel_spectral_density

-- the standard deviation of a position, "sigma"
abbrev pub sigma : FgoConfig → Float
sigma c = c.position_sigma_m

-- "r = sigma²": the variance of a position
abbrev pub position_variance : FgoConfig → Float
position_variance c = mul binary64 (sigma c) (sigma c)

-- the variance of a new track's speed, "initial variance"
abbrev pub variance : FgoConfig → Float
variance c = c.initial_velocity_variance

-- "coast_ns"
abbrev pub coast : FgoConfig → ℤ
coast c = c.coast_ns

-- "forget_after_ns"
abbrev pub forget_after : FgoConfig → ℤ
forget_after c = c.forget_after_ns

-- "max_passes"
abbrev pub max_passes_of : FgoConfig → ℕ
max_passes_of c = c.max_passes

-- "lag_frames 0 to 16, max_passes 0 to 1,000, seven finite f64, two free i64"
unfoldable pub legal : FgoConfig → Bool
legal c =
    leb (lag c) LAG
    && (leb (max_passes_of c) PASSES
    && (finite (radius c)
    && (finite (birth c)
    && (finite (miss c) && (finite (clutter c) && (finite (density c) && (finite (sigma c) && finite (variance c))))))))

-- "Default settings", those of the published `FgoConfig`
abbrev pub defaults : FgoConfig
defaults =
    record {
      lag_frames = 10;
      radius_m = of_bits binary64 0x3ff8_0000_0000_0000;
      birth_cost = of_bits binary64 0x4039_0000_0000_0000;
      miss_cost = of_bits binary64 0x3fd3_3333_3333_3333;
      clutter_cost = of_bits binary64 0x403e_0000_0000_0000;
      accel_spectral_density = of_bits binary64 0x3fe0_0000_0000_0000;
      position_sigma_m = of_bits binary64 0x3fd0_0000_0000_0000;
      initial_velocity_variance = of_bits binary64 0x3ff0_0000_0000_0000;
      coast_ns = pos 500000000;
      forget_after_ns = pos 2000000000;
      max_passes = 20;
    }

module _ (field : ℕ → ℕ) where
  -- field i as an f64
  abbrev real : ℕ → Float
  real i = of_bits binary64 (field i)

  -- field i as an i64
  abbrev nanoseconds : ℕ → ℤ
  nanoseconds i = signed (field i)

  -- the settings of eleven fields, each of eight bytes and given as a word, in the order of `FgoConfig`
  abbrev pub config_by : FgoConfig
  config_by =
      record {
        lag_frames = field 0;
        radius_m = real 1;
        birth_cost = real 2;
        miss_cost = real 3;
        clutter_cost = real 4;
        accel_spectral_density = real 5;
        position_sigma_m = real 6;
        initial_velocity_variance = real 7;
        coast_ns = nanoseconds 8;
        forget_after_ns = nanoseconds 9;
        max_passes = field 10;
      }
