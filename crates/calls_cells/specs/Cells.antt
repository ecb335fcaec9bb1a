-- A refiner and a smoother as cells: "Fields, refiner: 0 to 10 the settings, 11 first scan, 12 held, 13 frozen, 14
-- owned, 15 next id, 16 to 19 counters; smoother: 0 lag, 1 density, 2 C, 3 slot of the oldest, 4 held". Definitions
-- only.
use Rattle.std.specs.Prelude.{ℕ, List, [], ◌∷◌, get_or}
use Rattle.std.specs.Float.{binary64}
use Rattle.std.specs.Float.Ieee.{of_bits}
use Rattle.scalar.specs.Scalar.{bits_of, word}
use Rattle.engine.specs.Config.{config_by}
use Rattle.engine.specs.declared.config.FgoConfig.{FgoConfig}
use Rattle.fgo_state.specs.declared.state.FixedLagRefiner.{FixedLagRefiner}
use Rattle.smoother_window.specs.declared.FixedLagSmoother.{FixedLagSmoother}

-- the fields of a refiner as words
unfoldable pub refiner_fields : FixedLagRefiner → List ℕ
refiner_fields r =
    let c = r.config in
    c.lag_frames
    ∷ bits_of c.radius_m
    ∷ bits_of c.birth_cost
    ∷ bits_of c.miss_cost
    ∷ bits_of c.clutter_cost
    ∷ bits_of c.accel_spectral_density
    ∷ bits_of c.position_sigma_m
    ∷ bits_of c.initial_velocity_variance
    ∷ word c.coast_ns
    ∷ word c.forget_after_ns
    ∷ c.max_passes
    ∷ r.first.0
    ∷ r.held
    ∷ r.frozen
    ∷ r.owned
    ∷ r.next_id.0
    ∷ r.counters.swaps
    ∷ r.counters.merges
    ∷ r.counters.splits
    ∷ r.counters.drops
    ∷ []

module _ (f : List ℕ) where
  -- field i of a list of words
  abbrev field : ℕ → ℕ
  field i = get_or f i 0

  -- the settings of such fields
  unfoldable pub config_of : FgoConfig
  config_of = config_by field

  -- the refiner of such fields
  unfoldable pub refiner_of : FixedLagRefiner
  refiner_of =
      record {
        config = config_of;
        first = record { 0 = field 11 };
        held = field 12;
        frozen = field 13;
        owned = field 14;
        next_id = record { 0 = field 15 };
        counters = record { swaps = field 16; merges = field 17; splits = field 18; drops = field 19 };
      }

  -- the smoother of such fields
  unfoldable pub smoother_of : FixedLagSmoother
  smoother_of =
      record {
        config = record { lag_frames = field 0; accel_spectral_density = of_bits binary64 (field 1); max_tracks = field 2 };
        first = field 3;
        held = field 4;
      }

-- the fields of a smoother as words
unfoldable pub smoother_fields : FixedLagSmoother → List ℕ
smoother_fields s =
    s.config.lag_frames ∷ bits_of s.config.accel_spectral_density ∷ s.config.max_tracks ∷ s.first ∷ s.held ∷ []
