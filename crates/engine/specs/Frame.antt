-- Document 01, "types.rs (502 lines), engine.rs (931): records": what a frame says. Definitions only.
use Rattle.std.specs.Prelude.{ℕ, zero, suc, List, ℤ, Float, Option, None, Some}
use Rattle.std.specs.Float.{nan}
use Rattle.engine.specs.declared.types.EngineId.{EngineId}
use Rattle.engine.specs.declared.types.TrackingMode.{TrackingMode}
use Rattle.engine.specs.declared.types.TrackingMode.TheVariants.{LidarOnly, CameraAssociated, CameraAssisted}
use Rattle.engine.specs.declared.types.Outcome.{Outcome}
use Rattle.engine.specs.declared.types.Outcome.TheVariants.{Updated, Spawned, Unmatched}
use Rattle.engine.specs.declared.types.EngineTrack.{EngineTrack}
use Rattle.engine.specs.declared.types.Observation.{Observation}
use Rattle.engine.specs.declared.types.Association.{Association}

-- the engine track of an association, if it has one
abbrev pub Associated : Type 0
Associated = Option EngineId

-- a class, if it is known
abbrev pub ClassLabel : Type 0
ClassLabel = Option ℕ

-- what the engine paid for an association, if it says
abbrev pub Cost : Type 0
Cost = Option Float

-- a frame: its mode, its time in nanoseconds, engine tracks, sensors, observations and associations
pub record Frame : Type 0 where
  pub mode : TrackingMode
  pub time : ℤ
  pub tracks : List EngineTrack
  -- "Sensors of the first track"
  pub sensors : List ℕ
  pub observations : List Observation
  pub associations : List Association

-- "mode (0 LidarOnly, 1 CameraAssociated, 2 CameraAssisted)"
abbrev pub mode_number : TrackingMode → ℕ
mode_number LidarOnly = 0
mode_number CameraAssociated = 1
mode_number CameraAssisted = 2

-- the mode of a byte; every byte above 1 is read as the last
abbrev pub mode_of : ℕ → TrackingMode
mode_of zero = LidarOnly
mode_of (suc zero) = CameraAssociated
mode_of (suc (suc n)) = CameraAssisted

-- "The outcome byte is 0 updated, 1 spawned, 2 unmatched"
abbrev pub outcome_number : Outcome → ℕ
outcome_number Updated = 0
outcome_number Spawned = 1
outcome_number Unmatched = 2

-- the outcome of a byte, likewise
abbrev pub outcome_of : ℕ → Outcome
outcome_of zero = Updated
outcome_of (suc zero) = Spawned
outcome_of (suc (suc n)) = Unmatched

-- a present byte, and the value that it speaks of
abbrev pub present : {A : Type 0} → ℕ → A → Option A
present zero v = None
present (suc n) v = Some v

-- the engine id of an association, 0 where it has none
abbrev pub engine_of : Associated → ℕ
engine_of None = 0
engine_of (Some e) = e.0

-- what an accessor answers past the last row
abbrev pub no_track : EngineTrack
no_track = record { id = record { 0 = 0 }; class = None }

-- a dot that is nowhere
abbrev pub no_observation : Observation
no_observation = record { x = nan; y = nan; z = nan }

-- an association of nothing
abbrev pub no_association : Association
no_association = record { index = record { 0 = 0 }; track = None; outcome = Unmatched; cost = None }
