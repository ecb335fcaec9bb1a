-- The body that says a frame: its bytes, what a frame must be so that a body can say it, and the law that reading gives
-- it back. Definitions only.
use Rattle.std.specs.Prelude.{ℕ, zero, suc, ◌-◌, ◌/◌, ◌%◌, ◌^◌, ◌<◌, ◌≤◌, ◌≡◌}
use Rattle.std.specs.Prelude.{true, cond, length, get_or, eqb, Float, None, Some}
use mathlib.Core.List.{List, [], ◌∷◌, ◌++◌, flat_map}
use Rattle.std.specs.Float.{binary64}
use Rattle.std.specs.Float.Ieee.{fits}
use Rattle.scalar.specs.Scalar.{finite, bits_of, word}
use Rattle.bounds.specs.Bounds.{ENGINES, SENSORS, SENSOR}
use Rattle.engine.specs.declared.types.BodyKind.{BodyKind}
use Rattle.engine.specs.declared.types.BodyKind.TheVariants.{Narrow}
use Rattle.engine.specs.declared.types.EngineTrack.{EngineTrack}
use Rattle.engine.specs.declared.types.Observation.{Observation}
use Rattle.engine.specs.declared.types.Association.{Association}
use Rattle.engine.specs.Frame.{Frame, mode_number, outcome_number, engine_of, no_track, no_observation, no_association, Associated, ClassLabel, Cost}
use Rattle.engine.specs.Body.{Layout, layout_of, time_ok, read, decode}

-- ---- bytes

-- the w little-endian bytes of n
unfoldable pub bytes_of : ℕ → ℕ → List ℕ
bytes_of zero n = []
bytes_of (suc w) n = n % 256 ∷ bytes_of w (n / 256)

-- fields one after the other, each a width and a number
unfoldable pub laid : List (ℕ × ℕ) → List ℕ
unfolding bytes_of
laid [] = []
laid (x ∷ l) = bytes_of x.0 x.1 ++ laid l

-- ---- the fields of each row. A present byte, and the value that it speaks of: "an absent value is zero"

-- "byte class present"
abbrev pub class_present : ClassLabel → ℕ
class_present None = 0
class_present (Some v) = 1

-- "u32 class"
abbrev pub class_value : ClassLabel → ℕ
class_value None = 0
class_value (Some v) = v

-- "id present"
abbrev pub id_present : Associated → ℕ
id_present None = 0
id_present (Some x) = 1

-- "cost present"
abbrev pub cost_present : Cost → ℕ
cost_present None = 0
cost_present (Some x) = 1

-- "f64 cost", as its pattern
abbrev pub cost_value : Cost → ℕ
cost_value None = 0
cost_value (Some x) = bits_of x

-- "Tracks: u64 id, u32 class, byte class present, three zeros"
abbrev pub track_fields : EngineTrack → List (ℕ × ℕ)
track_fields t = (8, t.id.0) ∷ (4, class_value t.class) ∷ (1, class_present t.class) ∷ (3, 0) ∷ []

-- "Sensors of the first track: u32"
abbrev pub sensor_fields : ℕ → List (ℕ × ℕ)
sensor_fields v = (SENSOR, v) ∷ []

-- "Observations: three f64"
abbrev pub observation_fields : Observation → List (ℕ × ℕ)
observation_fields p = (8, bits_of p.x) ∷ (8, bits_of p.y) ∷ (8, bits_of p.z) ∷ []

-- "Associations: bytes index, id present, outcome, cost present, four zeros, u64 id, f64 cost", with an index of w
-- bytes
abbrev pub association_fields : ℕ → Association → List (ℕ × ℕ)
association_fields w a =
    (w, a.index.0)
    ∷ (1, id_present a.track)
    ∷ (1, outcome_number a.outcome)
    ∷ (1, cost_present a.cost)
    ∷ (5 - w, 0)
    ∷ (8, engine_of a.track)
    ∷ (8, cost_value a.cost)
    ∷ []

-- the rows of a body, after its header
abbrev pub track_bytes : Frame → List ℕ
track_bytes f = flat_map (λ t. laid (track_fields t)) f.tracks

-- the sensors, one after the other
abbrev pub sensor_bytes : Frame → List ℕ
sensor_bytes f = flat_map (λ v. laid (sensor_fields v)) f.sensors

-- the observations
abbrev pub observation_bytes : Frame → List ℕ
observation_bytes f = flat_map (λ p. laid (observation_fields p)) f.observations

-- the associations, with indices of w bytes
abbrev pub association_bytes : ℕ → Frame → List ℕ
association_bytes w f = flat_map (λ a. laid (association_fields w a)) f.associations

-- all rows, in the order of the body
abbrev pub row_bytes : ℕ → Frame → List ℕ
row_bytes w f = track_bytes f ++ (sensor_bytes f ++ (observation_bytes f ++ association_bytes w f))

-- the header: "mode", the numbers of "engine tracks, observations, associations" and "sensors", "three zeros; i64 time"
abbrev pub head_fields : BodyKind → Frame → List (ℕ × ℕ)
head_fields Narrow f =
    (1, mode_number f.mode)
    ∷ (1, length f.tracks)
    ∷ (1, length f.observations)
    ∷ (1, length f.associations)
    ∷ (1, length f.sensors)
    ∷ (3, 0)
    ∷ (8, word f.time)
    ∷ []

-- the body of a kind that says a frame
unfoldable pub encode : BodyKind → Frame → List ℕ
encode b f = laid (head_fields b f) ++ row_bytes (layout_of b).width f

-- ---- which frames a body of a layout can say

-- a float of the format, as `lib.Ieee` writes it
abbrev pub Binary64 : Float → Type 0
Binary64 x = fits binary64 x ≡ true

-- a cost that is there is a float of the format
abbrev pub HeldCost : Cost → Type 0
HeldCost None = Unit
HeldCost (Some x) = Binary64 x

-- an engine track whose numbers have room
pub record TrackOk (t : EngineTrack) : Type 0 where
  pub id : t.id.0 < 2 ^ 64
  pub class : class_value t.class < 2 ^ 32

-- an observation that 6 does not refuse
pub record ObservationOk (p : Observation) : Type 0 where
  pub x : Binary64 p.x × (finite p.x ≡ true)
  pub y : Binary64 p.y × (finite p.y ≡ true)
  pub z : Binary64 p.z × (finite p.z ≡ true)

-- of an association in a frame with n observations
pub record AssociationOk (n : ℕ) (a : Association) : Type 0 where
  pub index : a.index.0 < n
  pub id : engine_of a.track < 2 ^ 64
  pub cost : HeldCost a.cost

-- a frame that a body of the layout can say
pub record FrameOk (k : Layout) (f : Frame) : Type 0 where
  pub few_tracks : length f.tracks ≤ ENGINES
  pub few_sensors : length f.sensors ≤ cond (eqb (length f.tracks) 0) 0 SENSORS
  pub few_observations : length f.observations ≤ k.observations
  pub few_associations : length f.associations ≤ k.associations
  pub time : time_ok f.time ≡ true
  pub tracks : (i : ℕ) → i < length f.tracks → TrackOk (get_or f.tracks i no_track)
  pub sensors : (i : ℕ) → i < length f.sensors → get_or f.sensors i 0 < 2 ^ 32
  pub observations : (i : ℕ) → i < length f.observations → ObservationOk (get_or f.observations i no_observation)
  pub associations : (j : ℕ) → j < length f.associations → AssociationOk (length f.observations) (get_or f.associations j no_association)
  -- no index stands twice
  pub once : (i j : ℕ) → i < j → j < length f.associations
      → (get_or f.associations i no_association).index.0 ≡ (get_or f.associations j no_association).index.0 → ⊥

-- ---- laws

-- a body that says a frame is read as that frame
abbrev pub ReadBack : Type 0
ReadBack = (b : BodyKind) (f : Frame) → FrameOk (layout_of b) f → decode (layout_of b) (encode b f) ≡ read f

-- so no body of a kind says two frames
abbrev pub OneFrame : Type 0
OneFrame = (b : BodyKind) (f g : Frame) → FrameOk (layout_of b) f → FrameOk (layout_of b) g → encode b f ≡ encode b g → f ≡ g
