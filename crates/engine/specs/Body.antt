-- Document 01, "Frame body", and refusals 5, 6 and 7. Definitions only.
use Rattle.std.specs.Prelude.{ℕ, zero, suc, ◌+◌, ◌-◌, ◌*◌, ◌<◌, ◌≡◌, List, [], ◌∷◌, Bool}
use Rattle.std.specs.Prelude.{true, cond, ◌&&◌, not, length, get_or, leb, ltb, eqb, ℤ, pos, nat_abs}
use Rattle.std.specs.Float.{binary64}
use Rattle.std.specs.Float.Ieee.{of_bits}
use Rattle.bounds.specs.Bounds.{TIME, ENGINES, SENSORS, OBSERVATIONS, ASSOCIATIONS, HEADER, ENGINE, SENSOR, OBSERVATION, ASSOCIATION}
use Rattle.scalar.specs.Scalar.{finite, signed}
use Rattle.engine.specs.declared.body.Body as lent
use Rattle.engine.specs.declared.types.BodyKind.{BodyKind}
use Rattle.engine.specs.declared.types.BodyKind.TheVariants.{Narrow}
use Rattle.engine.specs.declared.types.EngineTrack.{EngineTrack}
use Rattle.engine.specs.declared.types.Observation.{Observation}
use Rattle.engine.specs.declared.types.Association.{Association}
use Rattle.engine.specs.Little.{little}
use Rattle.engine.specs.Frame.{Frame, mode_of, outcome_of, present, no_track, no_observation, no_association}

-- ---- where things stand: what a kind of body is, apart from the meaning of its rows

-- where counts and rows stand in a kind of body
pub record Layout : Type 0 where
  -- bytes of a count of observations or associations, and of an index
  pub width : ℕ
  -- the most observations, and the most associations
  pub observations : ℕ
  pub associations : ℕ
  -- bytes of the header, and where in it each count stands
  pub head : ℕ
  pub sensors_at : ℕ
  pub observations_at : ℕ
  pub associations_at : ℕ
  -- the header's runs of zeros: how many, and from where on
  pub zeros : List (ℕ × ℕ)

-- "bytes mode, engine tracks, observations, associations (each at most 32), sensors, three zeros; i64 time"
abbrev pub narrow : Layout
narrow =
    record {
      width = 1;
      observations = OBSERVATIONS;
      associations = ASSOCIATIONS;
      head = HEADER;
      sensors_at = 4;
      observations_at = 2;
      associations_at = 3;
      zeros = (3, 5) ∷ [];
    }

-- the layout of a kind of body
abbrev pub layout_of : BodyKind → Layout
layout_of Narrow = narrow

-- a body: its kind, and its bytes
pub record Body : Type 0 where
  pub kind : BodyKind
  pub bytes : List ℕ

-- the body of a kind that has some bytes
abbrev pub body : BodyKind → List ℕ → Body
body k s = record { kind = k; bytes = s }

-- the body that a caller lends
abbrev pub body_of : lent.Body → Body
body_of b = body b.kind b.bytes.now

-- the layout of a body
abbrev pub layout : Body → Layout
layout b = layout_of b.kind

-- ---- tests

-- p holds of each number below n
unfoldable pub all : (ℕ → Bool) → ℕ → Bool
all p zero = true
all p (suc n) = all p n && p n

-- the mode byte and the outcome byte have three codes
unfoldable pub code_ok : ℕ → Bool
code_ok b = leb b 2

-- "Present bytes are 0 or 1; an absent value is zero"
unfoldable pub present_ok : ℕ → ℕ → Bool
present_ok p v = cond (eqb p 0) (eqb v 0) (eqb p 1)

-- "time, at most 2^62 − 1 in size"
unfoldable pub time_ok : ℤ → Bool
time_ok t = leb (nat_abs t) TIME

-- n zero bytes
abbrev pub zero_bytes : ℕ → List ℕ → ℕ → Bool
zero_bytes n s o = eqb (little n s o) 0

-- the zeros of each run
unfoldable pub zeros_ok : List (ℕ × ℕ) → List ℕ → Bool
zeros_ok [] s = true
zeros_ok (z ∷ zs) s = zero_bytes z.0 s z.1 && zeros_ok zs s

-- "Tracks: u64 id, u32 class, byte class present, three zeros"
unfoldable pub track_ok : List ℕ → ℕ → Bool
track_ok s o = present_ok (get_or s (o + 12) 0) (little 4 s (o + 8)) && zero_bytes 3 s (o + 13)

-- "Associations: bytes index, id present, outcome, cost present, four zeros, u64 id, f64 cost (any bits)", with an
-- index of w bytes
unfoldable pub association_ok : ℕ → List ℕ → ℕ → Bool
association_ok w s o =
    present_ok (get_or s (o + w) 0) (little 8 s (o + 8))
    && (code_ok (get_or s (o + (w + 1)) 0)
    && (present_ok (get_or s (o + (w + 2)) 0) (little 8 s (o + 16)) && zero_bytes (5 - w) s (o + (w + 3))))

-- 6: "a coordinate not finite"
unfoldable pub observation_ok : List ℕ → ℕ → Bool
observation_ok s o =
    finite (of_bits binary64 (little 8 s o))
    && (finite (of_bits binary64 (little 8 s (o + 8))) && finite (of_bits binary64 (little 8 s (o + 16))))

-- the index of association j, of those that stand from place a on
abbrev pub index_at : ℕ → List ℕ → ℕ → ℕ → ℕ
index_at w s a j = little w s (a + ASSOCIATION * j)

-- 7: "an association's index is past the observations, or stands twice"
unfoldable pub index_ok : ℕ → List ℕ → ℕ → ℕ → ℕ → Bool
index_ok w s a n j = ltb (index_at w s a j) n && all (λ i. not (eqb (index_at w s a i) (index_at w s a j))) j

module _ (k : Layout) (s : List ℕ) where
  -- how many of each
  abbrev pub track_count : ℕ
  track_count = get_or s 1 0

  -- "sensors"
  abbrev pub sensor_count : ℕ
  sensor_count = get_or s k.sensors_at 0

  -- "observations"
  abbrev pub observation_count : ℕ
  observation_count = little k.width s k.observations_at

  -- "associations"
  abbrev pub association_count : ℕ
  association_count = little k.width s k.associations_at

  -- where the sensors, the observations and the associations begin, and where the body ends
  abbrev pub sensors_from : ℕ
  sensors_from = k.head + ENGINE * track_count

  -- where the observations begin
  abbrev pub observations_from : ℕ
  observations_from = sensors_from + SENSOR * sensor_count

  -- where the associations begin
  abbrev pub associations_from : ℕ
  associations_from = observations_from + OBSERVATION * observation_count

  -- how long the body is: "The length is exact"
  abbrev pub size : ℕ
  size = associations_from + ASSOCIATION * association_count

  -- "i64 time"
  abbrev pub time : ℤ
  time = signed (little 8 s 8)

  -- "sensors (at most 8, 0 without engine tracks)"; "The length is exact"
  unfoldable pub head_ok : Bool
  head_ok =
      leb k.head (length s)
      && (code_ok (get_or s 0 0)
      && (leb track_count ENGINES
      && (leb observation_count k.observations
      && (leb association_count k.associations
      && (leb sensor_count (cond (eqb track_count 0) 0 SENSORS)
      && (zeros_ok k.zeros s && (time_ok time && eqb (length s) size)))))))

  -- each engine track is well formed
  unfoldable pub tracks_ok : Bool
  tracks_ok = all (λ i. track_ok s (k.head + ENGINE * i)) track_count

  -- each association is well formed
  unfoldable pub associations_ok : Bool
  associations_ok = all (λ j. association_ok k.width s (associations_from + ASSOCIATION * j)) association_count

  -- each observation passes 6
  unfoldable pub observations_ok : Bool
  observations_ok = all (λ i. observation_ok s (observations_from + OBSERVATION * i)) observation_count

  -- each index passes 7
  unfoldable pub indices_ok : Bool
  indices_ok = all (index_ok k.width s associations_from observation_count) association_count

  -- the refusal that a body gets, in the table's order; 0 for none
  unfoldable pub refusal : ℕ
  refusal = cond (head_ok && (tracks_ok && associations_ok)) (cond observations_ok (cond indices_ok 0 7) 6) 5

-- ---- reading

-- g at n numbers from i on
unfoldable pub rows : {A : Type 0} → (ℕ → A) → ℕ → ℕ → List A
rows g i zero = []
rows g i (suc n) = g i ∷ rows g (suc i) n

-- "Tracks: u64 id, u32 class, byte class present, three zeros": the engine track at place o
unfoldable pub track_at : List ℕ → ℕ → EngineTrack
track_at s o = record { id = record { 0 = little 8 s o }; class = present (get_or s (o + 12) 0) (little 4 s (o + 8)) }

-- "Observations: three f64": the one at place o
unfoldable pub observation_at : List ℕ → ℕ → Observation
observation_at s o =
    record {
      x = of_bits binary64 (little 8 s o);
      y = of_bits binary64 (little 8 s (o + 8));
      z = of_bits binary64 (little 8 s (o + 16));
    }

-- "Associations: bytes index, id present, outcome, cost present, four zeros, u64 id, f64 cost": the one at place o,
-- with an index of w bytes
unfoldable pub association_at : ℕ → List ℕ → ℕ → Association
association_at w s o =
    record {
      index = record { 0 = little w s o };
      track = present (get_or s (o + w) 0) (record { 0 = little 8 s (o + 8) });
      outcome = outcome_of (get_or s (o + (w + 1)) 0);
      cost = present (get_or s (o + (w + 2)) 0) (of_bits binary64 (little 8 s (o + 16)));
    }

-- what a body says, whether it is refused or not
unfoldable pub frame_of : Layout → List ℕ → Frame
frame_of k s =
    record {
      mode = mode_of (get_or s 0 0);
      time = time k s;
      tracks = rows (λ i. track_at s (k.head + ENGINE * i)) 0 (track_count k s);
      sensors = rows (λ i. little SENSOR s (sensors_from k s + SENSOR * i)) 0 (sensor_count k s);
      observations = rows (λ i. observation_at s (observations_from k s + OBSERVATION * i)) 0 (observation_count k s);
      associations = rows (λ j. association_at k.width s (associations_from k s + ASSOCIATION * j)) 0 (association_count k s);
    }

-- ---- of a body

-- what it says
abbrev pub frame_in : Body → Frame
frame_in b = frame_of (layout b) b.bytes

-- the refusal that it gets, 0 for none
abbrev pub body_refusal : Body → ℕ
body_refusal b = refusal (layout b) b.bytes

-- how many engine tracks, sensors, observations and associations it says
abbrev pub tracks_in : Body → ℕ
tracks_in b = track_count (layout b) b.bytes

-- sensors
abbrev pub sensors_in : Body → ℕ
sensors_in b = sensor_count (layout b) b.bytes

-- observations
abbrev pub observations_in : Body → ℕ
observations_in b = observation_count (layout b) b.bytes

-- associations
abbrev pub associations_in : Body → ℕ
associations_in b = association_count (layout b) b.bytes

-- ---- 7, in a frame's terms

-- the observation that association j names
abbrev pub index_of : Frame → ℕ → ℕ
index_of f j = (get_or f.associations j no_association).index.0

-- each association names an observation that is there, and no two name one
pub record NamedOnce (f : Frame) : Type 0 where
  pub within : (j : ℕ) → j < length f.associations → index_of f j < length f.observations
  pub once : (i j : ℕ) → i < length f.associations → j < length f.associations → index_of f i ≡ index_of f j → i ≡ j

-- the law, in proofs/: named_once : (b : Body) → body_refusal b ≡ 0 → NamedOnce (frame_in b)

-- ---- what the readers answer on any bytes: the field where its bytes are all there, and else a value that stands for
-- none

-- row i of n rows of w bytes each from place o on: none past the last row, and where the bytes end before the row does
unfoldable pub row_read : {A : Type 0} → A → (ℕ → A) → List ℕ → ℕ → ℕ → ℕ → ℕ → A
row_read none at s w n o i = cond (leb n i) none (cond (ltb (length s) (o + w * i + w)) none (at (o + w * i)))

module _ (k : Layout) (s : List ℕ) where
  -- the time, 0 where the header is not all there
  abbrev pub time_read : ℤ
  time_read = cond (ltb (length s) k.head) (pos 0) (time k s)

  -- sensor i, 0 for none
  abbrev pub sensor_read : ℕ → ℕ
  sensor_read i = row_read 0 (little SENSOR s) s SENSOR (sensor_count k s) (sensors_from k s) i

  -- engine track i
  abbrev pub track_read : ℕ → EngineTrack
  track_read i = row_read no_track (track_at s) s ENGINE (track_count k s) k.head i

  -- observation i
  abbrev pub observation_read : ℕ → Observation
  observation_read i = row_read no_observation (observation_at s) s OBSERVATION (observation_count k s) (observations_from k s) i

  -- association j
  abbrev pub association_read : ℕ → Association
  association_read j = row_read no_association (association_at k.width s) s ASSOCIATION (association_count k s) (associations_from k s) j

-- what a push makes of a body: a frame, or 5, 6 or 7
pub data Decoded : Type 0 where
  refused : ℕ → Decoded
  read : Frame → Decoded

-- by the refusal that the body gets
abbrev pub decoded_by : ℕ → Frame → Decoded
decoded_by zero f = read f
decoded_by (suc n) f = refused (suc n)

-- a frame, or the first of 5, 6 and 7 that holds
unfoldable pub decode : Layout → List ℕ → Decoded
decode k s = decoded_by (refusal k s) (frame_of k s)
