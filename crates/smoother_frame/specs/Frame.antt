-- Document 01, "Emitted words" and "Numbers": a frame as the smoother takes and gives it. Definitions only.
use Rattle.std.specs.Prelude.{ℕ, ◌+◌, ◌*◌, ◌^◌, ◌≤◌, ◌≡◌, Bool, ◌&&◌, List, length, get_or, set, leb, ltb, eqb, ℤ, Float}
use Rattle.std.specs.Float.{nan}
use Rattle.bounds.specs.Bounds.{HEAD, TRACK, TRACKS, LINK, STATE, ASSOCIATIONS, SENSORS}
use Rattle.buffers.specs.Answer.{Written}
use Rattle.scalar.specs.Scalar.{bits_of, signed}
use Rattle.engine.specs.Body.{all, code_ok, present_ok, time_ok}
use Rattle.smoother_frame.specs.declared.counts.FrameCounts.{FrameCounts}

-- "A smoother frame is these two lists at their exact length": the frame of two lists
abbrev pub frame : List ℕ → List Float → Written
frame w x = record { words = w; numbers = x }

-- ---- what stands where in the words

module _ (w : List ℕ) where
  -- "time, mode, tracks, associations, sensors, smoothed"
  abbrev pub time : ℤ
  time = signed (get_or w 0 0)

  -- "mode"
  abbrev pub mode_word : ℕ
  mode_word = get_or w 1 0

  -- "tracks": how many there are
  abbrev pub track_count : ℕ
  track_count = get_or w 2 0

  -- "associations": how many there are
  abbrev pub association_count : ℕ
  association_count = get_or w 3 0

  -- "sensors": how many there are
  abbrev pub sensor_count : ℕ
  sensor_count = get_or w 4 0

  -- "smoothed"
  abbrev pub smoothed_word : ℕ
  smoothed_word = get_or w 5 0

  -- the words with another "smoothed"
  abbrev pub smoothed_as : ℕ → List ℕ
  smoothed_as flag = set w 5 flag

  -- "per track id, lifecycle (0 tentative, 1 confirmed), last time, age, class (2^32 if none), count": last time and
  -- age are free
  abbrev pub id_word : ℕ → ℕ
  id_word i = get_or w (HEAD + TRACK * i) 0

  -- "lifecycle (0 tentative, 1 confirmed)" of track i
  abbrev pub lifecycle_word : ℕ → ℕ
  lifecycle_word i = get_or w (HEAD + TRACK * i + 1) 0

  -- "class (2^32 if none)" of track i
  abbrev pub class_word : ℕ → ℕ
  class_word i = get_or w (HEAD + TRACK * i + 4) 0

  -- "count" of track i
  abbrev pub count_word : ℕ → ℕ
  count_word i = get_or w (HEAD + TRACK * i + 5) 0

  -- "per association index, id (0 none), outcome, cost present": index and id are free
  abbrev pub associations_from : ℕ
  associations_from = HEAD + TRACK * track_count

  -- "outcome" of association j
  abbrev pub outcome_word : ℕ → ℕ
  outcome_word j = get_or w (associations_from + LINK * j + 2) 0

  -- "cost present" of association j
  abbrev pub cost_present_word : ℕ → ℕ
  cost_present_word j = get_or w (associations_from + LINK * j + 3) 0

  -- "then the frame's sensors"
  abbrev pub sensors_from : ℕ
  sensors_from = associations_from + LINK * association_count

  -- sensor k
  abbrev pub sensor_word : ℕ → ℕ
  sensor_word k = get_or w (sensors_from + k) 0

  -- how many words the counts ask for
  abbrev pub words_long : ℕ
  words_long = sensors_from + sensor_count

  -- "Numbers: per track position 3, velocity 3, covariance 36 by rows; then one cost per association"
  abbrev pub costs_from : ℕ
  costs_from = STATE * track_count

  -- how many numbers the counts ask for
  abbrev pub numbers_long : ℕ
  numbers_long = costs_from + association_count

-- ---- 5: "frame malformed, or a count, code or time out of bounds"

-- "the same counts, codes and bound on the time (smoothed 0 or 1; the refiner's is 0)", "at most C tracks"
unfoldable pub head_ok : ℕ → List ℕ → Bool
head_ok most w =
    leb HEAD (length w)
    && (time_ok (time w)
    && (code_ok (mode_word w)
    && (leb (track_count w) most
    && (leb (association_count w) ASSOCIATIONS && (leb (sensor_count w) SENSORS && leb (smoothed_word w) 1)))))

-- lifecycle 0 or 1, "class at most 2^32", and a count "below 2^32"
unfoldable pub track_ok : List ℕ → ℕ → Bool
track_ok w i = leb (lifecycle_word w i) 1 && (leb (class_word w i) (2 ^ 32) && ltb (count_word w i) (2 ^ 32))

-- the outcome has three codes; "absent costs 0", with all bits zero
unfoldable pub association_ok : List ℕ → List Float → ℕ → Bool
association_ok w x j = code_ok (outcome_word w j) && present_ok (cost_present_word w j) (bits_of (get_or x (costs_from w + j) nan))

-- "sensors below 2^32"
unfoldable pub sensor_ok : List ℕ → ℕ → Bool
sensor_ok w k = ltb (sensor_word w k) (2 ^ 32)

-- "at their exact length"
unfoldable pub exact : List ℕ → List Float → Bool
exact w x = eqb (length w) (words_long w) && eqb (length x) (numbers_long w)

-- each track, association and sensor is in bounds
unfoldable pub rows_ok : List ℕ → List Float → Bool
rows_ok w x =
    all (track_ok w) (track_count w) && (all (association_ok w x) (association_count w) && all (sensor_ok w) (sensor_count w))

-- "all else is free"
unfoldable pub well_formed : ℕ → Written → Bool
well_formed most f = head_ok most f.words && (exact f.words f.numbers && rows_ok f.words f.numbers)

-- ---- what the readers ask

-- a head, with counts in bounds
pub record Counts (w : List ℕ) : Type 0 where
  pub long : HEAD ≤ length w
  pub tracks : track_count w ≤ TRACKS
  pub associations : association_count w ≤ ASSOCIATIONS
  pub sensors : sensor_count w ≤ SENSORS

-- these are the counts of some words
pub record CountsOf (w : List ℕ) (c : FrameCounts) : Type 0 where
  pub long : HEAD ≤ length w
  pub tracks : c.tracks ≡ track_count w
  pub associations : c.associations ≡ association_count w
  pub sensors : c.sensors ≡ sensor_count w

-- and the two lists have the lengths that they ask for
pub record Framed (c : FrameCounts) (w : List ℕ) (x : List Float) : Type 0 where
  pub counts : CountsOf w c
  pub words : length w ≡ words_long w
  pub numbers : length x ≡ numbers_long w
