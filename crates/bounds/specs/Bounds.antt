-- Every bound and every stride, by name, as the code has them in src/lib.rt. Definitions only.
--
-- A name in the singular says how long one is (BODY), and that in the plural how long the array of all of them is
-- (BODIES); how many there are at most has a name of its own (SCANS).
use Rattle.std.specs.Prelude.{ℕ, ◌+◌, ◌-◌, ◌*◌, ◌^◌}

-- ---- scans

-- The longest lag, of a refiner and of a smoother.
abbrev pub LAG : ℕ
LAG = 16

-- Scans held at most: those of the lag, and the one that is pushed.
abbrev pub SCANS : ℕ
SCANS = LAG + 1

-- The most passes of a search.
abbrev pub PASSES : ℕ
PASSES = 1000

-- The most scans that a refiner accepts: 2^32 - 1.
abbrev pub ACCEPTED : ℕ
ACCEPTED = 2 ^ 32 - 1

-- The most that the next id or a counter may be at a push: 2^60.
abbrev pub COUNTED : ℕ
COUNTED = 2 ^ 60

-- The greatest time in size, in nanoseconds: 2^62 - 1.
abbrev pub TIME : ℕ
TIME = 2 ^ 62 - 1

-- ---- a frame's body

-- Engine tracks of a frame at most.
abbrev pub ENGINES : ℕ
ENGINES = 32

-- Sensors at most.
abbrev pub SENSORS : ℕ
SENSORS = 8

-- Observations at most.
abbrev pub OBSERVATIONS : ℕ
OBSERVATIONS = 32

-- Associations at most.
abbrev pub ASSOCIATIONS : ℕ
ASSOCIATIONS = 32

-- The bytes of a header.
abbrev pub HEADER : ℕ
HEADER = 16

-- The bytes of an engine track.
abbrev pub ENGINE : ℕ
ENGINE = 16

-- The bytes of a sensor.
abbrev pub SENSOR : ℕ
SENSOR = 4

-- The bytes of an observation.
abbrev pub OBSERVATION : ℕ
OBSERVATION = 24

-- The bytes of an association.
abbrev pub ASSOCIATION : ℕ
ASSOCIATION = 24

-- The bytes of the longest body.
abbrev pub BODY : ℕ
BODY = HEADER + ENGINE * ENGINES + SENSOR * SENSORS + OBSERVATION * OBSERVATIONS + ASSOCIATION * ASSOCIATIONS

-- ---- a recording

-- The bytes of a setting.
abbrev pub SETTING : ℕ
SETTING = 8

-- The bytes of the eleven settings.
abbrev pub SETTINGS : ℕ
SETTINGS = 11 * SETTING

-- The bytes before the contents table: the settings and the number of frames.
abbrev pub CONTENTS : ℕ
CONTENTS = SETTINGS + 4

-- The bytes of an entry of the contents table.
abbrev pub ENTRY : ℕ
ENTRY = 8

-- Frames of a recording at most.
abbrev pub FRAMES : ℕ
FRAMES = 256

-- Bytes of a recording at most.
abbrev pub RECORDING : ℕ
RECORDING = 65536

-- ---- the refiner's memory

-- Frozen parts, detections in windows and new associations with an id at most, all together.
abbrev pub DETECTIONS : ℕ
DETECTIONS = 128

-- Frozen parts at most.
abbrev pub FROZEN : ℕ
FROZEN = DETECTIONS

-- Engine ids with an owner at most.
abbrev pub OWNED : ℕ
OWNED = 256

-- The words of a column: the length of a scan's body, and the refined id of each association.
abbrev pub COLUMN : ℕ
COLUMN = 1 + ASSOCIATIONS

-- The words of an owner's entry: an engine id, and the refined id that owns it.
abbrev pub OWNER : ℕ
OWNER = 2

-- The words of a frozen part: id, last frame, last time, count, class, and how many heights it has.
abbrev pub PART : ℕ
PART = 6

-- The numbers of a filter.
abbrev pub KF : ℕ
KF = 8

-- Heights that a frozen part keeps at most.
abbrev pub HEIGHTS : ℕ
HEIGHTS = 5

-- The numbers of a frozen part: those of its filter, and its heights.
abbrev pub FILTER : ℕ
FILTER = KF + HEIGHTS

-- The five arrays that are lent: bodies of held scans,
abbrev pub BODIES : ℕ
BODIES = SCANS * BODY

-- their columns,
abbrev pub COLUMNS : ℕ
COLUMNS = SCANS * COLUMN

-- owners of engine ids,
abbrev pub OWNERS : ℕ
OWNERS = OWNED * OWNER

-- and the words of the frozen parts
abbrev pub PARTS : ℕ
PARTS = FROZEN * PART

-- with their numbers.
abbrev pub FILTERS : ℕ
FILTERS = FROZEN * FILTER

-- ---- the search

-- Where each scan's detections begin, and where the last one's end.
abbrev pub STARTS : ℕ
STARTS = SCANS + 1

-- Logarithms that are kept at most.
abbrev pub KEPT : ℕ
KEPT = 256

-- What an id is divided by in an index of ids: each residue has a chain.
abbrev pub RESIDUES : ℕ
RESIDUES = 61

-- ---- an emitted frame

-- Tracks of a frame at most.
abbrev pub TRACKS : ℕ
TRACKS = DETECTIONS

-- The words of its head.
abbrev pub HEAD : ℕ
HEAD = 6

-- The words of a track.
abbrev pub TRACK : ℕ
TRACK = 6

-- The words of an association.
abbrev pub LINK : ℕ
LINK = 4

-- The words of the longest frame beside its tracks.
abbrev pub BESIDE : ℕ
BESIDE = HEAD + LINK * ASSOCIATIONS + SENSORS

-- Position and velocity of a track.
abbrev pub VECTOR : ℕ
VECTOR = 6

-- Their covariance, by rows.
abbrev pub COVARIANCE : ℕ
COVARIANCE = VECTOR * VECTOR

-- The numbers of a track.
abbrev pub STATE : ℕ
STATE = VECTOR + COVARIANCE

-- The words of the longest frame of C tracks at most.
abbrev pub words_for : ℕ → ℕ
words_for most = BESIDE + TRACK * most

-- Its numbers: those of the tracks, and a cost for each association.
abbrev pub numbers_for : ℕ → ℕ
numbers_for most = ASSOCIATIONS + STATE * most

-- The words of the longest frame.
abbrev pub WORDS : ℕ
WORDS = words_for TRACKS

-- Its numbers.
abbrev pub NUMBERS : ℕ
NUMBERS = numbers_for TRACKS

-- The words of a smoother's window at the longest lag.
abbrev pub WINDOW : ℕ
WINDOW = SCANS * WORDS

-- Its numbers.
abbrev pub VALUES : ℕ
VALUES = SCANS * NUMBERS

-- ---- a frame in print

-- The bytes of a word in decimal at most: a space, and 20 digits.
abbrev pub DECIMAL : ℕ
DECIMAL = 21

-- The bytes of a number in hexadecimal: a space, and 16 digits.
abbrev pub HEXADECIMAL : ℕ
HEXADECIMAL = 17

-- The bytes of the longest text of a frame: in full, where its two lines have names of 5 and 7 bytes and an end. In
-- short it is shorter.
abbrev pub TEXT : ℕ
TEXT = 6 + DECIMAL * WORDS + (8 + HEXADECIMAL * NUMBERS)

-- ---- a list of calls

-- Bytes of a list of calls at most.
abbrev pub CALLS : ℕ
CALLS = 262144

-- The bytes of a call before what follows it: its code, and how many follow.
abbrev pub CALL : ℕ
CALL = 8

-- The words and the numbers of the output buffers that a call may lend at most.
abbrev pub LENT_WORDS : ℕ
LENT_WORDS = 4096

abbrev pub LENT_NUMBERS : ℕ
LENT_NUMBERS = 8192

-- The fields of a refiner as cells.
abbrev pub REFINER : ℕ
REFINER = 20

-- Those of a smoother.
abbrev pub SMOOTHER : ℕ
SMOOTHER = 5
