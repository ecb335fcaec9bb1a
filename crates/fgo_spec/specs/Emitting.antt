-- Document 01: "The frame lists, in id order, the tracks", and "Emitted words" and "Numbers". Definitions only.
use Rattle.std.specs.Prelude.{ℕ, zero, suc, ◌^◌, Bool, cond, not, length, leb, ℤ, pos, Float, None, Some}
use mathlib.Core.List.{List, [], ◌∷◌, ◌++◌, map, flat_map}
use Rattle.std.specs.Int.Signed.{le_z}
use Rattle.std.specs.Float.{binary64}
use Rattle.std.specs.Float.Ieee.{of_bits}
use Rattle.scalar.specs.Scalar.{seconds_of, word}
use Rattle.engine.specs.declared.config.FgoConfig.{FgoConfig}
use Rattle.engine.specs.declared.types.Outcome.{Outcome}
use Rattle.engine.specs.declared.types.Association.{Association}
use Rattle.buffers.specs.Answer.{Written}
use Rattle.engine.specs.Config.{density, position_variance}
use Rattle.engine.specs.Frame.{mode_number, outcome_number, ClassLabel, Cost}
use Rattle.engine.specs.Encode.{cost_present}
use Rattle.kf.specs.declared.filter.Kf.{Kf}
use Rattle.kf.specs.Filter.{predicted}
use Rattle.fgo_spec.specs.Lists.{keep}
use Rattle.fgo_spec.specs.Windows.{Scan, Prefix}
use Rattle.fgo_spec.specs.Freezing.{mean, age_of, listable}

-- a listed track
pub record Listed : Type 0 where
  pub id : ℕ
  pub last_ns : ℤ
  pub age : ℤ
  pub class : ClassLabel
  pub count : ℕ
  pub kf : Kf
  pub height : Float
  pub r : Float

-- an emitted frame: the scan with its ids, and the tracks that it lists
pub record Emitted : Type 0 where
  pub scan : Scan
  pub tracks : List Listed

-- the r of a listed track's covariance: the same for every track
abbrev pub part_noise : FgoConfig → Prefix → Float
part_noise c p = position_variance c

-- "Each one's state is its frozen filter predicted to this scan's time, its height is the mean"
unfoldable pub report : FgoConfig → ℤ → ℕ → Prefix → Listed
report c now x p =
    record {
      id = x;
      last_ns = p.last_ns;
      age = age_of now p;
      class = p.class;
      count = p.count;
      kf = predicted p.kf (seconds_of now) (density c);
      height = mean p.heights;
      r = part_noise c p;
    }

-- "The frame lists, in id order, the tracks that have a frozen part and an age of at most coast_ns"
unfoldable pub listing : FgoConfig → ℤ → List (ℕ × Prefix) → List Listed
listing c now ps = map (λ e. report c now e.0 e.1) (keep (listable c now) ps)

-- ---- words: "time, mode, tracks, associations, sensors, smoothed"

-- "lifecycle (0 tentative, 1 confirmed)": "A track is confirmed from count 2 on"
abbrev pub lifecycle : ℕ → ℕ
lifecycle n = cond (leb 2 n) 1 0

-- "class (2^32 if none)"
abbrev pub class_word : ClassLabel → ℕ
class_word None = 2 ^ 32
class_word (Some n) = n

-- "per track id, lifecycle (0 tentative, 1 confirmed), last time, age, class (2^32 if none), count"
abbrev pub track_words : Listed → List ℕ
track_words l = l.id ∷ lifecycle l.count ∷ word l.last_ns ∷ word l.age ∷ class_word l.class ∷ l.count ∷ []

-- "An association that lies in no track is emitted with id none and outcome 2"
abbrev pub outcome_word : ℕ → Outcome → ℕ
outcome_word zero o = 2
outcome_word (suc i) o = outcome_number o

-- "per association index, id (0 none), outcome, cost present"
abbrev pub association_words : Association → ℕ → List ℕ
association_words a i = a.index.0 ∷ i ∷ outcome_word i a.outcome ∷ cost_present a.cost ∷ []

-- those of all associations
unfoldable pub associations_words : List Association → List ℕ → List ℕ
associations_words [] is = []
associations_words (a ∷ l) [] = []
associations_words (a ∷ l) (i ∷ is) = association_words a i ++ associations_words l is

-- "time, mode, tracks, associations, sensors, smoothed"; the refiner's smoothed is 0
abbrev pub head_words : Emitted → List ℕ
head_words e =
    let f = e.scan.frame in
    word f.time ∷ mode_number f.mode ∷ length e.tracks ∷ length f.associations ∷ length f.sensors ∷ 0 ∷ []

-- the words of a frame: head, tracks, associations, "then the frame's sensors"
unfoldable pub words_of : Emitted → List ℕ
words_of e =
    head_words e
    ++ (flat_map track_words e.tracks
    ++ (associations_words e.scan.frame.associations e.scan.ids ++ e.scan.frame.sensors))

-- ---- numbers: "per track position 3, velocity 3, covariance 36 by rows; then one cost per association"

-- "The covariance has p00, p00, r, p11, p11, r on the diagonal and p01 at (0,3) and (1,4) and at their mirrored places"
abbrev pub covariance : Kf → Float → List Float
covariance k r =
    let o = of_bits binary64 0 in
    let a = k.p00 in
    let b = k.p01 in
    let d = k.p11 in
    a ∷ o ∷ o ∷ b ∷ o ∷ o
    ∷ o ∷ a ∷ o ∷ o ∷ b ∷ o
    ∷ o ∷ o ∷ r ∷ o ∷ o ∷ o
    ∷ b ∷ o ∷ o ∷ d ∷ o ∷ o
    ∷ o ∷ b ∷ o ∷ o ∷ d ∷ o
    ∷ o ∷ o ∷ o ∷ o ∷ o ∷ r
    ∷ []

-- those of a filter, a height and a variance: "the speed of the height is 0"
abbrev pub state_numbers : Kf → Float → Float → List Float
state_numbers k height r = k.x ∷ k.y ∷ height ∷ k.vx ∷ k.vy ∷ of_bits binary64 0 ∷ covariance k r

-- those of a listed track
abbrev pub track_numbers : Listed → List Float
track_numbers l = state_numbers l.kf l.height l.r

-- "one cost per association"; 0.0 where there is none
abbrev pub cost_number : Cost → Float
cost_number None = of_bits binary64 0
cost_number (Some v) = v

-- the numbers of a frame
unfoldable pub numbers_of : Emitted → List Float
numbers_of e = flat_map track_numbers e.tracks ++ map (λ a. cost_number a.cost) e.scan.frame.associations

-- "these two lists at their exact length"
abbrev pub written : Emitted → Written
written e = record { words = words_of e; numbers = numbers_of e }

-- ---- what the words say besides

-- "prediction_only is age > 0"
abbrev pub prediction_only_of : Listed → Bool
prediction_only_of l = not (le_z l.age (pos 0))

-- "unmatched_track_ids are those ids"
unfoldable pub unmatched_track_ids : Emitted → List ℕ
unmatched_track_ids e = map (λ l. l.id) (keep prediction_only_of e.tracks)
