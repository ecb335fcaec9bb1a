-- An emitted frame whose counts, times, classes and sensors are in bounds passes the smoother's 5 at C 128. Assumes
-- nothing.
use Prim.Native.Nat.{ℕ, zero, suc, ◌+◌, ◌^◌, ◌≤◌, ◌<◌}
use native.Mathlib.Omega.{arith}
use mathlib.Core.Path.{◌≡◌, refl, ap, ◌∙◌}
use mathlib.Core.Bool.{Bool, true, false, cond}
use mathlib.Core.List.{List, Memᴰ}
use lib.ListN.{length, get_or}
use lib.Dec.{leb}
use lib.Ieee.{Float, nan, of_bits, to_bits}
use borrow.Author.Tests.{le-leb, lt-ltb, eq-eqb}
use Rattle.bounds.specs.Bounds.{SENSORS, ASSOCIATIONS, HEAD, TRACKS}
use Rattle.scalar.specs.Scalar.{bits_of}
use Rattle.engine.specs.declared.types.TrackingMode.{TrackingMode}
use Rattle.engine.specs.declared.types.TrackingMode.TheVariants.{LidarOnly, CameraAssociated, CameraAssisted}
use Rattle.engine.specs.declared.types.Outcome.{Outcome}
use Rattle.engine.specs.declared.types.Outcome.TheVariants.{Updated, Spawned, Unmatched}
use Rattle.engine.specs.Frame.{Frame, mode_number, Cost}
use Rattle.engine.specs.Body.{code_ok, present_ok, time_ok}
use Rattle.engine.proofs.Every.{all_true}
use Rattle.engine.specs.Encode.{cost_present}
use Rattle.fgo_spec.proofs.All.{All_at}
use Rattle.fgo_spec.specs.Rule.{All}
use Rattle.fgo_spec.specs.Emitting.{Listed, Emitted, lifecycle, class_word, outcome_word, cost_number, words_of, numbers_of, written}
use Rattle.smoother_frame.specs.Frame as Form
use Rattle.smoother_frame.specs.Frame.{track_ok, association_ok, sensor_ok, head_ok, exact, rows_ok, well_formed}
use Rattle.histories.proofs.Reading.{element, association, track_word, association_word, cost-number, sensor_word_lem, words-length, numbers-length}
use Rattle.histories.proofs.Fresh.{time-is}
use Rattle.std.specs.Prelude.{None, Some}

-- what a frame that a body says keeps to
pub record Bounded (f : Frame) : Type 0 where
  pub time : time_ok f.time ≡ true
  pub associations : length f.associations ≤ ASSOCIATIONS
  pub sensors : length f.sensors ≤ SENSORS
  pub small : All (λ v. v < 2 ^ 32) f.sensors
  pub classes : All (λ t. class_word t.class ≤ 2 ^ 32) f.tracks

-- and an emitted one
pub record Fine (e : Emitted) : Type 0 where
  pub bounded : Bounded e.scan.frame
  pub complete : length e.scan.ids ≡ length e.scan.frame.associations
  pub few : length e.tracks ≤ TRACKS
  pub tracks : (l : Listed) → Memᴰ l e.tracks → (class_word l.class ≤ 2 ^ 32) × (l.count < 2 ^ 32)

-- ---- codes

mode_code : (m : TrackingMode) → code_ok (mode_number m) ≡ true
unfolding code_ok
mode_code LidarOnly = refl
mode_code CameraAssociated = refl
mode_code CameraAssisted = refl

outcome_code : (i : ℕ) (o : Outcome) → code_ok (outcome_word i o) ≡ true
unfolding code_ok
outcome_code zero o = refl
outcome_code (suc i) Updated = refl
outcome_code (suc i) Spawned = refl
outcome_code (suc i) Unmatched = refl

cost-present : (v : Cost) → present_ok (cost_present v) (bits_of (cost_number v)) ≡ true
unfolding present_ok of_bits to_bits
cost-present None = refl
cost-present (Some v) = refl

lifecycle_code : (n : ℕ) → lifecycle n ≤ 1
lifecycle_code n = go (leb 2 n)
  where
    go : (b : Bool) → cond b 1 0 ≤ 1
    go true = omega arith
    go false = omega arith

-- ---- the tests

module _ (e : Emitted) (f : Fine e) where
  abbrev w : List ℕ
  w = words_of e

  abbrev x : List Float
  x = numbers_of e

  abbrev fr : Frame
  fr = e.scan.frame

  head-passes : head_ok TRACKS w ≡ true
  unfolding head_ok words_of
  head-passes =
      let t : time_ok (Form.time (words_of e)) ≡ true = ap time_ok (time-is e f.bounded.time) ∙ f.bounded.time in
      let n = le-leb (length e.tracks) TRACKS f.few in
      let a = le-leb (length fr.associations) ASSOCIATIONS f.bounded.associations in
      let s = le-leb (length fr.sensors) SENSORS f.bounded.sensors in
      rw (le-leb HEAD (length (words_of e)) (omega arith), t, mode_code fr.mode, n, a, s)

  exact-passes : exact w x ≡ true
  unfolding exact
  exact-passes = rw (eq-eqb (length w) (Form.words_long w) (words-length e f.complete), eq-eqb (length x) (Form.numbers_long w) (numbers-length e))

  track_passes : (i : ℕ) → i < length e.tracks → track_ok w i ≡ true
  unfolding track_ok
  track_passes i h =
      let a = element e.tracks i h in
      let l = a.item in
      let b = f.tracks l a.among in
      let p : Form.lifecycle_word w i ≡ lifecycle l.count = track_word e i h a 1 in
      let k : Form.class_word w i ≡ class_word l.class = track_word e i h a 4 in
      let n : Form.count_word w i ≡ l.count = track_word e i h a 5 in
      rw (p, k, n, le-leb (lifecycle l.count) 1 (lifecycle_code l.count), le-leb (class_word l.class) (2 ^ 32) b.0, lt-ltb l.count (2 ^ 32) b.1)

  association-passes : (j : ℕ) → j < length fr.associations → association_ok w x j ≡ true
  unfolding association_ok words_of
  association-passes j h =
      let a = association fr.associations e.scan.ids fr.sensors j f.complete h in
      let p : Form.outcome_word w j ≡ outcome_word a.id a.item.outcome = association_word e j a 2 in
      let k : Form.cost_present_word w j ≡ cost_present a.item.cost = association_word e j a 3 in
      let n : get_or x (Form.costs_from w + j) nan ≡ cost_number a.item.cost = cost-number e j ∙ a.cost in
      rw (p, k, n, outcome_code a.id a.item.outcome, cost-present a.item.cost)

  sensor-passes : (k : ℕ) → k < length fr.sensors → sensor_ok w k ≡ true
  unfolding sensor_ok words_of
  sensor-passes k h =
      let p : Form.sensor_word w k ≡ get_or fr.sensors k 0 = sensor_word_lem e f.complete k in
      rw (p, lt-ltb (get_or fr.sensors k 0) (2 ^ 32) (All_at (λ v. v < 2 ^ 32) fr.sensors 0 f.bounded.small k h))

  pub well : well_formed TRACKS (written e) ≡ true
  unfolding well_formed rows_ok words_of
  well =
      let r = all_true (track_ok w) (length e.tracks) track_passes in
      let a = all_true (association_ok w x) (length fr.associations) association-passes in
      let s = all_true (sensor_ok w) (length fr.sensors) sensor-passes in
      rw (head-passes, exact-passes, r, a, s)
