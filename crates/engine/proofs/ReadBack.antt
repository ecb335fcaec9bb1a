-- A body that says a frame is read as that frame, and no body says two. Assumes nothing.
use Prim.Native.Nat.{ℕ, suc, ◌+◌, ◌-◌, ◌*◌, ◌^◌, ◌<◌, ◌≤◌}
use mathlib.Core.Path.{◌≡◌, refl, sym, ap, subst, ◌∙◌}
use mathlib.Core.List.{List, ◌++◌}
use mathlib.Core.Bool.{Bool, true, false, cond, not}
use native.Mathlib.Omega.{arith}
use native.Mathlib.Nat.{add-zero, zero-add, one-le-pow}
use lib.Dec.{T, eqb, lit<}
use lib.IntN.{ℤ, pos, negsuc}
use lib.Ieee.{Float, binary64, of_bits}
use lib.Ieee.Bits.{of_bits-to_bits, to_bits-lt}
use lib.ListN.{length, get_or, length-append}
use borrow.Author.Tests.{leb-true, lt-ltb, le-leb, eq-eqb, ne_eqb}
use mir.Syntax.{w64}
use mir.Val.{SFits}
use mir.Facts.{to_z-of_z, Fits-of_z}
use Rattle.bounds.specs.Bounds.{TIME, ENGINES, SENSORS, ENGINE, SENSOR, OBSERVATION, ASSOCIATION}
use Rattle.scalar.specs.Scalar.{bits_of, signed}
use Rattle.engine.specs.declared.types.BodyKind.{BodyKind}
use Rattle.engine.specs.declared.types.BodyKind.TheVariants.{Narrow}
use Rattle.engine.specs.declared.types.TrackingMode.{TrackingMode}
use Rattle.engine.specs.declared.types.TrackingMode.TheVariants.{LidarOnly, CameraAssociated, CameraAssisted}
use Rattle.engine.specs.declared.types.Outcome.{Outcome}
use Rattle.engine.specs.declared.types.Outcome.TheVariants.{Updated, Spawned, Unmatched}
use Rattle.engine.specs.declared.types.EngineTrack.{EngineTrack}
use Rattle.engine.specs.declared.types.Observation.{Observation}
use Rattle.engine.specs.declared.types.Association.{Association}
use Rattle.engine.specs.Little.{little}
use Rattle.engine.specs.Frame.{Frame, mode_number, mode_of, outcome_number, outcome_of, present, engine_of, no_track, no_observation, no_association, Associated, ClassLabel, Cost}
use Rattle.engine.specs.Body.{Layout, narrow, layout_of, all, code_ok, present_ok, time_ok, zeros_ok, track_ok, association_ok, observation_ok, index_at, index_ok, track_count, sensor_count, observation_count, association_count, sensors_from, observations_from, associations_from, size, head_ok, tracks_ok, associations_ok, observations_ok, indices_ok, refusal, rows, track_at, observation_at, association_at, frame_of, read, decode}
use Rattle.engine.specs.Encode.{laid, class_present, class_value, id_present, cost_present, cost_value, track_fields, sensor_fields, observation_fields, association_fields, track_bytes, sensor_bytes, observation_bytes, association_bytes, row_bytes, head_fields, encode, Binary64, HeldCost, TrackOk, ObservationOk, AssociationOk, FrameOk, ReadBack, OneFrame}
use Rattle.engine.proofs.Bytes.{little-one}
use Rattle.engine.proofs.Every.{all_true}
use Rattle.engine.proofs.Layouts.{within}
use Rattle.engine.proofs.Laid.{Lies, lies_left, lies_right, Fit, Reads, length-laid, read_fields, length-flat, lies_row, lies_after, rows_back}
use Rattle.std.specs.Prelude.{None, Some}

-- ---- codes and present bytes

mode_back : (m : TrackingMode) → mode_of (mode_number m) ≡ m
mode_back LidarOnly = refl
mode_back CameraAssociated = refl
mode_back CameraAssisted = refl

mode_code : (m : TrackingMode) → mode_number m ≤ 2
mode_code LidarOnly = omega arith
mode_code CameraAssociated = omega arith
mode_code CameraAssisted = omega arith

outcome_back : (o : Outcome) → outcome_of (outcome_number o) ≡ o
outcome_back Updated = refl
outcome_back Spawned = refl
outcome_back Unmatched = refl

outcome_code : (o : Outcome) → outcome_number o ≤ 2
outcome_code Updated = omega arith
outcome_code Spawned = omega arith
outcome_code Unmatched = omega arith

class_back : (c : ClassLabel) → present (class_present c) (class_value c) ≡ c
class_back None = refl
class_back (Some v) = refl

class_present_lem : (c : ClassLabel) → (class_present c < 256) × (present_ok (class_present c) (class_value c) ≡ true)
unfolding present_ok
class_present_lem None = (lit< tt, refl)
class_present_lem (Some v) = (lit< tt, refl)

id_back : (a : Associated) → present (id_present a) (record { 0 = engine_of a }) ≡ a
id_back None = refl
id_back (Some x) = refl

id_present_lem : (a : Associated) → (id_present a < 256) × (present_ok (id_present a) (engine_of a) ≡ true)
unfolding present_ok
id_present_lem None = (lit< tt, refl)
id_present_lem (Some x) = (lit< tt, refl)

float_back : (x : Float) → Binary64 x → of_bits binary64 (bits_of x) ≡ x
float_back x h = of_bits-to_bits binary64 x (subst T (sym h) tt)

float_fits : (x : Float) → Binary64 x → bits_of x < 2 ^ 64
float_fits x h = to_bits-lt binary64 x (subst T (sym h) tt)

cost-back : (c : Cost) → HeldCost c → present (cost_present c) (of_bits binary64 (cost_value c)) ≡ c
cost-back None h = refl
cost-back (Some x) h = let e = float_back x h in rw e

cost_fits : (c : Cost) → HeldCost c → cost_value c < 2 ^ 64
cost_fits None h = lit< tt
cost_fits (Some x) h = float_fits x h

cost-present : (c : Cost) → (cost_present c < 256) × (present_ok (cost_present c) (cost_value c) ≡ true)
unfolding present_ok
cost-present None = (lit< tt, refl)
cost-present (Some x) = (lit< tt, refl)

pub time_fits : (t : ℤ) → time_ok t ≡ true → SFits w64 t
unfolding time_ok
time_fits (pos n) h = record { sfits = omega (arith, leb-true n TIME h) }
time_fits (negsuc n) h = record { sfits = omega (arith, leb-true (suc n) TIME h) }

-- ---- one row

byte : (s : List ℕ) (o n : ℕ) → little 1 s o ≡ n → get_or s o 0 ≡ n
byte s o n e = sym (little-one s o) ∙ e

module _ (s : List ℕ) (o : ℕ) where
  track-said : (t : EngineTrack) → TrackOk t → Lies s o (laid (track_fields t)) → (track_ok s o ≡ true) × (track_at s o ≡ t)
  unfolding track_ok track_at
  track-said t ok h =
      let p = class_present_lem t.class in
      let r : Reads s o 0 (track_fields t) = read_fields s o 0 (track_fields t) (ok.id, (ok.class, (p.0, (lit< tt, tt)))) (rw add-zero h) in
      let a = rw add-zero at r.0 in
      let b = r.1.0 in
      let d = byte s (o + 12) _ r.1.1.0 in
      let e = r.1.1.1.0 in
      (rw (b, d, p.1, e), rw (a, b, d, class_back t.class))

  observation-said : (q : Observation) → ObservationOk q → Lies s o (laid (observation_fields q)) → (observation_ok s o ≡ true) × (observation_at s o ≡ q)
  unfolding observation_ok observation_at
  observation-said q ok h =
      let fits : Fit (observation_fields q) = (float_fits q.x ok.x.0, (float_fits q.y ok.y.0, (float_fits q.z ok.z.0, tt))) in
      let r : Reads s o 0 (observation_fields q) = read_fields s o 0 (observation_fields q) fits (rw add-zero h) in
      let a = rw add-zero at r.0 in
      let b = r.1.0 in
      let d = r.1.1.0 in
      let x = float_back q.x ok.x.0 in
      let y = float_back q.y ok.y.0 in
      let z = float_back q.z ok.z.0 in
      (rw (a, b, d, x, y, z, ok.x.1, ok.y.1, ok.z.1), rw (a, b, d, x, y, z))

  -- with an index of w bytes
  association-said : (w n : ℕ) (c : Association) → w ≤ 5 → n ≤ 256 ^ w → AssociationOk n c → Lies s o (laid (association_fields w c))
      → (association_ok w s o ≡ true) × (association_at w s o ≡ c)
  unfolding association_ok association_at code_ok
  association-said w n c f g ok h =
      let p = id_present_lem c.track in
      let q = cost-present c.cost in
      let u = outcome_code c.outcome in
      let fits : Fit (association_fields w c) = (omega (arith, ok.index), (p.0, (omega arith, (q.0, (one-le-pow (5 - w) 256 (lit< tt), (ok.id, (cost_fits c.cost ok.cost, tt))))))) in
      let r : Reads s o 0 (association_fields w c) = read_fields s o 0 (association_fields w c) fits (rw add-zero h) in
      let e2 : 0 + w + 1 + 1 ≡ w + 2 = omega arith in
      let e3 : 0 + w + 1 + 1 + 1 ≡ w + 3 = omega arith in
      let e4 : 0 + w + 1 + 1 + 1 + (5 - w) ≡ 8 = omega arith in
      let e5 : 0 + w + 1 + 1 + 1 + (5 - w) + 8 ≡ 16 = omega arith in
      let a = rw add-zero at r.0 in
      let b = byte s (o + w) _ (rw zero-add at r.1.0) in
      let d = byte s (o + (w + 1)) _ (rw zero-add at r.1.1.0) in
      let e = byte s (o + (w + 2)) _ (rw e2 at r.1.1.1.0) in
      let z = rw e3 at r.1.1.1.1.0 in
      let i = rw e4 at r.1.1.1.1.1.0 in
      let v = rw e5 at r.1.1.1.1.1.1.0 in (
        rw (b, d, e, z, i, v, p.1, q.1, le-leb (outcome_number c.outcome) 2 u),
        rw (a, b, d, e, i, v, id_back c.track, outcome_back c.outcome, cost-back c.cost ok.cost),
      )

-- ---- a whole body, of any layout

sized_association : (w : ℕ) → w ≤ 5 → (c : Association) → length (laid (association_fields w c)) ≡ ASSOCIATION
sized_association w f c = length-laid (association_fields w c) ∙ (let e : w + (1 + (1 + (1 + (5 - w + 16)))) ≡ ASSOCIATION = omega arith in e)

-- each row passes its test and is read as a row of the list: so all pass, and the list is read
each : {A : Type 0} (p : ℕ → Bool) (h : ℕ → A) (d : A) (l : List A) (n : ℕ) → n ≡ length l → ((j : ℕ) → j < length l → (p j ≡ true) × (h j ≡ get_or l j d))
    → (all p n ≡ true) × (rows h 0 n ≡ l)
each p h d l n e r = rw e (all_true p (length l) (λ j g. (r j g).0), rows_back h d l (λ j g. (r j g).1))

-- s has what a header says of f, and after it the rows of f
pub record Says (k : Layout) (f : Frame) (s : List ℕ) : Type 0 where
  pub mode : get_or s 0 0 ≡ mode_number f.mode
  pub tracks : track_count k s ≡ length f.tracks
  pub sensors : sensor_count k s ≡ length f.sensors
  pub observations : observation_count k s ≡ length f.observations
  pub associations : association_count k s ≡ length f.associations
  pub zeros : zeros_ok k.zeros s ≡ true
  pub time : signed (little 8 s 8) ≡ f.time
  pub lies : Lies s k.head (row_bytes k.width f)
  pub long : length s ≡ k.head + length (row_bytes k.width f)

module _ (k : Layout) (slim : k.width ≤ 5) (room : k.observations ≤ 256 ^ k.width) (f : Frame) (ok : FrameOk k f) (s : List ℕ) (says : Says k f s) where
  abbrev w : ℕ
  w = k.width

  tracks-said : (tracks_ok k s ≡ true) × (rows (λ i. track_at s (k.head + ENGINE * i)) 0 (track_count k s) ≡ f.tracks)
  unfolding tracks_ok
  tracks-said =
      let h = lies_left s k.head (track_bytes f) (sensor_bytes f ++ (observation_bytes f ++ association_bytes w f)) says.lies in
      each _ _ no_track f.tracks _ says.tracks
      (λ j g. track-said s (k.head + ENGINE * j) _ (ok.tracks j g) (lies_row _ ENGINE (λ t. length-laid (track_fields t)) s k.head f.tracks no_track h j g))

  after-tracks : Lies s (sensors_from k s) (sensor_bytes f ++ (observation_bytes f ++ association_bytes w f))
  after-tracks = rw says.tracks (lies_after _ ENGINE (λ t. length-laid (track_fields t)) s k.head f.tracks _ says.lies)

  sensors-said : rows (λ i. little SENSOR s (sensors_from k s + SENSOR * i)) 0 (sensor_count k s) ≡ f.sensors
  sensors-said =
      let h = lies_left s (sensors_from k s) (sensor_bytes f) (observation_bytes f ++ association_bytes w f) after-tracks in
      rw says.sensors (rows_back _ 0 f.sensors
      (λ j g. rw add-zero at (read_fields s (sensors_from k s + SENSOR * j) 0 (sensor_fields (get_or f.sensors j 0)) (ok.sensors j g, tt)
      (rw add-zero (lies_row _ SENSOR (λ v. length-laid (sensor_fields v)) s (sensors_from k s) f.sensors 0 h j g))).0))

  after-sensors : Lies s (observations_from k s) (observation_bytes f ++ association_bytes w f)
  after-sensors = rw says.sensors (lies_after _ SENSOR (λ v. length-laid (sensor_fields v)) s (sensors_from k s) f.sensors _ after-tracks)

  observations-said : (observations_ok k s ≡ true) × (rows (λ i. observation_at s (observations_from k s + OBSERVATION * i)) 0 (observation_count k s) ≡ f.observations)
  unfolding observations_ok
  observations-said =
      let h = lies_left s (observations_from k s) (observation_bytes f) (association_bytes w f) after-sensors in
      each _ _ no_observation f.observations _ says.observations
      (λ j g. observation-said s (observations_from k s + OBSERVATION * j) _ (ok.observations j g) (lies_row _ OBSERVATION (λ p. length-laid (observation_fields p)) s (observations_from k s) f.observations no_observation h j g))

  association_row : (j : ℕ) → j < length f.associations
      → (association_ok w s (associations_from k s + ASSOCIATION * j) ≡ true) × (association_at w s (associations_from k s + ASSOCIATION * j) ≡ get_or f.associations j no_association)
  association_row j g =
      let h : Lies s (associations_from k s) (association_bytes w f) = rw says.observations (lies_after _ OBSERVATION (λ p. length-laid (observation_fields p)) s (observations_from k s) f.observations _ after-sensors) in
      association-said s (associations_from k s + ASSOCIATION * j) w (length f.observations) _ slim (omega (arith, ok.few_observations)) (ok.associations j g)
      (lies_row _ ASSOCIATION (sized_association w slim) s (associations_from k s) f.associations no_association h j g)

  associations-said : (associations_ok k s ≡ true) × (rows (λ j. association_at w s (associations_from k s + ASSOCIATION * j)) 0 (association_count k s) ≡ f.associations)
  unfolding associations_ok
  associations-said = each _ _ no_association f.associations _ says.associations association_row

  index-said : (j : ℕ) → j < length f.associations → index_at w s (associations_from k s) j ≡ (get_or f.associations j no_association).index.0
  unfolding association_at
  index-said j g = ap (λ (c : Association). c.index.0) (association_row j g).1

  indices-said : indices_ok k s ≡ true
  unfolding indices_ok index_ok
  indices-said =
      all_true _ _ (λ j g.
      let g' : j < length f.associations = rw says.associations at g in
      let e = index-said j g' in
      let a = lt-ltb _ _ (ok.associations j g').index in
      let b : all (λ i. not (eqb (index_at w s (associations_from k s) i) (index_at w s (associations_from k s) j))) j ≡ true =
      all_true _ j (λ i h. let q = ne_eqb _ _ (λ z. ok.once i j h g' (sym (index-said i (omega arith)) ∙ z ∙ e)) in rw q) in
      rw (b, e, says.observations, a))

  length-rows-said : length (row_bytes w f) ≡ ENGINE * track_count k s + (SENSOR * sensor_count k s + (OBSERVATION * observation_count k s + ASSOCIATION * association_count k s))
  length-rows-said =
      simp (
        length-append,
        length-flat (λ t. laid (track_fields t)) ENGINE (λ t. length-laid (track_fields t)),
        length-flat (λ v. laid (sensor_fields v)) SENSOR (λ v. length-laid (sensor_fields v)),
        length-flat (λ p. laid (observation_fields p)) OBSERVATION (λ p. length-laid (observation_fields p)),
        length-flat (λ a. laid (association_fields w a)) ASSOCIATION (sized_association w slim),
        says.tracks,
        says.sensors,
        says.observations,
        says.associations,
      )

  exact : length s ≡ size k s
  exact = omega (arith, says.long, length-rows-said)

  head-said : head_ok k s ≡ true
  unfolding head_ok code_ok
  head-said =
      rw (
        le-leb k.head (length s) (omega (arith, exact)),
        eq-eqb (length s) (size k s) exact,
        says.mode,
        le-leb _ 2 (mode_code f.mode),
        says.tracks,
        le-leb _ ENGINES ok.few_tracks,
        says.observations,
        le-leb _ k.observations ok.few_observations,
        says.associations,
        le-leb _ k.associations ok.few_associations,
        says.sensors,
        le-leb _ _ ok.few_sensors,
        says.zeros,
        says.time,
        ok.time,
      )

  read-said : decode k s ≡ read f
  unfolding decode refusal frame_of
  read-said =
      let t = tracks-said in
      let v = sensors-said in
      let o = observations-said in
      let a = associations-said in
      rw (head-said, t.0, a.0, o.0, indices-said, says.mode, mode_back f.mode, says.time, t.1, v, o.1, a.1)

-- ---- the header of each kind of body

-- the narrow one
module _ (f : Frame) (ok : FrameOk narrow f) where
  abbrev s : List ℕ
  s = encode Narrow f

  few : (t : Bool) {n : ℕ} → n ≤ cond t 0 SENSORS → n < 256
  few true h = omega arith
  few false h = omega arith

  whole : Lies s 0 (laid (head_fields Narrow f) ++ row_bytes 1 f)
  unfolding encode
  whole i h = rw zero-add

  head : Reads s 0 0 (head_fields Narrow f)
  head =
      read_fields s 0 0 (head_fields Narrow f)
      (omega (arith, mode_code f.mode), (omega (arith, ok.few_tracks), (omega (arith, ok.few_observations), (omega (arith, ok.few_associations), (few (eqb (length f.tracks) 0) ok.few_sensors, (lit< tt, ((Fits-of_z (time_fits f.time ok.time)).fits, tt)))))))
      (lies_left s 0 (laid (head_fields Narrow f)) (row_bytes 1 f) whole)

  narrow-says : Says narrow f s
  unfolding encode zeros_ok
  narrow-says =
      record {
        mode = byte s 0 _ head.0;
        tracks = byte s 1 _ head.1.0;
        sensors = byte s 4 _ head.1.1.1.1.0;
        observations = head.1.1.0;
        associations = head.1.1.1.0;
        zeros = rw head.1.1.1.1.1.0;
        time = rw head.1.1.1.1.1.1.0 (to_z-of_z (time_fits f.time ok.time));
        lies = rw length-laid at (lies_right s 0 (laid (head_fields Narrow f)) (row_bytes 1 f) whole);
        long = rw (length-append, length-laid);
      }

says : (b : BodyKind) (f : Frame) → FrameOk (layout_of b) f → Says (layout_of b) f (encode b f)
says Narrow f ok = narrow-says f ok

-- ---- the laws

pub read_back : ReadBack
read_back b f ok = read-said (layout_of b) (within b).width (within b).indices f ok (encode b f) (says b f ok)

pub one-frame : OneFrame
one-frame b f g ok ok' e =
    let h : read f ≡ read g = sym (read_back b f ok) ∙ ap (decode (layout_of b)) e ∙ read_back b g ok' in cc
