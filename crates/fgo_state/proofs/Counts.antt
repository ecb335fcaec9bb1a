-- How many tracks, sensors and associations a body says, and how many they can be. Assumes nothing.
use Prim.Native.Nat.{◌≤◌}
use native.Mathlib.Nat.{le_trans}
use mathlib.Core.Path.{◌≡◌}
use lib.ListN.{length}
use Rattle.bounds.specs.Bounds.{SENSORS, ASSOCIATIONS}
use Rattle.engine.specs.Body.{Body, layout, frame_of, frame_in, body_refusal, tracks_in, sensors_in, associations_in}
use Rattle.engine.proofs.Passing.{sized-body, few_sensors, length-rows}
use Rattle.engine.proofs.Layouts.{within}

pub tracks_long : (s : Body) → length (frame_in s).tracks ≡ tracks_in s
unfolding frame_of
tracks_long s = length-rows _ 0 (tracks_in s)

pub sensors_long : (s : Body) → length (frame_in s).sensors ≡ sensors_in s
unfolding frame_of
sensors_long s = length-rows _ 0 (sensors_in s)

pub associations_long : (s : Body) → length (frame_in s).associations ≡ associations_in s
unfolding frame_of
associations_long s = length-rows _ 0 (associations_in s)

pub associations_few : (s : Body) → body_refusal s ≡ 0 → associations_in s ≤ ASSOCIATIONS
associations_few s h = le_trans (sized-body (layout s) s.bytes h).associations (within s.kind).associations

pub sensors_few : (s : Body) → body_refusal s ≡ 0 → sensors_in s ≤ SENSORS
sensors_few s h = few_sensors (sized-body (layout s) s.bytes h)
