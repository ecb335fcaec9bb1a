-- What holds of the layout of every kind of body, kind by kind. Assumes nothing.
use Prim.Native.Nat.{ℕ, ◌^◌, ◌≤◌}
use mathlib.Core.Path.{◌≡◌, refl}
use mathlib.Core.List.{List}
use native.Mathlib.Omega.{arith}
use lib.ListN.{length, get_or}
use Rattle.bounds.specs.Bounds.{OBSERVATIONS, ASSOCIATIONS, HEADER, BODY}
use Rattle.engine.specs.declared.types.Association.{Association}
use Rattle.engine.specs.declared.types.BodyKind.{BodyKind}
use Rattle.engine.specs.declared.types.BodyKind.TheVariants.{Narrow}
use Rattle.engine.specs.Body.{Layout, layout_of, refusal, track_count, sensor_count, observation_count, association_count, association_at}
use Rattle.engine.proofs.Bytes.{little-one}
use Rattle.engine.proofs.Passing.{sized-body, few_sensors}

-- ---- how much a body has room for

-- a layout within the bounds that the lent memory is made for
pub record Within (k : Layout) : Type 0 where
  pub width : k.width ≤ 5
  pub head : k.head ≤ HEADER
  pub observations : k.observations ≤ OBSERVATIONS
  pub associations : k.associations ≤ ASSOCIATIONS
  pub indices : k.observations ≤ 256 ^ k.width

pub within : (b : BodyKind) → Within (layout_of b)
within Narrow =
    record {
      width = omega arith;
      head = omega arith;
      observations = omega arith;
      associations = omega arith;
      indices = omega arith;
    }

-- no body that passes is longer than the longest
pub fits_body : {k : Layout} → Within k → (s : List ℕ) → refusal k s ≡ 0 → length s ≤ BODY
fits_body {k} w s h = let z = sized-body k s h in omega (arith, z.exact, z.tracks, z.observations, z.associations, few_sensors z)

-- ---- reading

-- where each count stands
pub sensors_at : (b : BodyKind) (s : List ℕ) {r : ℕ} → r ≡ get_or s 4 0 → r ≡ sensor_count (layout_of b) s
sensors_at Narrow s e = e

pub tracks_at : (b : BodyKind) (s : List ℕ) {r : ℕ} → r ≡ get_or s 1 0 → r ≡ track_count (layout_of b) s
tracks_at Narrow s e = e

pub observations_at : (b : BodyKind) (s : List ℕ) {r : ℕ} → r ≡ get_or s 2 0 → r ≡ observation_count (layout_of b) s
observations_at Narrow s e = rw (little-one s 2) e

pub associations_at : (b : BodyKind) (s : List ℕ) {r : ℕ} → r ≡ get_or s 3 0 → r ≡ association_count (layout_of b) s
associations_at Narrow s e = rw (little-one s 3) e

pub head_is : (b : BodyKind) → HEADER ≡ (layout_of b).head
head_is Narrow = refl

-- a header has all that stands at fixed places in it
pub head_long : (b : BodyKind) → 16 ≤ (layout_of b).head
head_long Narrow = omega arith

-- an association with an index of one byte
pub association_read_lem : (b : BodyKind) (s : List ℕ) (o : ℕ) {a : Association} → a ≡ association_at 1 s o → a ≡ association_at (layout_of b).width s o
association_read_lem Narrow s o e = e
