-- What the tests of a body are for each kind of it. Assumes nothing.
use Prim.Native.Nat.{ℕ}
use mathlib.Core.Path.{◌≡◌, refl, sym}
use mathlib.Core.List.{List}
use mathlib.Core.Bool.{Bool, and-true}
use lib.ListN.{get_or}
use lib.Dec.{eqb}
use Rattle.bounds.specs.Bounds.{OBSERVATIONS, ASSOCIATIONS}
use Rattle.engine.specs.declared.types.BodyKind.{BodyKind}
use Rattle.engine.specs.declared.types.BodyKind.TheVariants.{Narrow}
use Rattle.engine.specs.Little.{little}
use Rattle.engine.specs.Body.{layout_of, zeros_ok, association_ok}
use Rattle.engine.proofs.Bytes.{little-one}

pub observations_most : (b : BodyKind) → OBSERVATIONS ≡ (layout_of b).observations
observations_most Narrow = refl

pub associations_most : (b : BodyKind) → ASSOCIATIONS ≡ (layout_of b).associations
associations_most Narrow = refl

pub zeros_tested : (b : BodyKind) (s : List ℕ) → eqb (little 3 s 5) 0 ≡ zeros_ok (layout_of b).zeros s
unfolding zeros_ok
zeros_tested Narrow s = sym (and-true (eqb (little 3 s 5) 0))

pub association_tested : (b : BodyKind) (s : List ℕ) (o : ℕ) {r : Bool} → r ≡ association_ok 1 s o → r ≡ association_ok (layout_of b).width s o
association_tested Narrow s o e = e

pub index_read : (b : BodyKind) (s : List ℕ) (o : ℕ) → get_or s o 0 ≡ little (layout_of b).width s o
index_read Narrow s o = sym (little-one s o)
