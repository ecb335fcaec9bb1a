use Prim.Native.Nat.{ℕ}
use mathlib.Core.Path.{◌≡◌, refl}
use Rattle.engine.specs.declared.types.BodyKind.{BodyKind}
use Rattle.engine.specs.declared.types.BodyKind.TheVariants.{Narrow}
use Rattle.fgo_state.specs.Memory.{head_for}
use Rattle.fgo_state.proofs.scans.head_for.Goals as goal

headed : (kind : BodyKind) (l : ℕ) → l ≡ head_for kind l
unfolding head_for
headed Narrow l = refl

pub returns : goal.returns
returns c = headed c.args.kind c.args.length
