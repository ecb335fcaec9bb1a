use Rattle.std.proofs.Common.{◌≡◌, refl, ◌∙◌, Float}
use Rattle.std.specs.Float.{nan, inf, fin, float_is_finite}
use Rattle.scalar.specs.Scalar.{finite}
use Rattle.scalar.proofs.bits.is_finite.Goals as goal

same : (x : Float) → float_is_finite x ≡ finite x
unfolding float_is_finite finite
same nan = refl
same (inf s) = refl
same (fin s m e) = refl

pub returns : goal.returns
returns c = c.is_finite.ensures.value ∙ same c.args.x
