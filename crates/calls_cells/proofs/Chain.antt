-- One hash after another. Assumes nothing.
use Prim.Native.Nat.{ℕ}
use mathlib.Core.Path.{◌≡◌, sym, ap, ◌∙◌}
use mathlib.Core.List.{List, ◌++◌}
use Rattle.digest.specs.Digest.{fnv1a}
use Rattle.digest.proofs.Mixing.{mixes}

-- bytes hashed, and then more bytes
pub chain : (h a b : ℕ) (xs ys : List ℕ) → a ≡ fnv1a h xs → b ≡ fnv1a a ys → b ≡ fnv1a h (xs ++ ys)
chain h a b xs ys e f = f ∙ (ap (λ (t : ℕ). fnv1a t ys) e ∙ sym (mixes h xs ys))
