-- What a last place says of whether a number stands in a list. Assumes nothing.
use Rattle.std.proofs.Common.{◌≡◌, ℕ, List, Option, Some, None, is_some, sym}
use Rattle.fgo_spec.specs.Lists.{has}
use Rattle.fgo_spec.proofs.Having.{has_at, has_nowhere}
use Rattle.id_index.specs.Index.{IsLastPlace}

-- a last place is told where the number stands in the list, and only there
pub place-has : (x : ℕ) (l : List ℕ) (r : Option ℕ) → IsLastPlace l x r → is_some r ≡ has x l
place-has x l None h = sym (has_nowhere x l h)
place-has x l (Some i) h = sym (has_at x l i h.0 h.1)
