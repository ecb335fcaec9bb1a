-- A hash over one list after another. Assumes nothing.
use Rattle.std.proofs.Common.{◌≡◌, ℕ, List, [], ◌∷◌, ◌++◌, sym, refl, ◌∙◌}
use Rattle.std.proofs.lemmas.List.Sums.{fold-append}
use Rattle.std.specs.List.{flat_map, fold}
use Rattle.digest.specs.Digest.{mixed, fnv1a}

pub mixes : (h : ℕ) (xs ys : List ℕ) → fnv1a h (xs ++ ys) ≡ fnv1a (fnv1a h xs) ys
unfolding fnv1a
mixes h xs ys = fold-append mixed h xs ys

-- what each element of a list is hashed as, one element after the other
pub each_mixes : {A : Type 0} (bytes : A → List ℕ) (h : ℕ) (xs : List A) → fold (λ h x. fnv1a h (bytes x)) h xs ≡ fnv1a h (flat_map bytes xs)
unfolding fnv1a
each_mixes bytes h [] = refl
each_mixes bytes h (x ∷ xs) = each_mixes bytes (fnv1a h (bytes x)) xs ∙ sym (mixes h (bytes x) (flat_map bytes xs))
