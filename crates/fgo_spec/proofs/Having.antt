-- Whether a number stands in a list, by its places. Assumes nothing.
use Rattle.std.proofs.Common.{◌≡◌, ℕ, zero, suc, ◌<◌, true, false, List, [], ◌∷◌, length, get_or, arith, eq-eqb, ne_eqb, refl}
use mathlib.Core.Bool.{or-true}
use Rattle.fgo_spec.specs.Lists.{has, any}

pub has_at : (x : ℕ) (l : List ℕ) (i : ℕ) → i < length l → x ≡ get_or l i 0 → has x l ≡ true
unfolding any
has_at x [] i h e = absurd (omega arith)
has_at x (y ∷ l) zero h e = rw (eq-eqb x y e) refl
has_at x (y ∷ l) (suc i) h e = rw (has_at x l i (omega arith) e, or-true) refl

pub has_nowhere : (x : ℕ) (l : List ℕ) → ((i : ℕ) → i < length l → x ≡ get_or l i 0 → ⊥) → has x l ≡ false
unfolding any
has_nowhere x [] none = refl
has_nowhere x (y ∷ l) none = rw (ne_eqb x y (none 0 (omega arith)), has_nowhere x l (λ i h. none (suc i) (omega arith))) refl
