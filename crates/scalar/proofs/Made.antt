-- The entries that `from_fn` makes, where each call of its closure gives what a function says of its index. Assumes
-- nothing.
use mathlib.Core.Path.{◌≡◌, subst, ◌∙◌}
use mathlib.Core.List.{List}
use Prim.Native.Nat.{ℕ, zero, suc, ◌≤◌, ◌<◌, ◌+◌}
use native.Mathlib.Omega.{arith}
use lib.ListN.{get_or}
use denote.Param.Members.{Mut, Called}
use Rattle.std.specs.Array.{IsFromFnResultFrom}
use Rattle.std.proofs.Common.{inl, inr, eq-or-lt_of_le}

module _
    {F A : Type 0}
    (g : Mut F (ℕ × Unit) A)
    (f : ℕ → A)
    (size : ℕ)
    (s : F)
    (h : (k : ℕ) (x : A) (t : F) → k < size → Called g s (k, tt) x t → (x ≡ f k) × (t ≡ s)) where
  pub each_made : (xs : List A) (i n : ℕ) (t : F) → i + n ≡ size → t ≡ s → IsFromFnResultFrom g t xs i n → (k : ℕ) (d : A) → i ≤ k → k < size → get_or xs k d ≡ f k
  each_made xs i zero t e same r k d low high = absurd (omega arith)
  each_made xs i (suc n) t e same r k d low high =
      let made = h i r.1 r.0 (omega arith) (subst (λ u. Called g u (i, tt) r.1 r.0) same r.3) in
      elim (eq-or-lt_of_le low) [
        | inl here ↦ subst (λ j. get_or xs j d ≡ f j) here (r.2.1 d ∙ made.0)
        | inr later ↦ each_made xs (i + 1) n r.0 (omega arith) made.1 r.4 k d (omega arith) high
      ]
