-- What `from_fn` makes, where each call of its closure gives what a function says of its index. Assumes nothing.
use mathlib.Core.Path.{◌≡◌, refl, ◌∙◌}
use mathlib.Core.List.{List}
use Prim.Native.Nat.{ℕ, ◌<◌}
use native.Mathlib.Omega.{arith}
use denote.Param.Members.{Mut, Called}
use Rattle.std.specs.Array.{IsFromFnResult}
use Rattle.scalar.proofs.Made.{each_made}
use Rattle.linalg.specs.Grown.{tabulate}
use Rattle.linalg.proofs.Fill.{tabulated}
use Rattle.linalg.proofs.Entries.{tabulate_ext}

module _
    {F A : Type 0}
    (g : Mut F (ℕ × Unit) A)
    (f : ℕ → A)
    (size : ℕ)
    (s : F)
    (h : (k : ℕ) (x : A) (t : F) → k < size → Called g s (k, tt) x t → (x ≡ f k) × (t ≡ s)) where
  -- f at 0, .., size - 1, where no call changes what the closure holds
  pub made_of : (xs : List A) → IsFromFnResult g s xs size → xs ≡ tabulate f size
  made_of xs r =
      tabulated xs (f 0) size r.long ∙ tabulate_ext _ f size (λ k l. each_made g f size s h xs 0 size s (omega arith) refl r.each k (f 0) (omega arith) l)
