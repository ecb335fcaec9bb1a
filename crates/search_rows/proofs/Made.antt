-- The list that `from_fn` makes, where each call of its closure gives what a function says of its index. Assumes
-- nothing.
use mathlib.Core.Path.{◌≡◌, refl, sym, ◌∙◌}
use mathlib.Core.List.{List}
use Prim.Native.Nat.{ℕ, ◌<◌}
use native.Mathlib.Omega.{arith}
use lib.ListN.{length, get_or}
use lib.Seq.{ext_get_or}
use denote.Param.Members.{Mut, Called}
use Rattle.std.specs.Array.{IsFromFnResult}
use Rattle.scalar.proofs.Made.{each_made}

module _ {F A : Type 0} (g : Mut F (ℕ × Unit) A) (f : ℕ → A) (size : ℕ) (s : F) (calls : (k : ℕ) (x : A) (t : F) → k < size → Called g s (k, tt) x t → (x ≡ f k) × (t ≡ s)) where
  -- the list l, whose entries the function says
  pub made_of : (l xs : List A) (d : A) → length l ≡ size → ((k : ℕ) → k < size → get_or l k d ≡ f k) → IsFromFnResult g s xs size → xs ≡ l
  made_of l xs d e says r =
      ext_get_or d xs l (r.long ∙ sym e) (λ k h. each_made g f size s calls xs 0 size s (omega arith) refl r.each k d (omega arith) (omega (arith, r.long, h)) ∙ sym (says k (omega (arith, r.long, h))))
