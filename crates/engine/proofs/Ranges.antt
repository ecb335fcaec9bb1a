-- A test of each number below a bound, by `all` over a range. Assumes nothing.
use Prim.Native.Nat.{ℕ, zero, suc, ◌+◌}
use mathlib.Core.Path.{◌≡◌, refl, sym, ap, ◌∙◌}
use mathlib.Core.Bool.{Bool, true, false, ◌&&◌}
use mathlib.Core.List.{List}
use native.Mathlib.Nat.{zero-add, add-zero}
use native.Mathlib.Omega.{arith}
use denote.Param.Members.{Mut}
use Rattle.std.specs.Fn.{Called}
use Rattle.std.specs.Iterator.{YieldsThen}
use Rattle.std.specs.List.{FoldsTo, list_all, range_with_len}
use Rattle.std.specs.Option.{MatchOption}
use Rattle.std.specs.Prelude.{Option}
use Rattle.std.specs.declared.ops.Range.{Range}
use Rattle.std.proofs.iter.Yields.{nat_range_steps}
use Rattle.std.proofs.lemmas.Iterator.{YieldsList-from_range}
use Rattle.std.proofs.lemmas.Iterator.Search.{all_from_yields_List}
use Rattle.engine.specs.Body.{all}
use Rattle.engine.proofs.Every.{all_front}

from : (p : ℕ → Bool) (a n : ℕ) → list_all p (range_with_len a n) ≡ all (λ i. p (a + i)) n
unfolding all
from p a zero = refl
from p a (suc n) =
    let e : (i : ℕ) → a + 1 + i ≡ a + suc i = λ i. omega arith in
    ap (λ b. p a && b) (from p (a + 1) n ∙ (λ j. all (λ i. p (e i j)) n))
    ∙ ap (λ m. p m && all (λ i. p (a + suc i)) n) (sym (add-zero a)) ∙ sym (all_front (λ i. p (a + i)) n)

module _ {F : Type 0} {g : Mut F (ℕ × Unit) Bool} (p : ℕ → Bool) (n : ℕ) {s u : Range ℕ} {f : F} {r : Bool} where
  -- where each call gives p of its number, and changes nothing
  pub all_of_range :
      s ≡ record { start = 0; end = n }
      → (xs : List ℕ) × (o : Option ℕ) × (j : F) × YieldsThen nat_range_steps s xs o u × FoldsTo (λ p x q. Called g p (x, tt) true q) f xs j × MatchOption o (r ≡ true) (λ x. (r ≡ false) × ((h : F) × Called g j (x, tt) false h))
      → ((x : ℕ) (b : Bool) (q : F) → Called g f (x, tt) b q → (q ≡ f) × (b ≡ p x))
      → r ≡ all p n
  all_of_range e ran k =
      all_from_yields_List p u f r ran (YieldsList-from_range 0 n n e (omega arith)) k ∙ from p 0 n ∙ (λ j. all (λ i. p (zero-add i j)) n)
