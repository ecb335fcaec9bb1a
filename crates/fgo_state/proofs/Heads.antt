-- What the head of a column says, kind by kind. Assumes nothing.
use Prim.Native.Nat.{ℕ, ◌≤◌}
use mathlib.Core.Path.{◌≡◌, refl}
use native.Mathlib.Omega.{arith}
use mathlib.Core.Bool.{Bool, true, false, cond}
use lib.Dec.{leb}
use borrow.Author.Tests.{leb-true, le-leb}
use Rattle.bounds.specs.Bounds.{BODY}
use Rattle.engine.specs.declared.types.BodyKind.{BodyKind}
use Rattle.engine.specs.declared.types.BodyKind.TheVariants.{Narrow}
use Rattle.fgo_state.specs.Memory.{head_for, length_in, kind_in}

-- no length is above the longest
pub length_few : (h : ℕ) → length_in h ≤ BODY
unfolding length_in
length_few h = go (leb h BODY) refl
  where
    go : (b : Bool) → leb h BODY ≡ b → cond b h 0 ≤ BODY
    go true e = leb-true h BODY e
    go false e = omega arith

-- the head for a kind and a length says them
pub head_length : (b : BodyKind) (l : ℕ) → l ≤ BODY → length_in (head_for b l) ≡ l
unfolding length_in head_for
head_length Narrow l h = rw (le-leb l BODY h)

pub head_kind : (b : BodyKind) (l : ℕ) → kind_in (head_for b l) ≡ b
unfolding kind_in head_for
head_kind Narrow l = refl
