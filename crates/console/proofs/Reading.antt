-- What is read stands at the front of the buffer. Assumes nothing.
use Prim.Native.Nat.{ℕ, ◌+◌, ◌≤◌}
use mathlib.Core.Path.{◌≡◌, sym, ap, ◌∙◌, subst}
use mathlib.Core.List.{List, ◌++◌}
use native.Mathlib.Omega.{arith}
use lib.ListN.{length, take, drop}
use lib.Seq.{take-add, take-append-le, length-take-le}
use Rattle.std.proofs.Common.{Option, drop_at}
use Rattle.std.proofs.lemmas.Slice.{take-put_mid_below}
use Rattle.std.proofs.KnownBytes.{Consumes-trans}
use Rattle.std.specs.Io.KnownBytes.{Consumes}
use borrow.Rule.Slice.PartMut.{put_mid, post_of}
use Rattle.std.specs.Prelude.{Some}
use Rattle.console.specs.Input.{Within}

pub read_within : (buf : List ℕ) {r : Option ℕ} {n : ℕ} → r ≡ Some n → Within r buf → (n ≤ length buf) × (n ≡ length (take n buf))
read_within buf e h = subst (λ r. Within r buf) e h

-- n bytes, and more of what a part of the buffer from place n on was made
front_more :
    (n k more : ℕ) (buf part : List ℕ) → n ≤ length buf → more ≤ length part →
    take (n + more) (put_mid n k buf part) ≡ take n buf ++ take more part
front_more n k more buf part within fits =
    take-add n more (put_mid n k buf part)
    ∙ ap (λ l. l ++ take more (drop n (put_mid n k buf part))) (take-put_mid_below n k buf part n (omega arith) within)
    ∙ ap (λ l. take n buf ++ l) (ap (take more) (drop_at (take n buf) _ n (length-take-le n buf within)) ∙ take-append-le more part (post_of n k buf) fits)

-- what was read of known bytes, and then more
pub consumed_more :
    (a b c : Option (List ℕ)) (n k more : ℕ) (buf part : List ℕ) → n ≤ length buf → more ≤ length part →
    Consumes a b (take n buf) → Consumes b c (take more part) → Consumes a c (take (n + more) (put_mid n k buf part))
consumed_more a b c n k more buf part within fits p q =
    subst (Consumes a c) (sym (front_more n k more buf part within fits)) (Consumes-trans a b c _ _ p q)
