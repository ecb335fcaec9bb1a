-- Little-endian numbers of any width: how one splits, and how large it is. Assumes nothing.
use Prim.Native.Nat.{ℕ, zero, suc, ◌+◌, ◌*◌, ◌^◌, ◌<◌}
use mathlib.Core.Path.{◌≡◌, refl}
use mathlib.Core.List.{List}
use native.Mathlib.Numerals.{add-one}
use native.Mathlib.Omega.{arith}
use native.Mathlib.Nat.{pow-suc, mul_assoc, mul-add, add_assoc, add-suc, mul_comm, suc-add, zero-add, add-zero, one-mul}
use lib.ListN.{get_or}
use lib.Dec.{lit<}
use mir.Syntax.{w8, w64}
use mir.Val.{Fits, to_z, of_z}
use mir.Facts.{to_z-of_z, sfits_to_z}
use Rattle.std.specs.Int.{byte_worth, sum_through}
use Rattle.scalar.specs.Scalar.{signed}
use Rattle.engine.specs.Little.{little}

-- a number of a + b bytes is that of the first a, and 256 ^ a times that of the b after them
pub little-add : (a b : ℕ) (s : List ℕ) (o : ℕ) → little (a + b) s o ≡ little a s o + 256 ^ a * little b s (o + a)
unfolding little
little-add zero b s o = simp (add-zero, zero-add, one-mul)
little-add (suc a) b s o =
    let ih = little-add a b s (suc o) in
    simp (suc-add, ih, pow-suc, add-suc, mul-add, add_assoc, mul_comm (256 ^ a) 256, mul_assoc)

-- bytes give a number below 256 ^ w
pub little_below : (w : ℕ) (s : List ℕ) (o : ℕ) → ((i : ℕ) → Fits w8 (get_or s i 0)) → little w s o < 256 ^ w
unfolding little
little_below zero s o h = lit< tt
little_below (suc w) s o h = rw pow-suc (omega (arith, (h o).fits, little_below w s (suc o) h))

-- one byte is its own number
pub little-one : (s : List ℕ) (o : ℕ) → little 1 s o ≡ get_or s o 0
unfolding little
little-one s o = add-zero (get_or s o 0)

-- bytes, each at its worth, as `from_le_bytes` adds them up
pub little-bytes : (w : ℕ) (s : List ℕ) (o : ℕ) → little (suc w) s o ≡ sum_through (λ i. byte_worth i (get_or s (o + i) 0)) w
little-bytes zero s o = rw (little-one s o, add-zero) refl
little-bytes (suc w) s o =
    let more = little-add (suc w) 1 s o in
    rw (← add-one (suc w), more, little-bytes w s o, little-one s (o + suc w), mul_comm (256 ^ suc w) (get_or s (o + suc w) 0)) refl

-- the same bytes, elsewhere
little-same : (w : ℕ) (r s : List ℕ) (p o : ℕ) → ((i : ℕ) → i < w → get_or r (p + i) 0 ≡ get_or s (o + i) 0) → little w r p ≡ little w s o
unfolding little
little-same zero r s p o h = refl
little-same (suc w) r s p o h =
    let first : get_or r p 0 ≡ get_or s o 0 = rw (add-zero, add-zero) at (h 0 (omega arith)) in
    let rest : little w r (suc p) ≡ little w s (suc o) = little-same w r s (suc p) (suc o) (λ i g. rw (suc-add, suc-add, ← add-suc, ← add-suc) (h (suc i) (omega arith))) in
    rw (first, rest) refl

-- bytes that are each those from a place on are the number there
pub little-made : (w : ℕ) (s : List ℕ) (o : ℕ) (r : List ℕ) → ((k : ℕ) → k < w → get_or r k 0 ≡ get_or s (o + k) 0) → little w r 0 ≡ little w s o
little-made w s o r h = little-same w r s 0 o (λ k g. rw zero-add (h k g))

-- a signed number of eight bytes, passed on
pub signed_passed : (s : List ℕ) (o : ℕ) → ((i : ℕ) → Fits w8 (get_or s i 0)) → to_z w64 (of_z w64 (signed (little 8 s o))) ≡ signed (little 8 s o)
signed_passed s o h = let b : Fits w64 (little 8 s o) = record { fits = little_below 8 s o h } in to_z-of_z (sfits_to_z b)
