-- Frozen parts moved up by one. Assumes nothing.
use Prim.Native.Nat.{ℕ, suc, ◌+◌, ◌-◌, ◌*◌, ◌≤◌, ◌<◌}
use native.Mathlib.Omega.{arith}
use mathlib.Core.Path.{◌≡◌, refl, ap, ◌∙◌}
use mathlib.Core.List.{List}
use lib.ListN.{length, drop, get_or}
use lib.Ieee.{Float, nan}
use Rattle.std.specs.List.{copy_within}
use Rattle.bounds.specs.Bounds.{FROZEN, PART, PARTS, FILTER, FILTERS}
use Rattle.buffers.specs.Buffers.{over}
use Rattle.buffers.proofs.Over.{length_over, over-before, over_in}
use Rattle.fgo_spec.specs.Lists.{segment}
use Rattle.fgo_part.proofs.Parts.{copy_over, segment_long, segment-at, entry_same}
use Rattle.fgo_freeze.specs.Frozen.{Raised}
use Rattle.buffers.proofs.Agreeing.{drop_over}

-- m entries from place o on, moved up by s
module _ {A : Type 0} (l l' : List A) (d : A) (o m s : ℕ) (room : o + m + s ≤ length l) (e : l' ≡ copy_within l o (o + m) (o + s)) where
  abbrev piece : List A
  piece = segment o (o + m) l

  long : length piece ≡ m
  long = segment_long l o m (omega arith)

  fits : o + s + length piece ≤ length l
  fits = omega (arith, long)

  is : l' ≡ over (o + s) piece l
  is = e ∙ copy_over l o m (o + s) (omega arith)

  lasts : length l' ≡ length l
  lasts = ap length is ∙ length_over (o + s) piece l fits

  stays : (i : ℕ) → i < o + s → get_or l' i d ≡ get_or l i d
  stays i h = ap (λ z. get_or z i d) is ∙ over-before (o + s) piece l fits i d h

  ends : (n : ℕ) → n ≡ o + m + s → drop n l' ≡ drop n l
  ends n h = ap (drop n) is ∙ drop_over (o + s) piece l fits n (omega (arith, long))

  moves : (i j : ℕ) → o ≤ i → i < o + m → j ≡ i + s → get_or l' j d ≡ get_or l i d
  moves i j h k q =
      let p : j ≡ o + s + (i - o) = omega arith in
      let r : o + (i - o) ≡ i = omega arith in
      ap (λ z. get_or z j d) is
      ∙ ap (λ (n : ℕ). get_or (over (o + s) piece l) n d) p
      ∙ over_in (o + s) piece l fits (i - o) d (omega (arith, long))
      ∙ segment-at l o m d (i - o) (omega arith)
      ∙ ap (λ (n : ℕ). get_or l n d) r

-- of words and of numbers
pub raised :
    (k n : ℕ) (t t' : List ℕ) (f f' : List Float) → k ≤ n → n < FROZEN → length t ≡ PARTS → length f ≡ FILTERS →
    t' ≡ copy_within t (PART * k) (PART * n) (PART * (k + 1)) → f' ≡ copy_within f (FILTER * k) (FILTER * n) (FILTER * (k + 1)) → Raised k n t f t' f'
raised k n t t' f f' h few wide deep et ef =
    let a : PART * n ≡ PART * k + PART * (n - k) = omega arith in
    let b : PART * (k + 1) ≡ PART * k + PART = omega arith in
    let x : FILTER * n ≡ FILTER * k + FILTER * (n - k) = omega arith in
    let y : FILTER * (k + 1) ≡ FILTER * k + FILTER = omega arith in
    let u : t' ≡ copy_within t (PART * k) (PART * k + PART * (n - k)) (PART * k + PART) = et ∙ rw (a, b) refl in
    let v : f' ≡ copy_within f (FILTER * k) (FILTER * k + FILTER * (n - k)) (FILTER * k + FILTER) = ef ∙ rw (x, y) refl in
    let p : PART * k + PART * (n - k) + PART ≤ length t = omega arith in
    let q : FILTER * k + FILTER * (n - k) + FILTER ≤ length f = omega arith in
    record {
      wide = lasts t t' 0 (PART * k) (PART * (n - k)) PART p u;
      deep = lasts f f' nan (FILTER * k) (FILTER * (n - k)) FILTER q v;
      past =
          record {
            words = ends t t' 0 (PART * k) (PART * (n - k)) PART p u (PART * suc n) (omega arith);
            numbers = ends f f' nan (FILTER * k) (FILTER * (n - k)) FILTER q v (FILTER * suc n) (omega arith);
          };
      below = λ j l. entry_same t f j t' f' j
          (λ i r. stays t t' 0 (PART * k) (PART * (n - k)) PART p u (PART * j + i) (omega arith))
          (λ i r. stays f f' nan (FILTER * k) (FILTER * (n - k)) FILTER q v (FILTER * j + i) (omega arith));
      above = λ j l m. entry_same t f j t' f' (suc j)
          (λ i r. moves t t' 0 (PART * k) (PART * (n - k)) PART p u (PART * j + i) (PART * suc j + i) (omega arith) (omega arith) (omega arith))
          (λ i r. moves f f' nan (FILTER * k) (FILTER * (n - k)) FILTER q v (FILTER * j + i) (FILTER * suc j + i) (omega arith) (omega arith) (omega arith));
    }
