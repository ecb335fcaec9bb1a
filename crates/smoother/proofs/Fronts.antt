-- A window of which the front was lent to an opening: what the opening leaves of the whole, by what it leaves of that
-- part. Assumes nothing.
use Prim.Native.Nat.{ℕ, zero, suc, ◌≤◌}
use native.Mathlib.Nat.{zero-add}
use mathlib.Core.Path.{◌≡◌, sym, ap, ◌∙◌}
use mathlib.Core.List.{List, ◌++◌}
use Rattle.std.specs.Float.{binary64}
use Rattle.std.specs.Float.Ieee.{of_bits}
use lib.ListN.{length, take, drop, replicate, length-replicate, take-append-drop}
use lib.Seq.{length-take-le}
use Rattle.buffers.specs.Answer.{left_by}
use Rattle.buffers.specs.Buffers.{over}
use Rattle.smoother_window.specs.declared.size.WindowSize.{WindowSize}
use Rattle.smoother.specs.Promise.{Window, window, emptied, fronted, lent_of, rest_of}

module _ {A : Type 0} (k : ℕ) (l l' : List A) (rest : drop k l' ≡ drop k l) where
  -- the first k elements are others
  front_over : (g : List A) → length g ≡ k → take k l' ≡ g → l' ≡ over 0 g l
  unfolding over
  front_over g h e =
      sym (take-append-drop k l') ∙ (λ i. e i ++ rest i) ∙ ap (λ (n : ℕ). g ++ drop n l) (sym (zero-add (length g) ∙ h))

  -- they are the same
  front_same : take k l' ≡ take k l → l' ≡ l
  front_same e = sym (take-append-drop k l') ∙ (λ i. e i ++ rest i) ∙ take-append-drop k l

  -- they are cleared
  front_cleared : (z : A) → k ≤ length l → take k l' ≡ replicate (length (take k l)) z → l' ≡ over 0 (replicate (length (take k l)) z) l
  front_cleared z h = front_over (replicate (length (take k l)) z) (length-replicate (length (take k l)) z ∙ length-take-le k l h)

-- so much of a window is there
abbrev pub Within : WindowSize → Window → Type 0
Within size w = (size.words ≤ length w.words) × (size.numbers ≤ length w.numbers)

-- the whole, where the rest of it stays
module _ (size : WindowSize) (w : Window) (h : Within size w) where
  pub left_whole : (w' : Window) (n : ℕ) → rest_of size w' ≡ rest_of size w → lent_of size w' ≡ left_by n (emptied (lent_of size w)) (lent_of size w)
      → w' ≡ left_by n (fronted (emptied (lent_of size w)) w) w
  left_whole w' zero r e =
      let a = front_cleared size.words w.words w'.words (ap (λ w. w.words) r) 0 h.0 (ap (λ w. w.words) e) in
      let b = front_cleared size.numbers w.numbers w'.numbers (ap (λ w. w.numbers) r) (of_bits binary64 0) h.1 (ap (λ w. w.numbers) e) in
      λ i. window (a i) (b i)
  left_whole w' (suc n) r e =
      let a = front_same size.words w.words w'.words (ap (λ w. w.words) r) (ap (λ w. w.words) e) in
      let b = front_same size.numbers w.numbers w'.numbers (ap (λ w. w.numbers) r) (ap (λ w. w.numbers) e) in
      λ i. window (a i) (b i)
