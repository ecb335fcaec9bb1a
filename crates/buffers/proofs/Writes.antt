-- A list written over another one, part by part. Assumes nothing.
use Prim.Native.Nat.{ℕ, ◌+◌, ◌≤◌}
use native.Mathlib.Nat.{add-zero, zero-add}
use native.Mathlib.Omega.{arith}
use mathlib.Core.Path.{◌≡◌, refl, sym, ap, ◌∙◌}
use mathlib.Core.List.{List, [], ◌++◌, append_assoc}
use lib.ListN.{length, take, drop, length-append, take-append-drop}
use lib.Seq.{length-take-le, drop_at}
use Rattle.buffers.specs.Buffers.{over}
use Rattle.buffers.proofs.Over.{length_over, over-more}

-- what stands before it may be written later
pub over_first : {A : Type 0} (h g l : List A) → length h ≤ length l → over 0 h (over (length h) g l) ≡ over 0 (h ++ g) l
unfolding over
over_first h g l fits =
    let a : take (length h) l ++ (g ++ drop (length h + length g) l) ≡ over (length h) g l = refl in
    let e : drop (0 + length h) (over (length h) g l) ≡ g ++ drop (length h + length g) l =
    ap (λ (n : ℕ). drop n (over (length h) g l)) (zero-add (length h)) ∙ drop_at (take (length h) l) (g ++ drop (length h + length g) l) (length h) (length-take-le (length h) l fits) in
    let f : length h + length g ≡ 0 + length (h ++ g) = omega (arith, length-append h g) in
    ap (λ x. h ++ x) (e ∙ ap (λ (n : ℕ). g ++ drop n l) f) ∙ sym (append_assoc h g (drop (0 + length (h ++ g)) l))

-- where the list g was written over l, from place o on
pub record WrittenOver {A : Type 0} (o : ℕ) (g l l' : List A) : Type 0 where
  pub long : length l' ≡ length l
  pub written : l' ≡ over o g l

module _ {A : Type 0} (o : ℕ) (l : List A) where
  over_none : over o [] l ≡ l
  unfolding over
  over_none = rw add-zero (take-append-drop o l)

  pub written_none : WrittenOver o [] l l
  written_none = record { long = refl; written = sym over_none }

  -- h after g
  pub written-more : {l' l'' : List A} (g h : List A) → WrittenOver o g l l' → o + length g + length h ≤ length l → l'' ≡ over (o + length g) h l' → WrittenOver o (g ++ h) l l''
  written-more {l'} {l''} g h w fits e =
      let s = length-append g h in
      let p : l'' ≡ over o (g ++ h) l = e ∙ ap (over (o + length g) h) w.written ∙ over-more o g l (omega arith) h in
      record { long = ap length p ∙ length_over o (g ++ h) l (omega arith); written = p }

  -- the same lists, said otherwise
  pub written_same : {g g' l' l'' : List A} → WrittenOver o g l l' → g ≡ g' → l'' ≡ l' → WrittenOver o g' l l''
  written_same w e f = record { long = ap length f ∙ w.long; written = f ∙ w.written ∙ ap (λ (x : List A). over o x l) e }
