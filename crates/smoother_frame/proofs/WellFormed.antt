-- What a well-formed frame keeps to. Assumes nothing.
use Prim.Native.Nat.{ℕ, ◌≤◌}
use mathlib.Core.Path.{◌≡◌, refl, ◌∙◌}
use mathlib.Core.Bool.{Bool, true, false}
use mathlib.Core.List.{List}
use native.Mathlib.Omega.{arith}
use lib.ListN.{length, take}
use lib.Seq.{length-take-le, take_all, get_or-take}
use lib.Dec.{leb}
use lib.Ieee.{Float}
use borrow.Author.Tests.{leb-true, leb-false, le-leb, eqb-true, eq-eqb}
use Rattle.bounds.specs.Bounds.{HEAD, TRACKS, ASSOCIATIONS, SENSORS}
use Rattle.engine.specs.Body.{code_ok, time_ok}
use Rattle.engine.proofs.Every.{both}
use Rattle.smoother_frame.specs.Frame.{time, mode_word, track_count, association_count, sensor_count, words_long, numbers_long, frame, head_ok, exact, rows_ok, well_formed, Counts}

-- what the head's test tells
pub record Headed (most : ℕ) (w : List ℕ) : Type 0 where
  pub long : HEAD ≤ length w
  pub timed : time_ok (time w) ≡ true
  pub mode : mode_word w ≤ 2
  pub tracks : track_count w ≤ most
  pub associations : association_count w ≤ ASSOCIATIONS
  pub sensors : sensor_count w ≤ SENSORS

module _ (most : ℕ) (w : List ℕ) where
  pub headed : head_ok most w ≡ true → Headed most w
  unfolding head_ok code_ok
  headed h =
      let a = both _ _ h in
      let b = both (time_ok (time w)) _ a.1 in
      let c = both _ _ b.1 in
      let d = both _ _ c.1 in
      let e = both _ _ d.1 in
      let f = both _ _ e.1 in
      record {
        long = leb-true _ _ a.0;
        timed = b.0;
        mode = leb-true _ _ c.0;
        tracks = leb-true _ _ d.0;
        associations = leb-true _ _ e.0;
        sensors = leb-true _ _ f.0;
      }

  pub counts : most ≤ TRACKS → Headed most w → Counts w
  counts l h = record { long = h.long; tracks = omega arith; associations = h.associations; sensors = h.sensors }

pub exact_of : (w : List ℕ) (x : List Float) → exact w x ≡ true → (length w ≡ words_long w) × (length x ≡ numbers_long w)
unfolding exact
exact_of w x h = let a = both _ _ h in (eqb-true _ _ a.0, eqb-true _ _ a.1)

-- ---- the part of a slot that its counts ask for has the slot's head

long_enough : (n : ℕ) (a : List ℕ) → HEAD ≤ n → HEAD ≤ length a → HEAD ≤ length (take n a)
long_enough n a h l = go (leb n (length a)) refl
  where
    go : (b : Bool) → leb n (length a) ≡ b → HEAD ≤ length (take n a)
    go true e = omega (arith, length-take-le n a (leb-true n (length a) e))
    go false e = let g = leb-false n (length a) e in rw (take_all n a (omega arith)) l

pub head_taken : (most : ℕ) (a : List ℕ) → HEAD ≤ length a → head_ok most (take (words_long a) a) ≡ head_ok most a
unfolding head_ok
head_taken most a l =
    let n = words_long a in
    rw (le-leb HEAD (length (take n a)) (long_enough n a (omega arith) l), le-leb HEAD (length a) l, get_or-take n a 0 0 (omega arith), get_or-take n a 1 0 (omega arith), get_or-take n a 2 0 (omega arith), get_or-take n a 3 0 (omega arith), get_or-take n a 4 0 (omega arith), get_or-take n a 5 0 (omega arith))

-- and is as long as its counts say: it is well formed where its rows are in bounds
pub front_formed : (most : ℕ) (a : List ℕ) (x : List Float) → head_ok most a ≡ true → words_long a ≤ length a → numbers_long a ≤ length x
    → well_formed most (frame (take (words_long a) a) (take (numbers_long a) x)) ≡ rows_ok (take (words_long a) a) (take (numbers_long a) x)
unfolding well_formed exact
front_formed most a x h l m =
    let n = words_long a in
    let t = length-take-le n a l in
    let u = length-take-le (numbers_long a) x m in
    let w = take n a in
    let i = get_or-take n a 2 0 (omega arith) in
    let j = get_or-take n a 3 0 (omega arith) in
    let k = get_or-take n a 4 0 (omega arith) in
    rw (head_taken most a (headed most a h).long ∙ h, eq-eqb (length w) (words_long w) (omega arith), eq-eqb (length (take (numbers_long a) x)) (numbers_long w) (omega arith))
