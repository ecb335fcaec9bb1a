-- A recording that passes is its contents and then its bodies, in order without gaps. Assumes nothing.
use Prim.Native.Nat.{ℕ, zero, suc, ◌+◌, ◌*◌, ◌<◌}
use mathlib.Core.Path.{◌≡◌, sym}
use mathlib.Core.List.{List, flatten}
use mathlib.Core.Bool.{true}
use native.Mathlib.Omega.{arith}
use lib.ListN.{length, take, drop, take-append-drop}
use lib.Seq.{drop-drop, drop-length}
use borrow.Author.Tests.{lt-ltb, le-leb}
use Rattle.bounds.specs.Bounds.{CONTENTS, ENTRY}
use Rattle.engine.specs.Body.{rows}
use Rattle.recording.specs.Recording.{count, offset, size, start, holds, recorded_body}
use Rattle.recording.specs.Filled.{PassesFilled}
use Rattle.recording.proofs.Recorded.{start_grows, Sized, Full, sized, full}

module _ (s : List ℕ) (e : Sized s) (f : Full s) where
  holds-each : (i : ℕ) → i < count s → holds s i ≡ true
  unfolding holds
  holds-each i h =
      let p = f.places i h in
      let g = start_grows s i (count s) h in
      rw (le-leb (CONTENTS + ENTRY * i + ENTRY) (length s) (omega (arith, e.table)), lt-ltb i (count s) h, le-leb (offset s i + size s i) (length s) (omega (arith, p, g, f.whole)))

  body_is : (i : ℕ) → i < count s → recorded_body s i ≡ take (size s i) (drop (start s i) s)
  unfolding recorded_body
  body_is i h = rw (holds-each i h, f.places i h)

  -- from where body i has to begin, bodies i, i + 1, .. follow to the end
  rest : (n i : ℕ) → i + n ≡ count s → drop (start s i) s ≡ flatten (rows (recorded_body s) i n)
  unfolding rows flatten start
  rest zero i h = let q : i ≡ count s = omega arith in rw (q, f.whole) (drop-length s)
  rest (suc n) i h =
      let b = body_is i (omega arith) in
      let ih = rest n (suc i) (omega arith) in
      rw (b, ← ih, ← drop-drop (size s i) (start s i) s) (sym (take-append-drop (size s i) (drop (start s i) s)))

pub fills-all : PassesFilled
unfolding start
fills-all s e f =
    let a = sized s e in
    let b = full s f in
    let r : drop (CONTENTS + ENTRY * count s) s ≡ flatten (rows (recorded_body s) 0 (count s)) = rest s a b (count s) 0 (omega arith) in
    record { bytes = rw (← r) (sym (take-append-drop (CONTENTS + ENTRY * count s) s)); held = holds-each s a b }
