-- A frame that a call gives stands at the front of its buffers. Assumes nothing.
use Prim.Native.Nat.{ℕ, ◌+◌, ◌≤◌}
use native.Mathlib.Omega.{arith}
use mathlib.Core.Path.{◌≡◌}
use mathlib.Core.List.{List}
use lib.ListN.{length, take, drop, length-append}
use lib.Seq.{take-append_seam}
use lib.Ieee.{Float}
use Rattle.buffers.specs.Answer.{Reply, refused, waits, gives, Written, answer_of, words_after, numbers_after, Small, Ends, Answer}
use Rattle.buffers.specs.Buffers.{over}
use Rattle.print.specs.Printed.{Shown}

pub front : {A : Type 0} (g l : List A) → take (length g) (over 0 g l) ≡ g
unfolding over
front g l = take-append_seam g (drop (0 + length g) l)

front_long : {A : Type 0} (g l : List A) → length g ≤ length (over 0 g l)
unfolding over
front_long g l = omega (arith, length-append g (drop (0 + length g) l))

module _ {E S R M : Type 0} (written : E → Written) (state_of : R → M → S) where
  shows : (a : Reply E) (ws : List ℕ) (ns : List Float) → Small written a → Shown (answer_of written a) (words_after written a ws) (numbers_after written a ns)
  shows (refused n) ws ns h = tt
  shows waits ws ns h = tt
  shows (gives e) ws ns h =
      record {
        words = front_long (written e).words ws;
        numbers = front_long (written e).numbers ns;
        wide = h.0;
        deep = h.1;
      }

  pub shown :
      {a : Reply E × S} {r r' : R} {m m' : M} {ws ws' : List ℕ} {ns ns' : List Float} {answer : Answer} →
      Ends written state_of a r m ws ns answer r' m' ws' ns' → Shown answer ws' ns'
  shown {a} {ws = ws} {ns = ns} h = rw (h.answered, h.words, h.numbers) (shows a.0 ws ns h.small)
