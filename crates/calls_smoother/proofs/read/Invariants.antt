use Prim.Native.Nat.{ℕ, ◌+◌, ◌*◌, ◌<◌}
use mathlib.Core.Path.{◌≡◌}
use lib.ListN.{get_or}
use Rattle.bounds.specs.Bounds.{SETTING}
use Rattle.engine.specs.Little.{little}
use Rattle.calls_smoother.proofs.read.Given as goal

abbrev pub invariant-loop-i : goal.invariant-loop-i
invariant-loop-i g l = let of_word = g.T.FromWord.of_word in (k : ℕ) → k < l.i → of_word (little SETTING l.s (l.n + SETTING * k)) ≡ get_or l.list k (of_word 0)
