-- A frame of the input, read to the front of where it stands. Assumes nothing.
use Prim.Native.Nat.{ℕ}
use mathlib.Core.Path.{◌≡◌, sym, ap, ◌∙◌}
use mathlib.Core.List.{List, ◌++◌}
use lib.ListN.{length, take}
use lib.Seq.{take-append_seam}
use Rattle.std.specs.Prelude.{Float}
use Rattle.buffers.specs.Answer.{pushed}
use Rattle.smoother_frame.specs.Frame.{frame}
use Rattle.smoother_window.specs.declared.FixedLagSmoother.{FixedLagSmoother}
use Rattle.calls_smoother.specs.declared.window.LentWindow.{LentWindow}
use Rattle.calls_smoother.specs.Smoothing.{AnswersOver}

-- what was read is the front
pub front_read : {A : Type 0} (n : ℕ) (new rest : List A) → length new ≡ n → take n (new ++ rest) ≡ new
front_read n new rest e = ap (λ k. take k (new ++ rest)) (sym e) ∙ take-append_seam new rest

-- the frame that is pushed, told by equal lists
pub told_as :
    {s s' : FixedLagSmoother} {w w' : LentWindow} {ws ws' : List ℕ} {ns ns' : List Float} {end : ℕ} {out : List ℕ} {f f' : List ℕ} {g g' : List Float} →
    AnswersOver s w ws ns s' w' ws' ns' end out (pushed (frame f g)) → f ≡ f' → g ≡ g' →
    AnswersOver s w ws ns s' w' ws' ns' end out (pushed (frame f' g'))
told_as h p q = rw (← p, ← q) h
