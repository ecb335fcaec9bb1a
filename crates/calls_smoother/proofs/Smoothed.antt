-- A call of the smoother that prints to the front of a buffer prints to the buffer. Assumes nothing.
use Prim.Native.Nat.{ℕ}
use mathlib.Core.List.{List, ◌++◌}
use Rattle.std.specs.Prelude.{Float}
use Rattle.buffers.specs.Answer.{Op, Written}
use Rattle.smoother_window.specs.declared.FixedLagSmoother.{FixedLagSmoother}
use Rattle.smoother.specs.Promise.{Window}
use Rattle.calls_input.specs.declared.SmootherCall.{SmootherCall}
use Rattle.calls_input.specs.declared.SmootherCall.TheVariants.{Open, PushLast, Push, Take, Write}
use Rattle.calls_cells.proofs.Opened.{ready_in}
use Rattle.calls_smoother.specs.declared.window.Room.{Room}
use Rattle.calls_smoother.specs.declared.window.LentSmoother.{LentSmoother}
use Rattle.calls_smoother.specs.declared.window.LentWindow.{LentWindow}
use Rattle.calls_smoother.specs.Smoothing.{Tells, AnswersOver, Smooths}

module _ {s s' : LentSmoother} {ws ws' : List ℕ} {ns ns' : List Float} {end : ℕ} {front : List ℕ} (rest : List ℕ) where
  pub tells_in :
      {state : FixedLagSmoother} {room : Room} {win : Window} {text : List ℕ} →
      Tells s ws ns s' ws' ns' end front state room win text →
      Tells s ws ns s' ws' ns' end (front ++ rest) state room win text
  tells_in t =
      record {
        smoother_is = t.smoother_is;
        room_is = t.room_is;
        window_is = t.window_is;
        words = t.words;
        numbers = t.numbers;
        text_is = ready_in rest t.text_is;
      }

module _ {s s' : FixedLagSmoother} {w w' : LentWindow} {ws ws' : List ℕ} {ns ns' : List Float} {end : ℕ} {front : List ℕ} (rest : List ℕ) where
  pub answers_in :
      {op : Op Written} →
      AnswersOver s w ws ns s' w' ws' ns' end front op →
      AnswersOver s w ws ns s' w' ws' ns' end (front ++ rest) op
  answers_in a =
      record {
        given = a.given;
        promised = a.promised;
        window_rest = a.window_rest;
        smoother_is = a.smoother_is;
        text_is = ready_in rest a.text_is;
      }

-- any call
module _ (s s' : LentSmoother) (ws ws' : List ℕ) (ns ns' : List Float) (end : ℕ) (front rest : List ℕ) where
  pub smooths_in :
      (c : SmootherCall) (f : List ℕ) (last : Written) →
      Smooths s ws ns s' ws' ns' end front c f last →
      Smooths s ws ns s' ws' ns' end (front ++ rest) c f last
  smooths_in Open f last h = tells_in rest h
  smooths_in PushLast f last h = answers_in rest h
  smooths_in (Push size) f last h = answers_in rest h
  smooths_in Take f last h = answers_in rest h
  smooths_in (Write c) f last h = tells_in rest h
