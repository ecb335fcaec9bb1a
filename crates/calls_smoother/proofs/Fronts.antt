-- The front of a window that is lent to an opening. Assumes nothing.
use Prim.Native.Nat.{◌≤◌}
use mathlib.Core.Path.{◌≡◌, sym}
use lib.ListN.{length}
use lib.Seq.{length-take-le}
use Rattle.bounds.specs.Bounds.{WINDOW, VALUES}
use Rattle.buffers.specs.Answer.{opened_by}
use Rattle.smoother_window.specs.declared.size.WindowSize.{WindowSize}
use Rattle.smoother_window.specs.declared.SmootherConfig.{SmootherConfig}
use Rattle.smoother.specs.Smoother.{new, open_refusal, opens}
use Rattle.smoother.specs.Promise.{Window, lent_of}
use Rattle.smoother.proofs.Fronts.{Within}
use Rattle.calls_smoother.specs.declared.window.Room.{Room}
use Rattle.calls_smoother.specs.Room.{Fits, size_of}

pub within : (room : Room) (size : WindowSize) (w : Window) → size ≡ size_of room → Fits room → length w.words ≡ WINDOW → length w.numbers ≡ VALUES → Within size w
within room size w e f x y = (rw (e, x) f.words, rw (e, y) f.numbers)

module _ (size : WindowSize) (w : Window) (h : Within size w) where
  -- it is as long as the size says
  pub opened_over : (c : SmootherConfig) → opens c size.words size.numbers ≡ opened_by (open_refusal c (length (lent_of size w).words) (length (lent_of size w).numbers)) (new c)
  unfolding opens
  opened_over c = λ i. opened_by (open_refusal c (sym (length-take-le size.words w.words h.0) i) (sym (length-take-le size.numbers w.numbers h.1) i)) (new c)
