-- The calls of a list, one after the other. Assumes nothing.
use Prim.Native.Nat.{ℕ, ◌≤◌, ◌<◌}
use native.Mathlib.Omega.{arith}
use mathlib.Core.Path.{◌≡◌, sym, subst}
use mathlib.Core.List.{List}
use lib.ListN.{length}
use Rattle.std.specs.Prelude.{Option, Some, None}
use Rattle.calls_input.specs.declared.RefinerCall.TheVariants as refiner
use Rattle.calls_input.specs.declared.SmootherCall.TheVariants as smoother
use Rattle.calls_input.specs.declared.Call.{Call}
use Rattle.calls_input.specs.declared.Call.TheVariants.{Refiner, Smoother, Lend, LendWindow, Digest}
use Rattle.calls_input.specs.declared.Next.{Next}
use Rattle.calls_input.specs.Input.{next_at}
use Rattle.calls_input.proofs.Placed.{Placed, placed}
use Rattle.calls.specs.declared.calling.Desk.{Desk}
use Rattle.calls.specs.Calling.{Does}

-- what a call prints ends within the buffer
pub ends : (a b : Desk) (end : ℕ) (out : List ℕ) (c : Option Call) (f : List ℕ) → Does a b end out c f → end ≤ length out
ends a b end out (Some (Refiner refiner.Open)) f h = h.refines.text_is.within
ends a b end out (Some (Refiner refiner.Push)) f h = h.refines.text_is.within
ends a b end out (Some (Refiner refiner.Take)) f h = h.refines.text_is.within
ends a b end out (Some (Refiner refiner.Counters)) f h = h.refines.text_is.within
ends a b end out (Some (Refiner (refiner.Write c))) f h = h.refines.text_is.within
ends a b end out (Some (Smoother smoother.Open)) f h = h.smooths.text_is.within
ends a b end out (Some (Smoother smoother.PushLast)) f h = h.smooths.text_is.within
ends a b end out (Some (Smoother (smoother.Push size))) f h = h.smooths.text_is.within
ends a b end out (Some (Smoother smoother.Take)) f h = h.smooths.text_is.within
ends a b end out (Some (Smoother (smoother.Write c))) f h = h.smooths.text_is.within
ends a b end out (Some (Lend size)) f h = h.told.within
ends a b end out (Some (LendWindow size)) f h = h.told.within
ends a b end out (Some Digest) f h = h.told.within
ends a b end out None f h = h.told.within

-- the next call is there, and as it must be
pub next_placed : {s : List ℕ} {at : ℕ} (n : Next) → n ≡ next_at s at → at < length s → Placed s at n
next_placed {s} {at} n e h = subst (Placed s at) (sym e) (placed s at (omega arith))
