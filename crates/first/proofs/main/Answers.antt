use Prim.Native.Nat.{ℕ}
use native.Mathlib.Omega.{arith}
use mathlib.Core.Path.{sym, subst}
use mathlib.Core.List.{List}
use lib.ListN.{length-take}
use lib.Ieee.{Float}
use Rattle.buffers.specs.Answer.{Op, Reply, refused, waits, gives, answer_of, words_after, Answer}
use Rattle.engine.specs.Body.{Body}
use Rattle.fgo_spec.specs.Emitting.{Emitted, words_of, written}
use Rattle.fgo_state.specs.declared.state.FixedLagRefiner.{FixedLagRefiner}
use Rattle.fgo_state.specs.declared.state.Memory.{Memory}
use Rattle.fgo_state.specs.Memory.{state_of}
use Rattle.fgo.specs.Promise.{due, GivenSized, Promised}
use Rattle.smoother_frame.specs.Frame.{Counts}
use Rattle.print.specs.Printed.{Counted}
use Rattle.print.proofs.Fitting.{ready, short_answer_few}
use Rattle.print.proofs.Showing.{front, shown}
use Rattle.first.proofs.main.Goals as goal

-- the counts of a frame that is given are in bounds
counted : (a : Reply Emitted) (ws : List ℕ) → GivenSized a → Counted (answer_of written a) (words_after written a ws)
unfolding words_of
counted (refused n) ws h = tt
counted waits ws h = tt
counted (gives e) ws h =
    subst Counts (sym (front (words_of e) ws))
    (record { long = omega arith; tracks = h.tracks; associations = h.associations; sensors = h.sensors })

-- likewise of a call's answer and its buffer
given :
    {o : Op Body} {r r' : FixedLagRefiner} {m m' : Memory} {ws ws' : List ℕ} {ns ns' : List Float} {answer : Answer} →
    Promised o r m ws ns answer r' m' ws' ns' → Counted answer ws'
given {o} {r} {m = m} {ws = ws} {ns = ns} h = rw (h.ends.answered, h.ends.words) (counted (due r m o ws ns).0 ws h.sized)

pub invariant_of-shown : goal.invariant_of-shown
invariant_of-shown c = record { shown = shown written state_of c.push-answer.ensures.ends }

pub put_short-end-requires : goal.put_short-end-requires
put_short-end-requires c = given c.push-answer.ensures

pub slice_bounds-text-end : goal.slice_bounds-text-end
slice_bounds-text-end c = (ready c.put_short-end.ensures (short_answer_few _ _ _ (given c.push-answer.ensures)) (omega arith)).within

pub slice_bounds-write-end : goal.slice_bounds-write-end
slice_bounds-write-end c =
    let h = ready c.put_short-end.ensures (short_answer_few _ _ _ (given c.push-answer.ensures)) (omega arith) in
    omega (arith, h.within, length-take c.put_short-end.result c.put_short-end.new.out)
