-- What a call of the refiner prints. Assumes nothing.
use Prim.Native.Nat.{ℕ, zero, suc}
use mathlib.Core.Path.{◌≡◌, ap}
use mathlib.Core.List.{List, ◌++◌}
use Rattle.refusals.specs.declared.Refusal.{Refusal}
use Rattle.refusals.specs.Refusals.{number_of}
use Rattle.fgo_spec.specs.declared.moves.FgoCounters.{FgoCounters}
use Rattle.fgo.specs.Promise.{counted_in, counted_by}
use Rattle.print.specs.Text.{refused_line, counters_line, counted_line}
use Rattle.calls_cells.proofs.Opened.{ready_in}
use Rattle.std.specs.Prelude.{Float, Result, Ok, Err}
use Rattle.buffers.specs.Answer.{Op}
use Rattle.engine.specs.Body.{Body}
use Rattle.fgo_state.specs.declared.state.FixedLagRefiner.{FixedLagRefiner}
use Rattle.fgo_state.specs.declared.state.Memory.{Memory}
use Rattle.calls_input.specs.declared.RefinerCall.{RefinerCall}
use Rattle.calls_input.specs.declared.RefinerCall.TheVariants.{Open, Push, Take, Counters, Write}
use Rattle.calls_refiner.specs.declared.LentRefiner.{LentRefiner}
use Rattle.calls_refiner.specs.Refining.{counting_text, Tells, Answers, Refines}

-- the line of the moves made so far, or of a refusal
pub counting : (a : Result FgoCounters Refusal) (n : ℕ) (k : FgoCounters) → counted_in a ≡ counted_by n k → counted_line a ≡ counting_text n k
unfolding counted_line
counting (Ok q) zero k h = let e : q ≡ k = cc in ap counters_line e
counting (Ok q) (suc n) k h = cc
counting (Err r) zero k h = cc
counting (Err r) (suc n) k h = let e : number_of r ≡ suc n = cc in ap refused_line e

-- ---- a call that prints to the front of a buffer prints to the buffer

module _ {r r' : LentRefiner} {ws ws' : List ℕ} {ns ns' : List Float} {end : ℕ} {front : List ℕ} (rest : List ℕ) where
  tells_in :
      {state : FixedLagRefiner} {memory : Memory} {text : List ℕ} →
      Tells r ws ns r' ws' ns' end front state memory text →
      Tells r ws ns r' ws' ns' end (front ++ rest) state memory text
  tells_in t =
      record {
        refiner_is = t.refiner_is;
        memory_is = t.memory_is;
        words = t.words;
        numbers = t.numbers;
        last_is = t.last_is;
        text_is = ready_in rest t.text_is;
      }

  pub answers_in : {op : Op Body} → Answers r ws ns r' ws' ns' end front op → Answers r ws ns r' ws' ns' end (front ++ rest) op
  answers_in a = record { given = a.given; promised = a.promised; frame = a.frame; text_is = ready_in rest a.text_is }

-- any call
module _ (r r' : LentRefiner) (ws ws' : List ℕ) (ns ns' : List Float) (end : ℕ) (front rest : List ℕ) where
  pub refines_in : (c : RefinerCall) (f : List ℕ) → Refines r ws ns r' ws' ns' end front c f → Refines r ws ns r' ws' ns' end (front ++ rest) c f
  refines_in Open f h = tells_in rest h
  refines_in Push f h = answers_in rest h
  refines_in Take f h = answers_in rest h
  refines_in Counters f h = tells_in rest h
  refines_in (Write c) f h = tells_in rest h
