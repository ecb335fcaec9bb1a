-- What open, push, take and counters promise, for any refiner value, any bytes, any buffers and any contents of the
-- lent memory. Definitions only.
use Rattle.std.specs.Prelude.{ℕ, zero, suc, ◌≤◌, ◌≡◌, true, cond, List, length, Float, Result, Ok, Err}
use Rattle.bounds.specs.Bounds.{ASSOCIATIONS, SENSORS, TRACKS}
use Rattle.refusals.specs.declared.Refusal.{Refusal}
use Rattle.refusals.specs.Refusals.{number_of}
use Rattle.buffers.specs.Answer.{Op, Reply, refused, waits, gives, roomy, checked, Ends, Answer}
use Rattle.engine.specs.declared.config.FgoConfig.{FgoConfig}
use Rattle.engine.specs.Config.{legal}
use Rattle.engine.specs.Body.{Body}
use Rattle.fgo_spec.specs.declared.moves.FgoCounters.{FgoCounters}
use Rattle.fgo_spec.specs.Emitting.{Emitted, written}
use Rattle.fgo_spec.specs.Refiner.{State, reply}
use Rattle.fgo_state.specs.declared.state.FixedLagRefiner.{FixedLagRefiner}
use Rattle.fgo_state.specs.declared.state.Memory.{Memory}
use Rattle.fgo_state.specs.Memory.{state_of}
use Rattle.fgo_state.specs.Contents.{memory_after}
use Rattle.fgo_state.specs.Sound.{bodies_ok, sound_ok}

-- ---- opening

-- the refiner that a legal opening gives
abbrev pub new_by : FgoConfig → FixedLagRefiner
new_by c =
    record {
      config = c;
      first = record { 0 = 0 };
      held = 0;
      frozen = 0;
      owned = 0;
      next_id = record { 0 = 1 };
      counters = record { swaps = 0; merges = 0; splits = 0; drops = 0 };
    }

-- 1: "a setting out of bounds or not finite"; 0 for none
abbrev pub open_refusal : FgoConfig → ℕ
open_refusal c = cond (legal c) 0 1

-- ---- push and take

-- 3, then 4, with output buffers of so many words and numbers; 0 for none
unfoldable pub later_refusal : FixedLagRefiner → Memory → ℕ → ℕ → ℕ
later_refusal r m words numbers = cond (sound_ok r m) (cond (roomy words numbers) 0 4) 3

-- the reply to a push or a take with the output buffers ws and ns, and the state after it
unfoldable pub due : FixedLagRefiner → Memory → Op Body → List ℕ → List Float → Reply Emitted × State
due r m o ws ns = checked (later_refusal r m (length ws) (length ns)) (state_of r m) (reply r.config (state_of r m) o)

-- a frame has no more tracks, associations and sensors than there is room for, and an id for each association
pub record Sized (e : Emitted) : Type 0 where
  pub tracks : length e.tracks ≤ TRACKS
  pub associations : length e.scan.frame.associations ≤ ASSOCIATIONS
  pub sensors : length e.scan.frame.sensors ≤ SENSORS
  pub complete : length e.scan.ids ≡ length e.scan.frame.associations

-- that of a reply, if it gives one
abbrev pub GivenSized : Reply Emitted → Type 0
GivenSized (refused n) = Unit {0}
GivenSized waits = Unit {0}
GivenSized (gives e) = Sized e

-- A call of o that is due a, and is given the refiner r, the memory m and the output buffers ws and ns, answers g and
-- leaves u, m', ws' and ns': state, memory and output. Every cell of the memory is as defined, settings stay, bodies
-- that pass stay the only ones held, and a frame that is given is sized so.
pub record Carried (o : Op Body) (a : Reply Emitted × State) (r : FixedLagRefiner) (m : Memory) (ws : List ℕ) (ns : List Float)
    (g : Answer) (u : FixedLagRefiner) (m' : Memory) (ws' : List ℕ) (ns' : List Float) : Type 0 where
  pub ends : Ends written state_of a r m ws ns g u m' ws' ns'
  pub memory : m' ≡ memory_after r.config (state_of r m) o a.0 m
  pub settings : u.config ≡ r.config
  pub bodies :
      bodies_ok m.scans.bodies m.scans.columns r.first.0 r.held ≡ true →
      bodies_ok m'.scans.bodies m'.scans.columns u.first.0 u.held ≡ true
  pub sized : GivenSized a.0

-- a push or a take, o, does what it is due
abbrev pub Promised :
    Op Body → FixedLagRefiner → Memory → List ℕ → List Float → Answer → FixedLagRefiner → Memory → List ℕ → List Float → Type 0
Promised o r m ws ns = Carried o (due r m o ws ns) r m ws ns

-- ---- counters

-- what counters answers, by value: a refusal's number, or the moves made so far
pub data Counted : Type 0 where
  NotCounted : ℕ → Counted
  Moves : FgoCounters → Counted

-- what the code answers, so read
abbrev pub counted_in : Result FgoCounters Refusal → Counted
counted_in (Ok k) = Moves k
counted_in (Err r) = NotCounted (number_of r)

-- by a refusal, 0 for none
abbrev pub counted_by : ℕ → FgoCounters → Counted
counted_by zero k = Moves k
counted_by (suc n) k = NotCounted (suc n)

-- 3: "the state breaks its rule"; 0 for none
abbrev pub count_refusal : FixedLagRefiner → Memory → ℕ
count_refusal r m = cond (sound_ok r m) 0 3
