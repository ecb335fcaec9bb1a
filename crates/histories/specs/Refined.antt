-- Demand 3 in the terms of one who calls a refiner: any list of pushes and takes from an opened one, with any bytes and
-- any buffers. Definitions only.
use Rattle.std.specs.Prelude.{ℕ, ◌+◌, ◌<◌, ◌≡◌, true, List, ◌∷◌, ◌++◌, map}
use Rattle.buffers.specs.Answer.{opened, opened_by, Op, Reply, gives}
use Rattle.engine.specs.declared.config.FgoConfig.{FgoConfig}
use Rattle.engine.specs.Body.{Body, frame_in}
use Rattle.fgo_spec.specs.Windows.{Scan}
use Rattle.fgo_spec.specs.Emitting.{Emitted, written}
use Rattle.fgo_spec.specs.Refiner.{new, reply, finish}
use Rattle.fgo_spec.specs.Rule.{All}
use Rattle.fgo_spec.specs.History.{run, settled, Sent, Told, History}
use Rattle.fgo_state.specs.declared.state.FixedLagRefiner.{FixedLagRefiner}
use Rattle.fgo_state.specs.declared.state.Memory.{Memory}
use Rattle.fgo_state.specs.Memory.{body_at, state_of}
use Rattle.fgo_state.specs.Sound.{bodies_ok, sound_ok, Sound}
use Rattle.fgo.specs.Promise.{new_by, open_refusal, Promised}
use Rattle.histories.specs.Calls as calls
use Rattle.histories.specs.Calls.{Calls, left, operations, accepted, wrote, due_after}

-- a call of push or of take
abbrev pub Call : Type 0
Call = calls.Call Body FixedLagRefiner Memory

-- it is lent the memory m, and is as the contract of push, or of take, says
abbrev pub Meets : FixedLagRefiner → Memory → Call → Type 0
Meets r m k =
    Promised k.sent r m k.words k.numbers k.answer k.value k.memory k.words_back k.numbers_back

-- memory that stands for the same: the bodies held are those of m, and so is all that the state says. What lies past a
-- count may be anything, and so demand 3 does not hang on what a call leaves there: that is Kept.antt's.
pub record Same (r : FixedLagRefiner) (m m' : Memory) : Type 0 where
  pub bodies :
      (i : ℕ) → i < r.held → body_at m'.scans.bodies m'.scans.columns (r.first.0 + i) ≡ body_at m.scans.bodies m.scans.columns (r.first.0 + i)
  pub state : state_of r m' ≡ state_of r m

-- after the memory m came back, it is lent memory that stands for the same, and is as its contract says
abbrev pub Keeps : FixedLagRefiner → Memory → Call → Type 0
Keeps r m k = Same r m k.lent × Meets r k.lent k

-- where the pushes and takes ops lead to, with the settings c: the refiner and the memory stand for the state that
-- document 01's refiner has then
pub record Reached (c : FgoConfig) (ops : List (Op Body)) (r : FixedLagRefiner) (m : Memory) : Type 0 where
  pub settings : r.config ≡ c
  pub state : state_of r m ≡ (run c ops).state
  pub bodies : bodies_ok m.scans.bodies m.scans.columns r.first.0 r.held ≡ true
  pub bytes : All Sent ops

-- "any list of pushes and takes runs from a new refiner, refused ones included": the refiner is one that open gave, and
-- what is pushed are bytes; the memory holds anything at first, and the buffers anything at each call
pub record Session (c : FgoConfig) (r : FixedLagRefiner) (m : Memory) (ks : List Call) : Type 0 where
  pub opening : opened_by (open_refusal c) (new_by c) ≡ opened r
  pub bytes : All (λ k. Sent k.sent) ks
  pub calls : Calls Keeps r m ks

-- the reply that document 01's refiner has to a call after the pushes and takes ops, 4 where a buffer is short
abbrev pub due_next : FgoConfig → List (Op Body) → Call → Reply Emitted
due_next c ops k = due_after frame_in (reply c) new written state_of ops k

-- demand 3, of calls from an opened refiner on
pub record Delivered (c : FgoConfig) (r : FixedLagRefiner) (m : Memory) (ks : List Call) : Type 0 where
  -- every call gets what document 01's refiner has for it
  pub delivered : calls.Delivered frame_in (reply c) new written state_of r m ks
  -- of a frame that is given demand 3 holds, over the frames given before it
  pub told :
      (past : List Call) (k : Call) (later : List Call) → ks ≡ past ++ (k ∷ later) → (e : Emitted) → due_next c (operations past) k ≡ gives e →
      Told c (run c (operations past)).emitted e
  -- and its ids are those that placing and search have left
  pub searched :
      (past : List Call) (k : Call) (later : List Call) → ks ≡ past ++ (k ∷ later) → (e : Emitted) → due_next c (operations past) k ≡ gives e →
      (rest : List Scan) × (settled c (run c (operations past)).state k.sent ≡ e.scan ∷ rest)
  -- demand 3 holds, clause by clause: History has the clauses on all of them, and Told those on each frame
  pub history : History c (operations ks)
  -- the refiner and its memory meet the state rule
  pub ruled : sound_ok (left r m ks).0 (left r m ks).1 ≡ true

-- the theorem, in proofs/: delivered : .. → Session c r m ks → Delivered c r m ks

-- ---- 3: "the state breaks its rule"

-- Of a refiner and a memory whose bodies are bytes, whatever else they hold; three says that a call answers 3. It does
-- just where a held body is refused by 5, 6 or 7, or the state breaks the rule.
pub record Third (r : FixedLagRefiner) (m : Memory) (three : Type 0) : Type 0 where
  pub only : three → Sound r m → ⊥
  pub always : (Sound r m → ⊥) → three

-- the laws, in proofs/: third : .. → Bytes m.scans.bodies → Meets r m k → Third r m (k.answer ≡ Refused 3)
--                       third_counted : .. → Bytes m.scans.bodies →
--                           Third r m (counted_by (count_refusal r m) n ≡ NotCounted 3)

-- ---- finish

-- what takes until 13 do after the calls ks
pub record Finished (c : FgoConfig) (r : FixedLagRefiner) (m : Memory) (ks fs : List Call) : Type 0 where
  -- they give the frames held, oldest first
  pub frames : let t = (run c (operations ks)).state in wrote fs ≡ map written (finish c t t.scans)
  -- after which none is held, and every frame that was accepted has come out, in that order
  pub none : (left r m (ks ++ fs)).0.held ≡ 0
  pub all : map (λ e. e.scan.frame) (run c (operations (ks ++ fs))).emitted ≡ accepted frame_in (ks ++ fs)

-- the laws, in proofs/: finished : .. → Session c r m (ks ++ fs) → Finish fs → Finished c r m ks fs
--                       ends : .. → Session c r m (ks ++ fs) → Ending (left r m ks).0.held fs → Finish fs
