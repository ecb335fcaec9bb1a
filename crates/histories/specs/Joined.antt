-- Demand 3 in the terms of one who calls a smoother: any list of pushes and takes from an opened one, with any frames
-- and any buffers; and of one who calls a refiner too, and pushes the frames that it writes. Definitions only.
use Rattle.std.specs.Prelude.{ℕ, ◌≡◌, Bool, true, false, List, [], ◌∷◌, ◌++◌, map, length}
use Rattle.bounds.specs.Bounds.{TRACKS}
use Rattle.buffers.specs.Answer.{Op, pushed, taken, Written, Refused}
use Rattle.engine.specs.declared.config.FgoConfig.{FgoConfig}
use Rattle.fgo_spec.specs.History.{run}
use Rattle.smoother_frame.specs.Frame.{well_formed}
use Rattle.smoother_window.specs.declared.FixedLagSmoother.{FixedLagSmoother}
use Rattle.smoother_window.specs.declared.SmootherConfig.{SmootherConfig}
use Rattle.smoother_window.specs.Config.{most}
use Rattle.std.specs.Prelude.{Ok}
use Rattle.smoother.specs.Smoother.{new, window_fits, opens, reply, finish}
use Rattle.smoother.specs.Promise.{Window, state_in, opening_of, Promised}
use Rattle.histories.specs.Calls as calls
use Rattle.histories.specs.Calls.{Calls, written_by, left, enough, operations, accepted, wrote}
use Rattle.histories.specs.Refined as refiner
use Rattle.histories.specs.Smoothed.{smoothing, Sourced, handed, sourced, picked, Smoothed, Both}

-- a call of push or of take
abbrev pub Call : Type 0
Call = calls.Call Written FixedLagSmoother Window

-- it is lent the window w, and is as the contract of push, or of take, says
abbrev pub Meets : FixedLagSmoother → Window → Call → Type 0
Meets s w k = Promised k.sent s w k.words k.numbers (record { answer = k.answer; state = k.value }) k.memory k.words_back k.numbers_back

-- a window that stands for the same: of the same lengths, with the same frames held. What lies past a frame, and in
-- slots without one, may be anything.
pub record Same (s : FixedLagSmoother) (w w' : Window) : Type 0 where
  pub words : length w'.words ≡ length w.words
  pub numbers : length w'.numbers ≡ length w.numbers
  pub state : state_in s w' ≡ state_in s w

-- after the window w came back, it is lent one that stands for the same, and is as its contract says
abbrev pub Keeps : FixedLagSmoother → Window → Call → Type 0
Keeps s w k = Same s w k.lent × Meets s k.lent k

-- where the pushes and takes ops lead to, with the settings d: the smoother and its window stand for the state that the
-- smoother as defined has then
pub record Reached (d : SmootherConfig) (ops : List (Op Written)) (s : FixedLagSmoother) (w : Window) : Type 0 where
  pub state : state_in s w ≡ (smoothing d ops).state
  pub fits : window_fits d (length w.words) (length w.numbers) ≡ true

-- an opened smoother, as the contract of open has it, and calls from there; the window holds anything at first, and the
-- other buffers anything at each call
pub record Session (d : SmootherConfig) (s : FixedLagSmoother) (w : Window) (ks : List Call) : Type 0 where
  pub opening : opening_of (Ok s) w ≡ opens d (length w.words) (length w.numbers)
  pub calls : Calls Keeps s w ks

-- what holds of all the calls of a session
pub record Delivered (d : SmootherConfig) (s : FixedLagSmoother) (w : Window) (ks : List Call) : Type 0 where
  -- every call gets what the smoother as defined has for it
  pub delivered : calls.Delivered (λ f. f) reply (new d) (λ f. f) state_in s w ks
  -- the window keeps its lengths
  pub window : let l = (left s w ks).1 in (length l.words ≡ length w.words) × (length l.numbers ≡ length w.numbers)
  -- with output buffers that are long enough a push is refused only by 5, and a take only by 13, "no frame held"
  pub pushes :
      (past : List Call) (k : Call) (later : List Call) → ks ≡ past ++ (k ∷ later) → enough k ≡ true → (f : Written) → k.sent ≡ pushed f →
      (n : ℕ) → k.answer ≡ Refused n → (n ≡ 5) × (well_formed (most d) f ≡ false)
  pub takes :
      (past : List Call) (k : Call) (later : List Call) → ks ≡ past ++ (k ∷ later) → enough k ≡ true → k.sent ≡ taken →
      (n : ℕ) → k.answer ≡ Refused n → (n ≡ 13) × ((smoothing d (operations past)).state.frames ≡ [])

-- the theorem, in proofs/: delivered : .. → Session d s w ks → Delivered d s w ks

-- ---- finish

-- what takes until 13 do after the calls ks
pub record Finished (d : SmootherConfig) (s : FixedLagSmoother) (w : Window) (ks fs : List Call) : Type 0 where
  -- they give the frames held, smoothed, oldest first
  pub frames : let t = (smoothing d (operations ks)).state in wrote fs ≡ finish t t.frames
  -- after which none is held, and as many frames have been written as were accepted
  pub none : (left s w (ks ++ fs)).0.held ≡ 0
  pub all : length (wrote (ks ++ fs)) ≡ length (accepted (λ f. f) (ks ++ fs))

-- the laws, in proofs/: finished : .. → Session d s w (ks ++ fs) → Finish fs → Finished d s w ks fs
--                       ends : .. → Session d s w (ks ++ fs) → Ending (left s w ks).0.held fs → Finish fs

-- ---- refiner and smoother

-- "emitted frames pushed in order to a new smoother", "takes anywhere between": what the calls js of a smoother
-- accepted are, in order, some of the frames that the calls ks of a refiner wrote
pub record InOrder (ks : List refiner.Call) (js : List Call) : Type 0 where
  pub marks : List Bool
  pub order : accepted (λ f. f) js ≡ picked marks (wrote ks)

-- what holds then, where the refiner is opened with c, and the smoother with d
pub record Joined (c : FgoConfig) (ks : List refiner.Call) (d : SmootherConfig) (js : List Call) : Type 0 where
  -- the frames accepted are some that document 01's refiner emits, each with its own past
  pub marks : List Bool
  pub first : List Sourced
  pub some : first ≡ picked marks (sourced (run c (operations ks)).emitted)
  pub same : accepted (λ f. f) js ≡ map handed first
  -- demand 3 over refiner and smoother
  pub both : Both c (operations ks) d (operations js) first
  -- by which each call that writes a frame writes the smoothed form of the next in order, over exactly the frames
  -- accepted by then and not written before
  pub every :
      (past : List Call) (k : Call) (later : List Call) → js ≡ past ++ (k ∷ later) →
      (o : Written) → written_by k.answer k.words_back k.numbers_back ≡ o ∷ [] →
      Smoothed c d first (accepted (λ f. f) (past ++ (k ∷ []))) (length (wrote past)) o
  -- with C 128 and output buffers that are long enough, no push of a frame that the refiner wrote is refused
  pub pushes :
      most d ≡ TRACKS → (past : List Call) (k : Call) (later : List Call) → js ≡ past ++ (k ∷ later) → enough k ≡ true →
      (f : Written) → k.sent ≡ pushed f →
      (before after : List Written) → wrote ks ≡ before ++ (f ∷ after) → (n : ℕ) → k.answer ≡ Refused n → ⊥

-- the theorem, in proofs/:
-- joined : .. → refiner.Session c r m ks → Session d s w js → InOrder ks js → Joined c ks d js
