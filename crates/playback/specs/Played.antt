-- What a run of a recording is: every frame pushed in order, then takes until none is held. Definitions only.
use Rattle.std.specs.Prelude.{ℕ, suc, ◌+◌, ◌*◌, ◌<◌, ◌≡◌, true, List, ◌++◌, replicate}
use Rattle.bounds.specs.Bounds.{TRACKS, words_for, numbers_for}
use Rattle.buffers.specs.Answer.{Op, pushed, taken}
use Rattle.engine.specs.declared.config.FgoConfig.{FgoConfig}
use Rattle.engine.specs.declared.types.BodyKind.TheVariants.{Narrow}
use Rattle.engine.specs.Body.{Body, body, rows}
use Rattle.engine.specs.Config.{legal}
use Rattle.recording.specs.Recording.{recorded_body}
use Rattle.fgo_state.specs.declared.state.FixedLagRefiner.{FixedLagRefiner}
use Rattle.fgo_state.specs.declared.state.Memory.{Memory}
use Rattle.fgo.specs.Promise.{new_by}
use Rattle.smoother.specs.Smoother.{open_refusal}
use Rattle.smoother.specs.Promise as Promise
use Rattle.histories.specs.Refined as Refined
use Rattle.playback.specs.declared.smoothed.Smoother.{Smoother}
use Rattle.playback.specs.declared.steps.Player.{Player}
use Rattle.playback.specs.Smoothed.{smoothing_of}
use Rattle.playback.specs.Told.{lent_to}

-- ---- the refiner

-- the first n frames of the recording s, pushed
abbrev pub pushes : List ℕ → ℕ → List (Op Body)
pushes s n = rows (λ i. pushed (body Narrow (recorded_body s i))) 0 n

-- takes, so many
abbrev pub takes : ℕ → List (Op Body)
takes n = replicate n taken

-- a refiner as it is opened
pub record Fresh (r : FixedLagRefiner) : Type 0 where
  pub settings : legal r.config ≡ true
  pub new : r ≡ new_by r.config

-- pushes and takes have led to a refiner and its memory
pub record Led (r : FixedLagRefiner) (m : Memory) : Type 0 where
  pub settings : legal r.config ≡ true
  pub calls : List (Op Body)
  pub reached : Refined.Reached r.config calls r m

-- these pushes and takes more lead from one to the other
abbrev pub Leads : List (Op Body) → FixedLagRefiner → Memory → FixedLagRefiner → Memory → Type 0
Leads more r m r' m' =
    legal r.config ≡ true → (ops : List (Op Body)) → Refined.Reached r.config ops r m → Refined.Reached r.config (ops ++ more) r' m'

-- a take after pushes and takes leaves one frame fewer, if one is held
abbrev pub Fewer : FixedLagRefiner → Memory → FixedLagRefiner → Type 0
Fewer r m r' = Led r m → 0 < r.held → r.held ≡ suc r'.held

-- "at the end it takes all": as many takes as frames are held, after which none is
pub record TakesAll (r : FixedLagRefiner) (m : Memory) (r' : FixedLagRefiner) (m' : Memory) : Type 0 where
  pub leads : Leads (takes r.held) r m r' m'
  pub none : r'.held ≡ 0

-- ---- the smoother

-- a smoother as it is opened behind a refiner of these settings: it has their lag and density and holds no frame, and
-- its window is clear, and as long as that lag asks for
pub record Opened (c : FgoConfig) (k : Smoother) : Type 0 where
  pub state : k.state ≡ Promise.new_by (smoothing_of c)
  pub words : k.size.words ≡ (c.lag_frames + 1) * words_for TRACKS
  pub numbers : k.size.numbers ≡ (c.lag_frames + 1) * numbers_for TRACKS
  pub clear : lent_to k ≡ Promise.emptied (lent_to k)

-- what a smoother behind a refiner of these settings is refused for, over a window as long as that lag asks for: 0 for
-- nothing
abbrev pub unopened_for : FgoConfig → ℕ
unopened_for c = open_refusal (smoothing_of c) ((c.lag_frames + 1) * words_for TRACKS) ((c.lag_frames + 1) * numbers_for TRACKS)

-- a smoother holds none
abbrev pub Emptied : Smoother → Type 0
Emptied k = k.state.held ≡ 0

-- ---- the run

-- the n frames of the recording s were pushed to a refiner r as it is opened, then all taken, so that none is held,
-- then all from where its frames go, as emptied says
pub record Played {K : Type 0} (emptied : K → Type 0) (s : List ℕ) (n : ℕ) (r : FixedLagRefiner) (p : Player K) : Type 0 where
  pub held : ℕ
  pub reached : Refined.Reached r.config (pushes s n ++ takes held) p.refiner p.memory
  pub none : p.refiner.held ≡ 0
  pub rest : emptied p.sink
