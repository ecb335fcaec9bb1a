-- What is kept of a person, proved to the last cell: from an opening on, the memory is a function of the state and of
-- the bodies held, whatever went before. Definitions only.
--
-- Opening clears, and each call gets the memory that came back from the one before it. Then the memory is that of the
-- state and of the bodies held, as `laid` writes it: these in their places, and zero in every other cell. So two lists
-- of calls that lead to equal states, with equal bodies held, leave equal memory, bit for bit, any NaN taken for a NaN:
-- from the memory nothing can be told of a person who was forgotten, nor of a dot of a scan that was emitted, but for
-- what the state says of those who are kept (crates/fgo_spec/specs/Refiner.antt): of a frozen part its filter, how many
-- dots, the last five heights, the class, and the last dot's scan and time. The smoother likewise: its window is a
-- function of its struct and of the frames held.
use Rattle.std.specs.Prelude.{◌≡◌, length}
use mathlib.Core.List.{List}
use Rattle.buffers.specs.Answer.{opened, opened_by}
use Rattle.engine.specs.declared.config.FgoConfig.{FgoConfig}
use Rattle.fgo_spec.specs.Rule.{All}
use Rattle.fgo_spec.specs.History.{Sent}
use Rattle.fgo_state.specs.declared.state.FixedLagRefiner.{FixedLagRefiner}
use Rattle.fgo_state.specs.declared.state.Memory.{Memory}
use Rattle.fgo_state.specs.Memory.{no_memory, state_of}
use Rattle.fgo_state.specs.Contents.{held_bodies, laid}
use Rattle.fgo.specs.Promise.{new_by, open_refusal}
use Rattle.smoother_window.specs.declared.FixedLagSmoother.{FixedLagSmoother}
use Rattle.smoother_window.specs.declared.SmootherConfig.{SmootherConfig}
use Rattle.smoother_window.specs.Window.{frames_in}
use Rattle.smoother.specs.Smoother.{open_refusal as smoother_refusal}
use Rattle.smoother.specs.Promise as smoother
use Rattle.smoother.specs.Promise.{Window, Opens}
use Rattle.histories.specs.Calls.{Calls}
use Rattle.histories.specs.Refined as refiner
use Rattle.histories.specs.Joined as joined

-- ---- the refiner

-- a call is lent the memory m that came back, and is as its contract says
abbrev pub Returned : FixedLagRefiner → Memory → refiner.Call → Type 0
Returned r m k = (k.lent ≡ m) × refiner.Meets r m k

-- a refiner as it is opened with the settings c, over memory that is clear then, and calls from there
pub record Own (c : FgoConfig) (r : FixedLagRefiner) (ks : List refiner.Call) : Type 0 where
  pub opening : opened_by (open_refusal c) (new_by c) ≡ opened r
  pub bytes : All (λ k. Sent k.sent) ks
  pub calls : Calls Returned r no_memory ks

-- the memory m of the refiner r has the state and the bodies held, and nothing else
abbrev pub Kept : FixedLagRefiner → Memory → Type 0
Kept r m = m ≡ laid (state_of r m) (held_bodies r m)

-- two refiners, each with its memory: their states and the bodies held are the same
pub record Alike (r : FixedLagRefiner) (m : Memory) (r' : FixedLagRefiner) (m' : Memory) : Type 0 where
  pub state : state_of r m ≡ state_of r' m'
  pub bodies : held_bodies r m ≡ held_bodies r' m'

-- the laws, in proofs/: kept : .. → Own c r ks → let e = left r no_memory ks in Kept e.0 e.1
--                       same : .. → Own c r ks → Own d q ls → let e = left r no_memory ks in
--                           let f = left q no_memory ls in Alike e.0 e.1 f.0 f.1 → e.1 ≡ f.1

-- ---- the smoother

-- a call is lent the window w that came back, and is as its contract says
abbrev pub ReturnedWindow : FixedLagSmoother → Window → joined.Call → Type 0
ReturnedWindow s w k = (k.lent ≡ w) × joined.Meets s w k

-- a smoother as it is opened with the settings d over the window v, which is w then, and calls from there
pub record OwnWindow (d : SmootherConfig) (v w : Window) (s : FixedLagSmoother) (ks : List joined.Call) : Type 0 where
  pub opening : opened_by (smoother_refusal d (length v.words) (length v.numbers)) (smoother.new_by d) ≡ opened s
  pub cleared : Opens d v w
  pub calls : Calls ReturnedWindow s w ks

-- the window w of the smoother s has the frames held, and nothing else
abbrev pub KeptWindow : FixedLagSmoother → Window → Type 0
KeptWindow s w = w ≡ smoother.laid s (frames_in s w.words w.numbers)

-- the laws, in proofs/: kept_window : .. → OwnWindow d v w s ks → let e = left s w ks in KeptWindow e.0 e.1
--                       same_window : .. → two such, left with one struct and one list of frames held, have
--                           one window
