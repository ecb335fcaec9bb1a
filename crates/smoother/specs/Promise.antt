-- What opening, push and take promise, for any values that a caller hands over. Definitions only.
use Rattle.std.specs.Prelude.{ℕ, ◌≡◌, ◌+◌, ◌*◌, ◌<◌, ◌≤◌, cond, ◌&&◌, List, ◌∷◌, length, take, drop, replicate, Float}
use Rattle.std.specs.Prelude.{Result, Ok, Err}
use Rattle.std.specs.Prelude.{Option as Maybe}
use mathlib.Core.List.{map}
use Rattle.std.specs.Float.{binary64}
use Rattle.std.specs.Float.Ieee.{of_bits}
use Rattle.bounds.specs.Bounds.{words_for, numbers_for}
use Rattle.refusals.specs.declared.Refusal.{Refusal}
use Rattle.refusals.specs.Refusals.{number_of}
use Rattle.buffers.specs.declared.FrameSize.{FrameSize}
use Rattle.buffers.specs.Answer.{Opening, opened, unopened, left_by, Op, pushed, taken, Reply, refused, waits, gives, Written, roomy}
use Rattle.buffers.specs.Answer.{checked, answer_of, Small, Ends, answer_in, Answer, Refused, Frame}
use Rattle.buffers.specs.Buffers.{over, cleared}
use Rattle.buffers.specs.Slots.{slotted}
use Rattle.smoother_window.specs.declared.FixedLagSmoother.{FixedLagSmoother}
use Rattle.smoother_window.specs.declared.SmootherConfig.{SmootherConfig}
use Rattle.smoother_window.specs.declared.size.WindowSize.{WindowSize}
use Rattle.smoother_window.specs.Config.{lag, most, bounded}
use Rattle.smoother_window.specs.Window.{words_in, numbers_in, held_frame, frames_in, words_at, numbers_at, more, fewer, Fitting, AllCounted}
use Rattle.smoother_pass.specs.Oldest.{oldest}
use Rattle.smoother.specs.Smoother.{State, window_fits, open_refusal, rule_ok, reply}

-- the two window buffers, which go with a smoother from call to call
pub record Window : Type 0 where
  pub words : List ℕ
  pub numbers : List Float

-- the window of two buffers
abbrev pub window : List ℕ → List Float → Window
window win nums = record { words = win; numbers = nums }

-- so much of a window
abbrev pub lent_of : WindowSize → Window → Window
lent_of size w = window (take size.words w.words) (take size.numbers w.numbers)

-- the rest of it
abbrev pub rest_of : WindowSize → Window → Window
rest_of size w = window (drop size.words w.words) (drop size.numbers w.numbers)

-- what a struct and its window stand for
unfoldable pub state_in : FixedLagSmoother → Window → State
state_in s w = record { config = s.config; frames = frames_in s w.words w.numbers }

-- ---- opening

-- a new smoother, as its struct: it holds no frame, and the next one goes to the first slot
abbrev pub new_by : SmootherConfig → FixedLagSmoother
new_by c = record { config = c; first = 0; held = 0 }

-- document 01's number for an opening that is refused, or what the new state stands for with this window
abbrev pub opening_of : Result FixedLagSmoother Refusal → Window → Opening State
opening_of (Err r) w = unopened (number_of r)
opening_of (Ok s) w = opened (state_in s w)

-- ---- push and take

-- what push or take gives, by value: an answer, and the state after it
pub record Pushed : Type 0 where
  pub answer : Answer
  pub state : FixedLagSmoother

-- what the code gives, so read
abbrev pub pushed_as : Result (Maybe FrameSize) Refusal → FixedLagSmoother → Pushed
pushed_as a s = record { answer = answer_in a; state = s }

-- a frame that is given, and the state after it
abbrev pub given_off : FrameSize → FixedLagSmoother → Pushed
given_off f s = record { answer = Frame f.words f.numbers; state = s }

-- push and take, with output buffers of so many words and numbers: 2, 3, 4 in the table's order; 0 for none
unfoldable pub later_refusal : FixedLagSmoother → Window → ℕ → ℕ → ℕ
later_refusal s w words numbers =
    cond (bounded s.config && window_fits s.config (length w.words) (length w.numbers))
    (cond (rule_ok (state_in s w)) (cond (roomy words numbers) 0 4) 3)
    2

-- the reply to a push or a take with the output buffers ws and ns, and the state after it
unfoldable pub due : FixedLagSmoother → Window → Op Written → List ℕ → List Float → Reply Written × State
due s w o ws ns = checked (later_refusal s w (length ws) (length ns)) (state_in s w) (reply (state_in s w) o)

-- ---- the window

-- the frame f was stored: it lies in the next free slot
abbrev pub stored : FixedLagSmoother → Written → Window → Window
stored s f w = window (over (words_at s s.held) f.words w.words) (over (numbers_at s s.held) f.numbers w.numbers)

-- the oldest frame was given up: its slot is cleared, as much of it as the frame took
abbrev pub freed : FixedLagSmoother → Window → Window
freed s w =
    window
    (cleared 0 (words_at s 0) (length (words_in s w.words 0)) w.words)
    (cleared (of_bits binary64 0) (numbers_at s 0) (length (numbers_in s w.words w.numbers 0)) w.numbers)

-- the window after a push or a take, by its reply: every cell of it
abbrev pub window_after : FixedLagSmoother → Op Written → Reply Written → Window → Window
window_after s o (refused n) w = w
window_after s taken waits w = w
window_after s taken (gives e) w = freed s w
window_after s (pushed f) waits w = stored s f w
window_after s (pushed f) (gives e) w = freed (more s) (stored s f w)

-- the struct after a push or a take, by its reply: a frame more, or the oldest given up
abbrev pub struct_after : FixedLagSmoother → Op Written → Reply Written → FixedLagSmoother
struct_after s o (refused n) = s
struct_after s taken waits = s
struct_after s taken (gives e) = fewer s
struct_after s (pushed f) waits = more s
struct_after s (pushed f) (gives e) = fewer (more s)

-- a window, cleared
abbrev pub emptied : Window → Window
emptied w = window (replicate (length w.words) 0) (replicate (length w.numbers) (of_bits binary64 0))

-- an opening with the settings c over the window w leaves w'
abbrev pub Opens : SmootherConfig → Window → Window → Type 0
Opens c w w' = w' ≡ left_by (open_refusal c (length w.words) (length w.numbers)) (emptied w) w

-- a window whose front is another one
abbrev pub fronted : Window → Window → Window
fronted front w = window (over 0 front.words w.words) (over 0 front.numbers w.numbers)

-- the window of a smoother that holds these frames, from an opening on: they stand in their slots, and nothing else
-- does
unfoldable pub laid : FixedLagSmoother → List Written → Window
laid s fs =
    let slots = lag s.config + 1 in
    let wide = words_for (most s.config) in
    let deep = numbers_for (most s.config) in
    window
    (slotted wide slots s.first (map (λ f. f.words) fs) (replicate (slots * wide) 0))
    (slotted deep slots s.first (map (λ f. f.numbers) fs) (replicate (slots * deep) (of_bits binary64 0)))

-- ---- what is promised

-- A call of o that is given the struct s, the window w and the output buffers ws and ns gives p and leaves w', ws' and
-- ns': answer, state and output. The struct, with the slot that it calls the first, and every cell of the window are
-- as defined, and all buffers keep their lengths.
pub record Promised (o : Op Written) (s : FixedLagSmoother) (w : Window) (ws : List ℕ) (ns : List Float)
    (p : Pushed) (w' : Window) (ws' : List ℕ) (ns' : List Float) : Type 0 where
  pub ends : Ends (λ f. f) state_in (due s w o ws ns) s w ws ns p.answer p.state w' ws' ns'
  pub slots : p.state ≡ struct_after s o (due s w o ws ns).0
  pub window : w' ≡ window_after s o (due s w o ws ns).0 w
  pub window_words : length w'.words ≡ length w.words
  pub window_numbers : length w'.numbers ≡ length w.numbers
  pub words : length ws' ≡ length ws
  pub numbers : length ns' ≡ length ns

-- a refusal, which keeps the struct
abbrev pub refused_as : FixedLagSmoother → ℕ → Pushed
refused_as s n = record { answer = Refused n; state = s }

-- the oldest frame may leave: one is held, no more than there are slots, and the counts in each slot in use are in
-- bounds
pub record Ready (s : FixedLagSmoother) (w : Window) : Type 0 where
  pub fits : Fitting s w.words w.numbers
  pub few : s.held ≤ lag s.config + 1
  pub some : 0 < s.held
  pub counted : AllCounted s w.words

-- after the oldest frame left: it is put over the front of the output buffers, "The rest stays", its slot is cleared,
-- and the other frames held are as they were
pub record Emits (s : FixedLagSmoother) (w : Window) (ws : List ℕ) (ns : List Float)
    (p : Pushed) (w' : Window) (ws' : List ℕ) (ns' : List Float) : Type 0 where
  pub answer : p.answer ≡ answer_of (λ f. f) (gives (oldest s w.words w.numbers))
  pub state : p.state ≡ fewer s
  pub window : w' ≡ freed s w
  pub frames : frames_in s w.words w.numbers ≡ held_frame s w.words w.numbers 0 ∷ frames_in (fewer s) w'.words w'.numbers
  pub words : ws' ≡ over 0 (oldest s w.words w.numbers).words ws
  pub numbers : ns' ≡ over 0 (oldest s w.words w.numbers).numbers ns
  pub small : Small (λ f. f) (gives (oldest s w.words w.numbers))
