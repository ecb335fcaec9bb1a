-- What each call of the smoother does: to the smoother, its window and the output buffers, and what it prints.
-- Definitions only.
use Rattle.std.specs.Prelude.{ℕ, ◌+◌, ◌*◌, ◌≡◌, cond, List, [], length, set, Float}
use Rattle.std.specs.Float.{binary64}
use Rattle.std.specs.Float.Ieee.{of_bits}
use Rattle.bounds.specs.Bounds.{SETTING, words_for, numbers_for}
use Rattle.buffers.specs.Answer.{left_by, Op, pushed, taken, Written}
use Rattle.engine.specs.Body.{rows}
use Rattle.engine.specs.Little.{little}
use Rattle.smoother_frame.specs.Frame.{frame}
use Rattle.smoother_window.specs.declared.FixedLagSmoother.{FixedLagSmoother}
use Rattle.smoother_window.specs.declared.SmootherConfig.{SmootherConfig}
use Rattle.smoother_window.specs.declared.size.WindowSize.{WindowSize}
use Rattle.smoother_window.specs.Config.{lag, most, bounded}
use Rattle.smoother.specs.Smoother.{open_refusal}
use Rattle.smoother.specs.Promise.{Window, window, new_by, emptied, fronted, lent_of, rest_of, Promised, Pushed}
use Rattle.print.specs.Text.{Ready}
use Rattle.calls_input.specs.declared.cells.Cell.{Cell}
use Rattle.calls_input.specs.declared.cells.SmootherPlace.{SmootherPlace}
use Rattle.calls_input.specs.declared.cells.SmootherPlace.TheVariants.{Fields, Window as Words, Values}
use Rattle.calls_input.specs.declared.SmootherCall.{SmootherCall}
use Rattle.calls_input.specs.declared.SmootherCall.TheVariants.{Open, PushLast, Push, Take, Write}
use Rattle.calls_smoother.specs.declared.window.Room.{Room}
use Rattle.calls_smoother.specs.declared.window.Room.TheVariants.{Asked, Said}
use Rattle.calls_smoother.specs.declared.window.LentWindow.{LentWindow}
use Rattle.calls_smoother.specs.declared.window.LentSmoother.{LentSmoother}
use Rattle.calls_smoother.specs.Room.{size_of}
use Rattle.calls_cells.specs.Cells.{smoother_fields, smoother_of}
use Rattle.calls_input.specs.Input.{number}
use Rattle.print.specs.Text.{call_answer}
use Rattle.calls_cells.specs.Opening.{opening_text}

-- ---- the window

-- all of it
abbrev pub window_in : LentWindow → Window
window_in w = window w.words w.values

-- what is lent
abbrev pub lent_in : LentWindow → Window
lent_in w = lent_of (size_of w.room) (window_in w)

-- from one to the next: as much is lent, and what is not lent stays
pub record WindowRestStays (w w' : LentWindow) : Type 0 where
  pub room : w'.room ≡ w.room
  pub rest : rest_of (size_of w.room) (window_in w') ≡ rest_of (size_of w.room) (window_in w)

-- ---- opening

-- "u64 lag, f64 density, u64 C"
unfoldable pub settings_in : List ℕ → SmootherConfig
settings_in f = record { lag_frames = number f 0; accel_spectral_density = of_bits binary64 (number f 1); max_tracks = number f 2 }

-- the window that lag and C ask for, "empty where they are out of bounds"
abbrev pub asked_by : SmootherConfig → WindowSize
asked_by c =
    record {
      words = cond (bounded c) ((lag c + 1) * words_for (most c)) 0;
      numbers = cond (bounded c) ((lag c + 1) * numbers_for (most c)) 0;
    }

-- "Until a call 16 the window is as long as lag and C of the last opening tried ask for"
unfoldable pub room_for : Room → SmootherConfig → Room
room_for (Asked size) c = Asked (asked_by c)
room_for (Said size) c = Said size

-- ---- a frame of the input: so many words, then so many numbers

-- "u64 number of words, u64 number of numbers, then these"
abbrev pub frame_in : List ℕ → ℕ → ℕ → Written
frame_in f w x =
    frame (rows (λ i. little SETTING f (SETTING * (2 + i))) 0 w) (rows (λ i. of_bits binary64 (little SETTING f (SETTING * (2 + w + i)))) 0 x)

-- ---- a cell, written

-- in the smoother
abbrev pub smoother_with : Cell SmootherPlace → FixedLagSmoother → FixedLagSmoother
smoother_with c s = by c.place
  where
    by : SmootherPlace → FixedLagSmoother
    by Fields = smoother_of (set (smoother_fields s) c.index c.value)
    by Words = s
    by Values = s

-- in its window
abbrev pub window_with : Cell SmootherPlace → Window → Window
window_with c w = by c.place
  where
    by : SmootherPlace → Window
    by Fields = w
    by Words = window (set w.words c.index c.value) w.numbers
    by Values = window w.words (set w.numbers c.index (of_bits binary64 c.value))

-- ---- the calls

-- a push or a take over what is lent of the window, by its contract, and its answer is printed
pub record AnswersOver (s : FixedLagSmoother) (w : LentWindow) (ws : List ℕ) (ns : List Float)
    (s' : FixedLagSmoother) (w' : LentWindow) (ws' : List ℕ) (ns' : List Float) (end : ℕ) (out' : List ℕ) (op : Op Written) : Type 0 where
  pub given : Pushed
  pub promised : Promised op s (lent_in w) ws ns given (lent_in w') ws' ns'
  pub window_rest : WindowRestStays w w'
  pub smoother_is : s' ≡ given.state
  pub text_is : Ready (call_answer given.answer ws' ns') out' end

-- with the smoother s and its window, and the output buffers ws and ns, and what is left of them
module _ (s : LentSmoother) (ws : List ℕ) (ns : List Float) (s' : LentSmoother) (ws' : List ℕ) (ns' : List Float) (end : ℕ) (out' : List ℕ) where
  -- the buffers stay, and this is printed
  pub record Tells (smoother : FixedLagSmoother) (room : Room) (win : Window) (text : List ℕ) : Type 0 where
    pub smoother_is : s'.state ≡ smoother
    pub room_is : s'.window.room ≡ room
    pub window_is : window_in s'.window ≡ win
    pub words : ws' ≡ ws
    pub numbers : ns' ≡ ns
    pub text_is : Ready text out' end

  -- a push or a take, over its fields and its window
  abbrev pub Answers : Op Written → Type 0
  Answers = AnswersOver s.state s.window ws ns s'.state s'.window ws' ns' end out'

  -- an opening with these settings, over the window that is lent then, which it clears
  abbrev pub Opens : SmootherConfig → Type 0
  Opens c =
      let room = room_for s.window.room c in
      let all = window_in s.window in
      let lent = lent_of (size_of room) all in
      let n = open_refusal c (length lent.words) (length lent.numbers) in
      Tells (left_by n (new_by c) s.state) room (left_by n (fronted (emptied lent) all) all) (opening_text n)

  -- a call, what follows it, and the frame that the refiner gave last
  abbrev pub Smooths : SmootherCall → List ℕ → Written → Type 0
  Smooths Open f last = Opens (settings_in f)
  Smooths PushLast f last = Answers (pushed last)
  Smooths (Push size) f last = Answers (pushed (frame_in f size.words size.numbers))
  Smooths Take f last = Answers taken
  Smooths (Write c) f last = Tells (smoother_with c s.state) s.window.room (window_with c (window_in s.window)) []
