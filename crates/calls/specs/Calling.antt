-- What each call does to all that a caller keeps, and what it prints. Definitions only.
use Rattle.std.specs.Prelude.{ℕ, ◌≡◌, List, [], replicate, from_bits, Option, Some, None}
use Rattle.std.specs.Float.{binary64}
use Rattle.bounds.specs.Bounds.{WORDS, NUMBERS, WINDOW, VALUES, LENT_WORDS, LENT_NUMBERS, REFINER, SMOOTHER}
use Rattle.buffers.specs.declared.FrameSize.{FrameSize}
use Rattle.smoother_window.specs.declared.size.WindowSize.{WindowSize}
use Rattle.digest.specs.Digest.{BASIS}
use Rattle.fgo_state.specs.Memory.{no_memory}
use Rattle.print.specs.Text.{Ready, digest_line, bad_line}
use Rattle.calls_input.specs.declared.RefinerCall.{RefinerCall}
use Rattle.calls_input.specs.declared.SmootherCall.{SmootherCall}
use Rattle.calls_input.specs.declared.Call.{Call}
use Rattle.calls_input.specs.declared.Call.TheVariants.{Refiner, Smoother, Lend, LendWindow, Digest}
use Rattle.calls_cells.specs.Cells.{refiner_of, smoother_of}
use Rattle.calls_cells.specs.Hashing.{refiner_hash, smoother_hash, buffers_hash}
use Rattle.calls_cells.specs.Lent.{words_lent, numbers_lent, last_frame, RestStays}
use Rattle.calls_refiner.specs.Refining.{Refines}
use Rattle.calls_smoother.specs.declared.window.Room.TheVariants.{Asked, Said}
use Rattle.calls_smoother.specs.Smoothing.{window_in, Smooths}
use Rattle.calls.specs.declared.calling.Desk.{Desk}

-- "Before an opening a refiner or smoother is all zeros": before the first call; no window is lent, and output buffers
-- as long as a frame may be
pub record First (d : Desk) : Type 0 where
  pub refiner : d.stages.refiner.state ≡ refiner_of (replicate REFINER 0)
  pub memory : d.stages.refiner.memory ≡ no_memory
  pub last : d.stages.refiner.last.size ≡ record { words = 0; numbers = 0 }
  pub last_words : d.stages.refiner.last.words ≡ replicate WORDS 0
  pub last_numbers : d.stages.refiner.last.numbers ≡ replicate NUMBERS (from_bits binary64 0)
  pub smoother : d.stages.smoother.state ≡ smoother_of (replicate SMOOTHER 0)
  pub room : d.stages.smoother.window.room ≡ Asked (record { words = 0; numbers = 0 })
  pub window_words : d.stages.smoother.window.words ≡ replicate WINDOW 0
  pub window_values : d.stages.smoother.window.values ≡ replicate VALUES (from_bits binary64 0)
  pub lent : d.output.size ≡ record { words = WORDS; numbers = NUMBERS }
  pub words : d.output.words ≡ replicate LENT_WORDS 0
  pub numbers : d.output.numbers ≡ replicate LENT_NUMBERS (from_bits binary64 0)

-- what a digest prints
abbrev pub digest_text : Desk → List ℕ
digest_text d =
    let r = d.stages.refiner in
    let s = d.stages.smoother in
    digest_line (refiner_hash r.state r.memory) (smoother_hash s.state (window_in s.window)) (buffers_hash BASIS d.output.words d.output.numbers)

-- ---- from one desk to the next: what is printed stands in out, up to the place end

module _ (a b : Desk) (end : ℕ) (out : List ℕ) where
  -- a call of the refiner: the smoother, the lengths and what is not lent stay
  pub record CallsRefiner (c : RefinerCall) (f : List ℕ) : Type 0 where
    pub refines :
        Refines a.stages.refiner (words_lent a.output) (numbers_lent a.output) b.stages.refiner (words_lent b.output) (numbers_lent b.output) end out c f
    pub smoother : b.stages.smoother ≡ a.stages.smoother
    pub rest : RestStays a.output b.output

  -- a call of the smoother: the refiner, its memory and frame, the lengths of the buffers and what is not lent stay
  pub record CallsSmoother (c : SmootherCall) (f : List ℕ) : Type 0 where
    pub smooths :
        Smooths a.stages.smoother (words_lent a.output) (numbers_lent a.output) b.stages.smoother (words_lent b.output) (numbers_lent b.output) end out c f
        (last_frame a.stages.refiner.last)
    pub refiner : b.stages.refiner ≡ a.stages.refiner
    pub rest : RestStays a.output b.output

  -- nothing changes, and this is printed
  pub record Says (text : List ℕ) : Type 0 where
    pub stays : b ≡ a
    pub told : Ready text out end

  -- only how much of the output buffers is lent changes, and nothing is printed
  pub record LendsOutput (size : FrameSize) : Type 0 where
    pub stages : b.stages ≡ a.stages
    pub lent : b.output.size ≡ size
    pub buffers : (b.output.words ≡ a.output.words) × (b.output.numbers ≡ a.output.numbers)
    pub told : Ready [] out end

  -- only how much of the window is lent changes, and nothing is printed
  pub record LendsWindow (size : WindowSize) : Type 0 where
    pub refiner : b.stages.refiner ≡ a.stages.refiner
    pub smoother : b.stages.smoother.state ≡ a.stages.smoother.state
    pub room : b.stages.smoother.window.room ≡ Said size
    pub window : window_in b.stages.smoother.window ≡ window_in a.stages.smoother.window
    pub output : b.output ≡ a.output
    pub told : Ready [] out end

  -- a call, none for a bad one, and what follows it
  abbrev pub Does : Option Call → List ℕ → Type 0
  Does (Some (Refiner c)) f = CallsRefiner c f
  Does (Some (Smoother c)) f = CallsSmoother c f
  Does (Some (Lend size)) f = LendsOutput size
  Does (Some (LendWindow size)) f = LendsWindow size
  Does (Some Digest) f = Says (digest_text a)
  Does None f = Says bad_line
