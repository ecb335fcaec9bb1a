-- What each call of the refiner does: to the refiner, its memory, the output buffers and the frame that it gave last,
-- and what it prints. Definitions only.
use Rattle.std.specs.Prelude.{ℕ, zero, suc, ◌≡◌, List, [], take, set, Float}
use Rattle.std.specs.Float.{binary64}
use Rattle.std.specs.Float.Ieee.{of_bits}
use Rattle.buffers.specs.Answer.{left_by, Op, pushed, taken, Answer, Refused, Held, Frame}
use Rattle.buffers.specs.Buffers.{renewed}
use Rattle.engine.specs.declared.types.BodyKind.TheVariants.{Narrow}
use Rattle.engine.specs.declared.config.FgoConfig.{FgoConfig}
use Rattle.engine.specs.Body.{Body, body}
use Rattle.recording.specs.Recording.{settings}
use Rattle.fgo_spec.specs.declared.moves.FgoCounters.{FgoCounters}
use Rattle.fgo_state.specs.declared.state.FixedLagRefiner.{FixedLagRefiner}
use Rattle.fgo_state.specs.declared.state.Memory.{Memory}
use Rattle.fgo_state.specs.Memory.{memory, no_memory}
use Rattle.fgo.specs.Promise.{new_by, open_refusal, Promised, count_refusal}
use Rattle.print.specs.Text.{Ready, refused_line, counters_line, call_answer}
use Rattle.calls_input.specs.declared.cells.Cell.{Cell}
use Rattle.calls_input.specs.declared.cells.RefinerPlace.{RefinerPlace}
use Rattle.calls_input.specs.declared.cells.RefinerPlace.TheVariants.{Fields, Bodies, Columns, Owners, Parts, Filters}
use Rattle.calls_input.specs.declared.RefinerCall.{RefinerCall}
use Rattle.calls_input.specs.declared.RefinerCall.TheVariants.{Open, Push, Take, Counters, Write}
use Rattle.calls_cells.specs.Cells.{refiner_fields, refiner_of}
use Rattle.calls_cells.specs.Lent.{LastFrame}
use Rattle.calls_cells.specs.Opening.{opening_text}
use Rattle.calls_refiner.specs.declared.LentRefiner.{LentRefiner}

-- what is kept after an answer, where f was: the frame that it gives, with what else f took cleared; or f itself
abbrev pub Keeps : Answer → List ℕ → List Float → LastFrame → LastFrame → Type 0
Keeps (Refused n) ws ns f f' = f' ≡ f
Keeps Held ws ns f f' = f' ≡ f
Keeps (Frame w x) ws ns f f' =
    (f'.size ≡ record { words = w; numbers = x })
    × (f'.words ≡ renewed 0 f.size.words (take w ws) f.words)
    × (f'.numbers ≡ renewed (of_bits binary64 0) f.size.numbers (take x ns) f.numbers)

-- what a question for the counters prints, by its refusal, 0 for none
abbrev pub counting_text : ℕ → FgoCounters → List ℕ
counting_text zero k = counters_line k
counting_text (suc n) k = refused_line (suc n)

-- ---- a cell, written

-- in the refiner
abbrev pub refiner_with : Cell RefinerPlace → FixedLagRefiner → FixedLagRefiner
refiner_with c r = by c.place
  where
    by : RefinerPlace → FixedLagRefiner
    by Fields = refiner_of (set (refiner_fields r) c.index c.value)
    by Bodies = r
    by Columns = r
    by Owners = r
    by Parts = r
    by Filters = r

-- in its memory
abbrev pub memory_with : Cell RefinerPlace → Memory → Memory
memory_with c m = by c.place
  where
    by : RefinerPlace → Memory
    by Fields = m
    by Bodies = memory (set m.scans.bodies c.index c.value) m.scans.columns m.owners m.parts.tracks m.parts.filters
    by Columns = memory m.scans.bodies (set m.scans.columns c.index c.value) m.owners m.parts.tracks m.parts.filters
    by Owners = memory m.scans.bodies m.scans.columns (set m.owners c.index c.value) m.parts.tracks m.parts.filters
    by Parts = memory m.scans.bodies m.scans.columns m.owners (set m.parts.tracks c.index c.value) m.parts.filters
    by Filters = memory m.scans.bodies m.scans.columns m.owners m.parts.tracks (set m.parts.filters c.index (of_bits binary64 c.value))

-- ---- the calls

-- with the refiner r and the output buffers ws and ns, and what is left of them
module _ (r : LentRefiner) (ws : List ℕ) (ns : List Float) (r' : LentRefiner) (ws' : List ℕ) (ns' : List Float) (end : ℕ) (out' : List ℕ) where
  -- the buffers and the frame stay, and this is printed
  pub record Tells (refiner : FixedLagRefiner) (memory : Memory) (text : List ℕ) : Type 0 where
    pub refiner_is : r'.state ≡ refiner
    pub memory_is : r'.memory ≡ memory
    pub words : ws' ≡ ws
    pub numbers : ns' ≡ ns
    pub last_is : r'.last ≡ r.last
    pub text_is : Ready text out' end

  -- a push or a take, by its contract: its frame is kept, and its answer printed
  pub record Answers (op : Op Body) : Type 0 where
    pub given : Answer
    pub promised : Promised op r.state r.memory ws ns given r'.state r'.memory ws' ns'
    pub frame : Keeps given ws' ns' r.last r'.last
    pub text_is : Ready (call_answer given ws' ns') out' end

  -- an opening with these settings: the refiner there was and its memory stay where it is refused
  abbrev pub Opens : FgoConfig → Type 0
  Opens c =
      let n = open_refusal c in
      Tells (left_by n (new_by c) r.state) (left_by n no_memory r.memory) (opening_text n)

  -- a call, and what follows it
  abbrev pub Refines : RefinerCall → List ℕ → Type 0
  Refines Open f = Opens (settings f)
  Refines Push f = Answers (pushed (body Narrow f))
  Refines Take f = Answers taken
  Refines Counters f = Tells r.state r.memory (counting_text (count_refusal r.state r.memory) r.state.counters)
  Refines (Write c) f = Tells (refiner_with c r.state) (memory_with c r.memory) []
