-- The list of calls on standard input, as README's table has it: what each call is. Definitions only.
use Rattle.std.specs.Prelude.{ℕ, ◌+◌, ◌*◌, ◌≤◌, ◌≡◌, Bool, true, cond, ◌&&◌, List, length, take, drop, leb, ltb, eqb}
use Rattle.std.specs.Prelude.{Result, Ok, Err, Option, Some, None}
use Rattle.std.specs.Bool.{then_some}
use Rattle.std.specs.Option.{option_map, option_and_then}
use Rattle.bounds.specs.Bounds.{SETTING, SETTINGS, BODIES, COLUMNS, OWNERS, PARTS, FILTERS, WINDOW, VALUES}
use Rattle.bounds.specs.Bounds.{CALL, LENT_WORDS, LENT_NUMBERS, REFINER, SMOOTHER}
use Rattle.buffers.specs.declared.FrameSize.{FrameSize}
use Rattle.smoother_window.specs.declared.size.WindowSize.{WindowSize}
use Rattle.engine.specs.Little.{little}
use Rattle.calls_input.specs.declared.cells.Cell.{Cell}
use Rattle.calls_input.specs.declared.cells.NoPlace.{NoPlace}
use Rattle.calls_input.specs.declared.cells.RefinerPlace.{RefinerPlace}
use Rattle.calls_input.specs.declared.cells.RefinerPlace.TheVariants as places
use Rattle.calls_input.specs.declared.cells.SmootherPlace.{SmootherPlace}
use Rattle.calls_input.specs.declared.cells.SmootherPlace.TheVariants as windows
use Rattle.calls_input.specs.declared.RefinerCall.TheVariants as refiner
use Rattle.calls_input.specs.declared.SmootherCall.TheVariants as smoother
use Rattle.calls_input.specs.declared.Call.{Call}
use Rattle.calls_input.specs.declared.Call.TheVariants.{Refiner, Smoother, Lend, LendWindow, Digest}
use Rattle.calls_input.specs.declared.Next.{Next}

-- ---- cells

-- the places of what the refiner's caller keeps: its fields, then the five arrays
abbrev pub refiner_place : ℕ → Result RefinerPlace NoPlace
refiner_place n =
    cond (eqb n 0) (Ok places.Fields)
    (cond (eqb n 1) (Ok places.Bodies)
    (cond (eqb n 2) (Ok places.Columns)
    (cond (eqb n 3) (Ok places.Owners)
    (cond (eqb n 4) (Ok places.Parts)
    (cond (eqb n 5) (Ok places.Filters) (Err (record {})))))))

-- how many cells each has
abbrev pub refiner_cells : RefinerPlace → ℕ
refiner_cells places.Fields = REFINER
refiner_cells places.Bodies = BODIES
refiner_cells places.Columns = COLUMNS
refiner_cells places.Owners = OWNERS
refiner_cells places.Parts = PARTS
refiner_cells places.Filters = FILTERS

-- the caller has this cell, and a byte of bodies is at most 255
abbrev pub refiner_has : Cell RefinerPlace → Bool
refiner_has c = ltb c.index (refiner_cells c.place) && by c.place
  where
    by : RefinerPlace → Bool
    by places.Fields = true
    by places.Bodies = leb c.value 255
    by places.Columns = true
    by places.Owners = true
    by places.Parts = true
    by places.Filters = true

-- the places of what the smoother's caller keeps: its fields, then the window's words and numbers
abbrev pub smoother_place : ℕ → Result SmootherPlace NoPlace
smoother_place n =
    cond (eqb n 0) (Ok windows.Fields) (cond (eqb n 1) (Ok windows.Window) (cond (eqb n 2) (Ok windows.Values) (Err (record {}))))

-- how many cells each has
abbrev pub smoother_cells : SmootherPlace → ℕ
smoother_cells windows.Fields = SMOOTHER
smoother_cells windows.Window = WINDOW
smoother_cells windows.Values = VALUES

-- the caller has this cell
abbrev pub smoother_has : Cell SmootherPlace → Bool
smoother_has c = ltb c.index (smoother_cells c.place)

-- ---- what follows a call

module _ (f : List ℕ) where
  -- number i of it, of eight bytes
  abbrev pub number : ℕ → ℕ
  number i = little SETTING f (SETTING * i)

  -- two lengths, at most these
  abbrev pub within : ℕ → ℕ → Bool
  within words numbers = leb (number 0) words && leb (number 1) numbers

  -- the two lengths that it begins with, at most these
  abbrev pub lengths : ℕ → ℕ → Option (ℕ × ℕ)
  lengths words numbers = then_some (leb (SETTING * 2) (length f) && within words numbers) (number 0, number 1)

  -- the cell of a place
  abbrev pub cell_in : {P : Type 0} → P → Cell P
  cell_in place = record { place = place; index = number 1; value = number 2 }

  -- the cell that it writes, "u64 place, u64 index, u64 value", by what place a number is and which cells the caller
  -- has
  abbrev pub cell_by : {P : Type 0} → (Cell P → Bool) → Result P NoPlace → Option (Cell P)
  cell_by has (Ok p) = then_some (has (cell_in p)) (cell_in p)
  cell_by has (Err e) = None

  -- and nothing else
  abbrev pub cell : {P : Type 0} → (ℕ → Result P NoPlace) → (Cell P → Bool) → Option (Cell P)
  cell place has = cond (eqb (length f) (SETTING * 3)) (cell_by has (place (number 0))) None

  -- a call after which just so many bytes follow
  abbrev pub sized : ℕ → Call → Option Call
  sized n c = then_some (eqb (length f) n) c

  -- of output buffers, or of a frame: "at most 4,096 and 8,192"
  abbrev pub frame_size : Option FrameSize
  frame_size = option_map (λ n. record { words = n.0; numbers = n.1 }) (lengths LENT_WORDS LENT_NUMBERS)

  -- of a window: "at most those of lag 16 and C 128"
  abbrev pub window_size : Option WindowSize
  window_size = option_map (λ n. record { words = n.0; numbers = n.1 }) (lengths WINDOW VALUES)

  -- 6 and 16: "u64 words, u64 numbers"
  abbrev pub lending : {S : Type 0} → (S → Call) → Option S → Option Call
  lending call = option_and_then (λ size. sized (SETTING * 2) (call size))

  -- 13: "u64 number of words, u64 number of numbers, then these; at most 4,096 and 8,192"
  unfoldable pub pushing : Option Call
  pushing = option_and_then (λ size. sized (SETTING * (2 + size.words + size.numbers)) (Smoother (smoother.Push size))) frame_size

-- the call of a code, and what follows it, where it is one of README's table; else it is a bad one
unfoldable pub call_in : ℕ → List ℕ → Option Call
call_in code f =
    cond (eqb code 1) (sized f SETTINGS (Refiner refiner.Open))
    (cond (eqb code 2) (Some (Refiner refiner.Push))
    (cond (eqb code 4) (sized f 0 (Refiner refiner.Take))
    (cond (eqb code 5) (sized f 0 (Refiner refiner.Counters))
    (cond (eqb code 6) (lending f Lend (frame_size f))
    (cond (eqb code 7) (option_map (λ c. Refiner (refiner.Write c)) (cell f refiner_place refiner_has))
    (cond (eqb code 9) (sized f 0 Digest)
    (cond (eqb code 11) (sized f (SETTING * 3) (Smoother smoother.Open))
    (cond (eqb code 12) (sized f 0 (Smoother smoother.PushLast))
    (cond (eqb code 13) (pushing f)
    (cond (eqb code 14) (sized f 0 (Smoother smoother.Take))
    (cond (eqb code 16) (lending f LendWindow (window_size f))
    (cond (eqb code 17) (option_map (λ c. Smoother (smoother.Write c)) (cell f smoother_place smoother_has)) None))))))))))))

-- ---- the list

-- a bad call in the list s: nothing follows it
abbrev pub bad_at : List ℕ → Next
bad_at s = record { call = None; from = length s; end = length s }

-- "u32 code, u32 length of what follows, then that many bytes": the call at a place, and where what follows it begins
-- and ends
unfoldable pub next_at : List ℕ → ℕ → Next
next_at s at =
    let size = little 4 s (at + 4) in
    cond (leb (at + CALL) (length s) && leb (at + CALL + size) (length s))
    (record { call = call_in (little 4 s at) (take size (drop (at + CALL) s)); from = at + CALL; end = at + CALL + size })
    (bad_at s)

-- ---- what is known of a call

-- what follows it is as long as it must be, lengths are within bounds, and a cell is there
abbrev pub Sane : Call → List ℕ → Type 0
Sane (Refiner refiner.Open) f = length f ≡ SETTINGS
Sane (Refiner refiner.Push) f = Unit {0}
Sane (Refiner refiner.Take) f = Unit {0}
Sane (Refiner refiner.Counters) f = Unit {0}
Sane (Refiner (refiner.Write c)) f = refiner_has c ≡ true
Sane (Smoother smoother.Open) f = length f ≡ SETTING * 3
Sane (Smoother smoother.PushLast) f = Unit {0}
Sane (Smoother (smoother.Push size)) f =
    (size.words ≤ LENT_WORDS) × (size.numbers ≤ LENT_NUMBERS) × (length f ≡ SETTING * (2 + size.words + size.numbers))
Sane (Smoother smoother.Take) f = Unit {0}
Sane (Smoother (smoother.Write c)) f = smoother_has c ≡ true
Sane (Lend size) f = (size.words ≤ LENT_WORDS) × (size.numbers ≤ LENT_NUMBERS)
Sane (LendWindow size) f = (size.words ≤ WINDOW) × (size.numbers ≤ VALUES)
Sane Digest f = Unit {0}
