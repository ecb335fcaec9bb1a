-- Document 01, "Emitted words" and "Numbers", in the lent buffers. Definitions only.
use Rattle.std.specs.Prelude.{◌≡◌, ℕ, ◌+◌, ◌*◌, ◌<◌, ◌≤◌, true, List, [], ◌∷◌, map, length, ℤ, Float}
use mathlib.Core.List.{flat_map}
use Rattle.bounds.specs.Bounds.{FROZEN, HEIGHTS, HEAD, TRACK, STATE, WORDS, NUMBERS}
use Rattle.scalar.specs.Scalar.{word}
use Rattle.engine.specs.declared.config.FgoConfig.{FgoConfig}
use Rattle.engine.specs.Frame.{mode_number}
use Rattle.engine.specs.Body.{Body, time_ok, frame_in, body_refusal, sensors_in, associations_in}
use Rattle.fgo_spec.specs.Emitting.{Listed, Emitted, report, listing, track_words, track_numbers, associations_words, cost_number, words_of, numbers_of}
use Rattle.fgo_part.specs.declared.Prefix.{Prefix}
use Rattle.buffers.specs.declared.FrameSize.{FrameSize}
use Rattle.buffers.specs.Buffers.{over}
use Rattle.fgo_part.specs.Parts.{part_id, prefix_in, entry_in, table_in}
use Rattle.fgo_state.specs.Memory.{body_at, ids_in, scan_in}
use Rattle.fgo_freeze.specs.Frozen.{PartOk, PartsOk}

-- a frozen part by value that can be listed
pub record Lists (p : Prefix) : Type 0 where
  pub heights : p.heights.count ≤ HEIGHTS
  pub last : time_ok p.last_ns ≡ true

-- ---- tracks

-- frozen part k, as it is listed at a time
abbrev pub report_in : FgoConfig → ℤ → List ℕ → List Float → ℕ → Listed
report_in c time tracks filters k = report c time (part_id tracks k) (prefix_in tracks filters k)

-- what writing the part k as listed track i asks
pub record PutsTrack (tracks : List ℕ) (filters : List Float) (k i : ℕ) (ws : List ℕ) (ns : List Float) : Type 0 where
  pub part : PartOk (entry_in tracks filters k)
  pub few : k < FROZEN
  pub words : HEAD + TRACK + TRACK * i ≤ length ws
  pub numbers : STATE + STATE * i ≤ length ns

-- after listed track i was written
pub record PutTrack (l : Listed) (i : ℕ) (ws : List ℕ) (ns : List Float) (ws' : List ℕ) (ns' : List Float) : Type 0 where
  pub words : ws' ≡ over (HEAD + TRACK * i) (track_words l) ws
  pub numbers : ns' ≡ over (STATE * i) (track_numbers l) ns

-- the lent buffers are long enough
pub record Roomy (ws : List ℕ) (ns : List Float) : Type 0 where
  pub words : WORDS ≤ length ws
  pub numbers : NUMBERS ≤ length ns

-- after the tracks that a frame lists were written, n of them
pub record PutTracks (ls : List Listed) (n : ℕ) (ws : List ℕ) (ns : List Float) (ws' : List ℕ) (ns' : List Float) : Type 0 where
  pub count : n ≡ length ls
  pub words : ws' ≡ over HEAD (flat_map track_words ls) ws
  pub numbers : ns' ≡ over 0 (flat_map track_numbers ls) ns

-- ---- associations

-- the words of the associations of scan n, of which the body is b
abbrev pub links_in : List ℕ → ℕ → Body → List ℕ
links_in columns n b = associations_words (frame_in b).associations (ids_in columns n b)

-- "one cost per association": those of a body
abbrev pub costs_in : Body → List Float
costs_in b = map (λ a. cost_number a.cost) (frame_in b).associations

-- the words before the tracks, of which there are n
abbrev pub head_in : Body → ℕ → List ℕ
head_in b n =
    let f = frame_in b in
    word f.time ∷ mode_number f.mode ∷ n ∷ associations_in b ∷ sensors_in b ∷ 0 ∷ []

-- ---- the frame

-- what is emitted of scan n: the scan, and the tracks listed at its time
abbrev pub emitted_in : FgoConfig → List ℕ → List ℕ → ℕ → List ℕ → List Float → ℕ → Emitted
emitted_in c bodies columns n tracks filters frozen =
    let s = scan_in bodies columns n in
    record { scan = s; tracks = listing c s.frame.time (table_in tracks filters frozen) }

-- what writing it asks
pub record PutsFrame (bodies columns : List ℕ) (n : ℕ) (tracks : List ℕ) (filters : List Float) (frozen : ℕ) (ws : List ℕ)
    (ns : List Float) : Type 0 where
  pub passes : body_refusal (body_at bodies columns n) ≡ 0
  pub parts : PartsOk (scan_in bodies columns n).frame.time tracks filters frozen
  pub room : Roomy ws ns

-- after the emitted frame was written at the start of the lent buffers: "The rest stays"
pub record PutFrame (e : Emitted) (z : FrameSize) (ws : List ℕ) (ns : List Float) (ws' : List ℕ) (ns' : List Float) : Type 0 where
  pub words_count : z.words ≡ length (words_of e)
  pub numbers_count : z.numbers ≡ length (numbers_of e)
  pub words : ws' ≡ over 0 (words_of e) ws
  pub numbers : ns' ≡ over 0 (numbers_of e) ns
