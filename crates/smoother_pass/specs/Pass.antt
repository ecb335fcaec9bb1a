-- Document 01, "smoother.rs": the backward pass over held frames. Definitions only.
use Rattle.std.specs.Prelude.{ℕ, zero, suc, ◌+◌, ◌*◌, cond, List, [], ◌∷◌, ◌++◌, map, take, drop, ltb, eqb, ℤ, Float}
use Rattle.std.specs.Prelude.{Option as Maybe, Some, None}
use Rattle.std.proofs.Math.Option.{Option, none, some}
use Rattle.std.specs.Float.{binary64}
use Rattle.std.specs.Float.Ieee.{sub}
use Rattle.bounds.specs.Bounds.{VECTOR, COVARIANCE, STATE}
use Rattle.buffers.specs.Answer.{Written}
use Rattle.scalar.specs.Scalar.{seconds_of}
use Rattle.scalar.specs.F64.{f64}
use Rattle.rts.specs.declared.TrackState.{TrackState}
use Rattle.rts.specs.Smoothing.{Estimate, Later, estimate, estimate_of, back_over}
use Rattle.smoother_frame.specs.Frame.{time, track_count, id_word, costs_from, smoothed_as}
use Rattle.smoother_window.specs.declared.SmootherConfig.{SmootherConfig}
use Rattle.smoother_window.specs.Config.{lag, density}

-- ---- the state of a track

-- position, velocity and covariance of track i
unfoldable pub state_at : List Float → ℕ → Estimate Float
state_at x i = estimate (take VECTOR (drop (STATE * i) x)) (take COVARIANCE (drop (STATE * i + VECTOR) x))

-- the last of the first n tracks that has the id
unfoldable pub last_at : ℕ → List ℕ → ℕ → Option ℕ
last_at id w zero = none
last_at id w (suc n) = cond (eqb (id_word w n) id) (some n) (last_at id w n)

-- a state of a track, and the time of its frame
pub record Timed : Type 0 where
  pub time : ℤ
  pub state : Estimate Float

-- with the time of a frame, the state of the track that was found in it, if there is one
abbrev pub timed_at : ℤ → List Float → Option ℕ → Option Timed
timed_at t x none = none
timed_at t x (some i) = some (record { time = t; state = state_at x i })

-- the state of an id in a frame; "a repeated id: its last record"
unfoldable pub track_state : ℕ → Written → Option Timed
track_state id f = timed_at (time f.words) f.numbers (last_at id f.words (track_count f.words))

-- ---- choosing the chain

-- the states of a track from the oldest frame on, up to "the last consecutive held frame with the id"
unfoldable pub chain : List (Option Timed) → List Timed
chain [] = []
chain (none ∷ r) = []
chain (some a ∷ r) = a ∷ chain r

-- that of an id in frames from the oldest on
abbrev pub chain_in : ℕ → List Written → List Timed
chain_in id fs = chain (map (track_state id) fs)

-- ---- running back over it

-- the seconds from time t to time t'
abbrev pub dt_of : ℤ → ℤ → Float
dt_of t t' = sub binary64 (seconds_of t') (seconds_of t)

-- the states after time t, each with the seconds to it from the one before
abbrev pub links : ℤ → List Timed → List (Later Float)
links t [] = []
links t (b ∷ r) = record { dt = dt_of t b.time; state = b.state } ∷ links b.time r

-- from the chain's last state "back to the oldest"; q is the acceleration spectral density
unfoldable pub run_back : Float → List Timed → Option (Estimate Float)
run_back q [] = none
run_back q (a ∷ r) = back_over f64 q a.state (links a.time r)

-- ---- the oldest frame, smoothed

-- the smoothed state in place of a track's own, where there is one: "A failed Cholesky leaves the track unchanged"
abbrev pub replaced : Estimate Float → Option (Estimate Float) → Estimate Float
replaced a none = a
replaced a (some s) = s

-- the numbers of a track's state
abbrev pub flat : Estimate Float → List Float
flat a = a.x ++ a.p

-- "smoothed = lag > 0"
abbrev pub smoothed_flag : SmootherConfig → ℕ
smoothed_flag c = cond (ltb 0 (lag c)) 1 0

module _ (c : SmootherConfig) (fs : List Written) (f : Written) where
  -- track i of the frame f, the oldest of the frames fs
  unfoldable pub smoothed_at : ℕ → Estimate Float
  smoothed_at i = replaced (state_at f.numbers i) (run_back (density c) (chain_in (id_word f.words i) fs))

  -- the numbers of the first n tracks
  unfoldable pub states_to : ℕ → List Float
  states_to zero = []
  states_to (suc n) = states_to n ++ flat (smoothed_at n)

  -- the words with the flag; the numbers of each track, smoothed, and the costs as they were
  unfoldable pub emitted : Written
  emitted =
      record {
        words = smoothed_as f.words (smoothed_flag c);
        numbers = states_to (track_count f.words) ++ drop (costs_from f.words) f.numbers;
      }

-- ---- what the code makes: what the pass gave, and where an id stands

-- the state that running back gave; nothing where a Cholesky failed
abbrev pub ran_back : Maybe TrackState → Option (Estimate Float)
ran_back (Some t) = some (estimate_of t)
ran_back None = none

-- where an id stands among the tracks of a frame; nothing where it does not
abbrev pub found_at : Maybe ℕ → Option ℕ
found_at (Some i) = some i
found_at None = none
