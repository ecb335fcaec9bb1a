-- Demand 3 over refiner and smoother: each listed track's "smoothed form the backward pass over such states".
-- Definitions only.
--
-- Document 01: "The fresh run ends with a predict to this scan. Smoothed means: emitted frames pushed in order to a new
-- smoother with C 128, takes anywhere between."
use Rattle.std.specs.Prelude.{ℕ, ◌+◌, ◌≤◌, ◌≡◌, Bool, true, cond, length, take, drop, ℤ, Float}
use mathlib.Core.List.{List, [], ◌∷◌, ◌++◌, map, flat_map}
use Rattle.std.proofs.Math.Option.{Option, none, some}
use Rattle.bounds.specs.Bounds.{TRACKS, VECTOR, COVARIANCE}
use Rattle.buffers.specs.Answer.{Op, refused, Written}
use Rattle.buffers.specs.Run.{Run, run_from}
use Rattle.engine.specs.declared.config.FgoConfig.{FgoConfig}
use Rattle.engine.specs.Body.{Body}
use Rattle.rts.specs.Smoothing.{Estimate, estimate}
use Rattle.fgo_spec.specs.Lists.{cons_if, has}
use Rattle.fgo_spec.specs.Emitting.{Listed, Emitted, words_of, track_numbers, cost_number, written}
use Rattle.fgo_spec.specs.History.{run, time_of, seen, afresh}
use Rattle.smoother_frame.specs.Frame.{well_formed, smoothed_as}
use Rattle.smoother_window.specs.declared.SmootherConfig.{SmootherConfig}
use Rattle.smoother_window.specs.Config.{lag, density, most}
use Rattle.smoother_pass.specs.Pass.{Timed, chain, run_back, replaced, flat, smoothed_flag}
use Rattle.smoother.specs.Smoother.{State, new, held, settle, push, reply}

-- pushes of frames and takes from a new smoother on, in order, refused ones included
abbrev pub smoothing : SmootherConfig → List (Op Written) → Run Written Written State
smoothing d ops = run_from (λ f. f) reply (new d) ops

-- ---- the smoothed form of an emitted frame

-- position, velocity and covariance of a listed track
abbrev pub listed_estimate : Listed → Estimate Float
listed_estimate l = let ns = track_numbers l in estimate (take VECTOR ns) (take COVARIANCE (drop VECTOR ns))

-- those of a listed track, if there is one, with a time
abbrev pub timed_if : ℤ → Option Listed → Option Timed
timed_if t none = none
timed_if t (some l) = some (record { time = t; state = listed_estimate l })

-- the ids that a frame lists
abbrev pub listed_ids : Emitted → List ℕ
listed_ids e = map (λ l. l.id) e.tracks

-- an emitted frame, with all that were emitted before it
pub record Sourced : Type 0 where
  pub past : List Emitted
  pub frame : Emitted

-- what is handed on of it
abbrev pub handed : Sourced → Written
handed s = written s.frame

-- the frames es, which are emitted after the frames past, each with its own past
unfoldable pub sourced_after : List Emitted → List Emitted → List Sourced
sourced_after past [] = []
sourced_after past (e ∷ es) = record { past = past; frame = e } ∷ sourced_after (past ++ (e ∷ [])) es

-- all frames of a run
abbrev pub sourced : List Emitted → List Sourced
sourced es = sourced_after [] es

-- some of a list, in order: those that are marked
unfoldable pub picked : {A : Type 0} → List Bool → List A → List A
picked [] l = []
picked (b ∷ bs) [] = []
picked (b ∷ bs) (a ∷ l) = cons_if b a (picked bs l)

module _ (c : FgoConfig) (d : SmootherConfig) where
  -- The state of the id x in an emitted frame, with its time: "01's plain filter run afresh over exactly the
  -- observations emitted so far under that id, this frame's included, then predicted to this frame's time". Nothing
  -- where the frame does not list x.
  unfoldable pub fresh_in : ℕ → Sourced → Option Timed
  fresh_in x s = let e = s.frame in cond (has x (listed_ids e)) (timed_if (time_of e) (afresh c (time_of e) x (seen s.past e x))) none

  -- such states of x in the frames ss, up to "the last consecutive held frame with the id"
  abbrev pub fresh_chain : ℕ → List Sourced → List Timed
  fresh_chain x ss = chain (map (fresh_in x) ss)

  -- "its smoothed form the backward pass over such states": of the track l of the frame s, from the frames ss that
  -- follow s back to s. "A failed Cholesky leaves the track unchanged."
  unfoldable pub smoothed_state : Sourced → List Sourced → Listed → Estimate Float
  smoothed_state s ss l = replaced (listed_estimate l) (run_back (density d) (fresh_chain l.id (s ∷ ss)))

  -- s's own words but the flag; the smoothed state of each track that it lists, in order; its own costs
  unfoldable pub smoothed_form : Sourced → List Sourced → Written
  smoothed_form s ss =
      let e = s.frame in
      record {
        words = smoothed_as (words_of e) (smoothed_flag d);
        numbers = flat_map (λ l. flat (smoothed_state s ss l)) e.tracks ++ map (λ a. cost_number a.cost) e.scan.frame.associations;
      }

-- ---- the theorem

-- The frame o came out after k others. By then acc had been accepted, the first of the frames first; the next in order
-- is source, and window are all that follow it among them: exactly those that were accepted by then and had not come
-- out before. o is the smoothed form of source over them.
pub record Smoothed (c : FgoConfig) (d : SmootherConfig) (first : List Sourced) (acc : List Written) (k : ℕ) (o : Written) : Type 0 where
  pub before : List Sourced
  pub source : Sourced
  pub window : List Sourced
  pub later : List Sourced
  pub all : first ≡ (before ++ (source ∷ window)) ++ later
  pub by_then : acc ≡ map handed (before ++ (source ∷ window))
  pub number : length before ≡ k
  pub few : length window ≤ lag d
  pub form : o ≡ smoothed_form c d source window

-- A refiner has run over the pushes and takes ops, and a new smoother over the pushes and takes os. What the smoother
-- accepted are, in order, the frames first, which are some of those that the refiner emitted, each with its own past: a
-- frame that was not pushed, or was refused and not pushed again, is left out.
pub record Both (c : FgoConfig) (ops : List (Op Body)) (d : SmootherConfig) (os : List (Op Written)) (first : List Sourced) : Type 0 where
  -- each frame that was accepted has come out or is held
  pub each : length (smoothing d os).emitted + length (smoothing d os).state.frames ≡ length first
  -- each push or take that puts a frame out: the smoothed form of the next frame in order, over exactly the frames
  -- accepted by then
  pub calls :
      (earlier : List (Op Written)) (k : Op Written) (later : List (Op Written)) → os ≡ earlier ++ (k ∷ later) → (o : Written) →
      (smoothing d (earlier ++ (k ∷ []))).emitted ≡ (smoothing d earlier).emitted ++ (o ∷ []) →
      Smoothed c d first (smoothing d (earlier ++ (k ∷ []))).accepted (length (smoothing d earlier).emitted) o
  -- "After it the state and the lent buffers hold what they held before the call": one that is refused changes nothing
  pub refusals : (k : Op Written) (n : ℕ) → (reply (smoothing d os).state k).0 ≡ refused n → smoothing d (os ++ (k ∷ [])) ≡ smoothing d os
  -- with C 128 no push of an emitted frame is refused
  pub pushes :
      most d ≡ TRACKS → (past : List Emitted) (e : Emitted) (later : List Emitted) → (run c ops).emitted ≡ past ++ (e ∷ later) →
      push (smoothing d os).state (written e) ≡ settle (held (smoothing d os).state (written e))

-- every frame that a refiner emits passes the smoother's 5 at C 128
abbrev pub Passes : FgoConfig → List (Op Body) → Type 0
Passes c ops =
    (past : List Emitted) (e : Emitted) (later : List Emitted) → (run c ops).emitted ≡ past ++ (e ∷ later) → well_formed TRACKS (written e) ≡ true

-- the theorems, in proofs/, over every list of pushes and takes that push bytes:
--   passes : (c : FgoConfig) (ops : List (Op Body)) → All Sent ops → Passes c ops
--   both :
--     (c : FgoConfig) (ops : List (Op Body)) → All Sent ops →
--     (d : SmootherConfig) (os : List (Op Written)) (marks : List Bool) →
--     let first = picked marks (sourced (run c ops).emitted) in
--     (smoothing d os).accepted ≡ map handed first → Both c ops d os first
