-- The smoother: its state, opening, push and take, and the refusals 1, 2, 3, 5 and 13. Definitions only.
use Rattle.std.specs.Prelude.{ℕ, ◌+◌, ◌*◌, Bool, true, false, cond, ◌&&◌, List, [], ◌∷◌, ◌++◌, length, leb, ltb, eqb}
use Rattle.bounds.specs.Bounds.{words_for, numbers_for}
use Rattle.buffers.specs.Answer.{Opening, opened_by, Op, pushed, taken, Reply, refused, waits, gives, Written}
use Rattle.scalar.specs.Scalar.{finite}
use Rattle.smoother_frame.specs.Frame.{well_formed}
use Rattle.smoother_window.specs.declared.SmootherConfig.{SmootherConfig}
use Rattle.smoother_window.specs.Config.{lag, density, most, legal}
use Rattle.smoother_window.specs.Window.{all_formed}
use Rattle.smoother_pass.specs.Pass.{emitted}

-- what a smoother keeps: its settings, and the held frames, oldest first
pub record State : Type 0 where
  pub config : SmootherConfig
  pub frames : List Written

-- "a new smoother"
abbrev pub new : SmootherConfig → State
new c = record { config = c; frames = [] }

-- the same settings with other frames
abbrev pub holding : State → List Written → State
holding s fs = record { config = s.config; frames = fs }

-- ---- refusals

-- "window buffers of (lag + 1)(142 + 6C) words and (lag + 1)(32 + 42C) numbers"
unfoldable pub window_fits : SmootherConfig → ℕ → ℕ → Bool
window_fits c words numbers = eqb words ((lag c + 1) * words_for (most c)) && eqb numbers ((lag c + 1) * numbers_for (most c))

-- opening: 1 "a setting out of bounds or not finite", then 2 "window buffers not of the length below"; 0 for none
unfoldable pub open_refusal : SmootherConfig → ℕ → ℕ → ℕ
open_refusal c words numbers = cond (legal c) (cond (window_fits c words numbers) 0 2) 1

-- "density finite, at most lag frames held, each well formed"
unfoldable pub rule_ok : State → Bool
rule_ok s =
    finite (density s.config)
    && (leb (length s.frames) (lag s.config) && all_formed (most s.config) s.frames)

-- ---- opening

-- opening with a window of so many words and numbers: 1, 2, or a new smoother
unfoldable pub opens : SmootherConfig → ℕ → ℕ → Opening State
opens c words numbers = opened_by (open_refusal c words numbers) (new c)

-- ---- the oldest frame leaves, smoothed

-- 13: "no frame held"
unfoldable pub emit_oldest : State → List Written → Reply Written × State
emit_oldest s [] = (refused 13, s)
emit_oldest s (f ∷ fs) = (gives (emitted s.config (f ∷ fs) f), holding s fs)

-- ---- push

-- a frame more
abbrev pub held : State → Written → State
held s f = holding s (s.frames ++ (f ∷ []))

-- when more than lag frames are held, the oldest one leaves
abbrev pub settle_by : Bool → State → Reply Written × State
settle_by true s = emit_oldest s s.frames
settle_by false s = (waits, s)

-- the answer where a frame was pushed, by how many are held
unfoldable pub settle : State → Reply Written × State
settle s = settle_by (ltb (lag s.config) (length s.frames)) s

-- 5: "frame malformed, or a count, code or time out of bounds"
abbrev pub push_by : Bool → State → Written → Reply Written × State
push_by true s f = settle (held s f)
push_by false s f = (refused 5, s)

-- push: 5, or the frame is held
unfoldable pub push : State → Written → Reply Written × State
push s f = push_by (well_formed (most s.config) f) s f

-- ---- take

-- take
unfoldable pub takes : State → Reply Written × State
takes s = emit_oldest s s.frames

-- the reply to a push or a take, and the state after it
abbrev pub reply : State → Op Written → Reply Written × State
reply s (pushed f) = push s f
reply s taken = takes s

-- "`finish` is take, repeated until 13"
unfoldable pub finish : State → List Written → List Written
finish s [] = []
finish s (f ∷ fs) = emitted s.config (f ∷ fs) f ∷ finish (holding s fs) fs
