-- "`finish` is take, repeated until 13": takes give the held frames, smoothed, oldest first, and then 13; and a take
-- that 2, 3 and 4 do not refuse leaves what they do not refuse. Assumes nothing.
use Prim.Native.Nat.{ℕ, zero, suc}
use mathlib.Core.Path.{◌≡◌, refl, ap, ◌∙◌}
use mathlib.Core.Bool.{true, cond, ◌&&◌}
use mathlib.Core.List.{List, [], ◌∷◌, ◌++◌, map}
use native.Mathlib.Omega.{arith}
use lib.ListN.{length}
use lib.Dec.{leb}
use lib.Ieee.{Float}
use borrow.Author.Tests.{leb-true, le-leb}
use Rattle.buffers.specs.Answer.{Reply, taken, refused, gives, Written, roomy}
use Rattle.scalar.specs.Scalar.{finite}
use Rattle.engine.proofs.Every.{both}
use Rattle.smoother_frame.specs.Frame.{well_formed}
use Rattle.smoother_window.specs.declared.FixedLagSmoother.{FixedLagSmoother}
use Rattle.smoother_window.specs.Config.{lag, density, most, bounded}
use Rattle.smoother_window.specs.Window.{all_formed}
use Rattle.smoother_pass.specs.Pass.{emitted}
use Rattle.smoother.specs.Smoother.{State, holding, window_fits, rule_ok, emit_oldest, takes, finish}
use Rattle.smoother.specs.Promise.{Window, state_in, later_refusal, Promised, Pushed}
use Rattle.smoother.proofs.Refusals.{none_of}
use Rattle.smoother.proofs.Calls.{due_passed}

-- the replies to n takes in a row
abbrev pub taking : ℕ → State → List (Reply Written)
taking zero s = []
taking (suc n) s = let a = takes s in a.0 ∷ taking n a.1

taking-all : (s : State) (fs : List Written) → taking (suc (length fs)) (holding s fs) ≡ map gives (finish (holding s fs) fs) ++ (refused 13 ∷ [])
unfolding takes emit_oldest finish
taking-all s [] = refl
taking-all s (f ∷ fs) = ap (λ l. gives (emitted s.config (f ∷ fs) f) ∷ l) (taking-all s fs)

-- as many takes as frames are held give `finish`, and the next one is refused
pub finish_is : (s : State) → taking (suc (length s.frames)) s ≡ map gives (finish s s.frames) ++ (refused 13 ∷ [])
finish_is s = taking-all s s.frames

-- ---- the state after a take

-- has the same settings,
settings_stay : (s : State) (fs : List Written) → (emit_oldest s fs).1.config ≡ s.config
unfolding emit_oldest
settings_stay s [] = refl
settings_stay s (f ∷ fs) = refl

-- and keeps its rule
rule_stays : (s : State) (fs : List Written) → rule_ok (holding s fs) ≡ true → rule_ok (emit_oldest (holding s fs) fs).1 ≡ true
unfolding emit_oldest rule_ok all_formed
rule_stays s [] h = h
rule_stays s (f ∷ fs) h =
    let a = both (finite (density s.config)) _ h in
    let c = both (leb (suc (length fs)) (lag s.config)) _ a.1 in
    let d = both (well_formed (most s.config) f) (all_formed (most s.config) fs) c.1 in
    let n = leb-true (suc (length fs)) (lag s.config) c.0 in
    rw (a.0, le-leb (length fs) (lag s.config) (omega arith), d.1)

-- a take that 2, 3 and 4 do not refuse leaves what they do not refuse
pub passes_on : {s : FixedLagSmoother} {w w' : Window} {ws ws' : List ℕ} {ns ns' : List Float} {p : Pushed} → Promised taken s w ws ns p w' ws' ns'
    → later_refusal s w (length ws) (length ns) ≡ 0 → later_refusal p.state w' (length ws') (length ns') ≡ 0
unfolding later_refusal state_in takes
passes_on {s} {w} {w'} {ws} {ws'} {ns} {ns'} {p} d h =
    let t : State = state_in s w in
    let z : state_in p.state w' ≡ (takes t).1 = d.ends.state ∙ ap (λ a. a.1) (due_passed taken s w ws ns h) in
    let c : p.state.config ≡ s.config = ap (λ t. t.config) z ∙ settings_stay t t.frames in
    let a = none_of (bounded s.config && window_fits s.config (length w.words) (length w.numbers)) (rule_ok t) (roomy (length ws) (length ns)) h in
    (λ i. cond (bounded (c i) && window_fits (c i) (d.window_words i) (d.window_numbers i)) (cond (rule_ok (z i)) (cond (roomy (d.words i) (d.numbers i)) 0 4) 3) 2)
    ∙ rw (a.0, rule_stays t t.frames a.1, a.2)
