-- A push and a take of a smoother behind the refiner: what is told of it, where it leads, and that a take leaves one
-- frame fewer. Assumes nothing.
use Prim.Native.Nat.{ℕ, suc, ◌<◌}
use native.Mathlib.Omega.{arith}
use mathlib.Core.Path.{◌≡◌, refl, sym, ap, ◌∙◌, subst}
use mathlib.Core.Bool.{true, cond}
use mathlib.Core.List.{List, [], ◌∷◌, ◌++◌}
use lib.ListN.{length}
use lib.Ieee.{Float}
use Rattle.std.proofs.Math.Logic.{∥∥₁_map, ∥∥₁_elim}
use Rattle.std.proofs.Math.Nat.{ℕ_set}
use Rattle.bounds.specs.Bounds.{WORDS, NUMBERS, TEXT}
use Rattle.buffers.specs.Answer.{Op, taken, Written, roomy, checked}
use Rattle.print.specs.Text.{Puts, full_answer}
use Rattle.print.proofs.Showing.{shown}
use Rattle.print.proofs.Fitting.{full_answer_few, ready}
use Rattle.smoother_window.specs.declared.FixedLagSmoother.{FixedLagSmoother}
use Rattle.smoother_window.specs.declared.SmootherConfig.{SmootherConfig}
use Rattle.smoother_window.specs.Config.{legal}
use Rattle.smoother.proofs.Refusals.{held_is}
use Rattle.smoother.specs.Smoother.{State, emit_oldest, takes, reply}
use Rattle.smoother.specs.Promise.{Window, state_in, Promised, Pushed}
use Rattle.histories.specs.Smoothed.{smoothing}
use Rattle.histories.specs.Joined.{Call, Same, Reached}
use Rattle.histories.proofs.CallsLaw.{more}
use Rattle.histories.proofs.JoinedLaw.{known, settings}
use Rattle.playback.specs.declared.smoothed.Smoother.{Smoother}
use Rattle.playback.specs.Told.{lent_to, Tells}
use Rattle.playback.specs.Smoothed.{Smoothed}

-- ---- what is told

pub tells :
    {o : Op Written} (k k' : Smoother) {p : Pushed} {out out' : List ℕ} {end : ℕ} →
    Promised o k.state (lent_to k) k.output.words k.output.numbers p (lent_to k') k'.output.words k'.output.numbers → k'.state ≡ p.state →
    length out ≡ TEXT → Puts (full_answer p.answer k'.output.words k'.output.numbers) 0 out out' end → Tells k k' out' end o
tells k k' {p = p} h state room q =
    record {
      given = p;
      promised = h;
      state = state;
      text = ready q (full_answer_few k'.output.words k'.output.numbers p.answer (shown (λ f. f) state_in h.ends)) (omega (arith, room));
    }

-- ---- where it leads

-- a window stands for the same as itself
same : (s : FixedLagSmoother) (w : Window) → Same s w w
same s w = record { words = refl; numbers = refl; state = refl }

-- output buffers for the longest frame are long enough
enough : {a b : ℕ} → a ≡ WORDS → b ≡ NUMBERS → roomy a b ≡ true
enough a b = λ i. roomy (a i) (b i)

-- a take leaves one frame fewer, if one is held
take-fewer : (t : State) (l : List Written) → 0 < length l → length l ≡ suc (length (emit_oldest t l).1.frames)
unfolding emit_oldest
take-fewer t [] h = absurd (omega arith)
take-fewer t (f ∷ fs) h = refl

module _ (o : Op Written) (s : FixedLagSmoother) (w : Window) {ws : List ℕ} {ns : List Float} {p : Pushed} {w' : Window} {ws' : List ℕ} {ns' : List Float}
    (l : Smoothed s w) (h : Promised o s w ws ns p w' ws' ns') where
  -- the call
  abbrev call : Call
  call =
      record {
        sent = o;
        lent = w;
        words = ws;
        numbers = ns;
        answer = p.answer;
        value = p.state;
        memory = w';
        words_back = ws';
        numbers_back = ns';
      }

  serves : Smoothed p.state w'
  serves =
      let d = s.config in
      let a : Reached d (l.calls ++ more (roomy (length call.words) (length call.numbers)) o) p.state w' =
      (known d l.settings).next l.calls s w l.reached call tt (same s w, h) in
      let e = settings d l.settings _ p.state w' a in
      record {
        settings = ap legal e ∙ l.settings;
        calls = l.calls ++ more (roomy (length call.words) (length call.numbers)) o;
        reached = subst (λ (d : SmootherConfig). Reached d (l.calls ++ more (roomy (length call.words) (length call.numbers)) o) p.state w') (sym e) a;
      }

-- the same, without the calls
pub served :
    {o : Op Written} {s : FixedLagSmoother} {w : Window} {ws : List ℕ} {ns : List Float} {p : Pushed} {w' : Window} {ws' : List ℕ} {ns' : List Float} →
    Promised o s w ws ns p w' ws' ns' → ∥ Smoothed s w ∥₁ → ∥ Smoothed p.state w' ∥₁
served {o} {s} {w} h t = ∥∥₁_map t (λ l. serves o s w l h)

module _ {k k' : Smoother} {out' : List ℕ} {end : ℕ} where
  fewer :
      length k.output.words ≡ WORDS → length k.output.numbers ≡ NUMBERS → Smoothed k.state (lent_to k) → 0 < k.state.held → Tells k k' out' end taken →
      k.state.held ≡ suc k'.state.held
  unfolding takes
  fewer words numbers l some h =
      let s = k.state in
      let w = lent_to k in
      let d = s.config in
      let u = (smoothing d l.calls).state in
      let n = ((known d l.settings).ends l.calls s w l.reached (call taken s w l h.promised) tt (same s w, h.promised)).state in
      let held : length u.frames ≡ s.held = sym (ap (λ t. length t.frames) l.reached.state) ∙ held_is s w in
      let after : k'.state.held ≡ length (emit_oldest u u.frames).1.frames =
      ap (λ s. s.held) h.state
      ∙ sym (held_is h.given.state (lent_to k'))
      ∙ ap (λ t. length t.frames) (n ∙ ap (λ b. (checked (cond b 0 4) u (reply u taken)).1) (enough words numbers)) in
      sym held ∙ take-fewer u u.frames (omega arith) ∙ ap suc (sym after)

  pub tells_fewer :
      length k.output.words ≡ WORDS → length k.output.numbers ≡ NUMBERS → 0 < k.state.held → Tells k k' out' end taken → k.state.held ≡ suc k'.state.held
  tells_fewer words numbers some h = ∥∥₁_elim k.led (ℕ_set _ _) (λ l. fewer words numbers l some h)
