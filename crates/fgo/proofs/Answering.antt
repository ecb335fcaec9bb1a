-- What a call is due that is refused, and what a take is due. Assumes nothing.
use Prim.Native.Nat.{ℕ}
use mathlib.Core.Path.{◌≡◌, refl, sym, ap, subst, ◌∙◌}
use mathlib.Core.Bool.{Bool, true, false, cond}
use mathlib.Core.List.{List}
use lib.ListN.{length}
use lib.Dec.{leb}
use lib.Ieee.{Float}
use borrow.Author.Tests.{leb-true}
use native.Mathlib.Omega.{arith}
use Rattle.bounds.specs.Bounds.{WORDS, NUMBERS}
use Rattle.buffers.specs.Answer.{Op, taken, refused, roomy, checked, Answer, Refused}
use Rattle.buffers.proofs.Checking.{check_refused}
use Rattle.engine.specs.Body.{Body, rows}
use Rattle.engine.proofs.Every.{both}
use Rattle.fgo_spec.specs.Refiner.{freeze_oldest, takes, reply}
use Rattle.fgo_state.specs.declared.state.FixedLagRefiner.{FixedLagRefiner}
use Rattle.fgo_state.specs.declared.state.Memory.{Memory}
use Rattle.fgo_state.specs.Memory.{state_of}
use Rattle.fgo_state.specs.Sound.{sound_ok}
use Rattle.fgo_rule.specs.Tests.{sound_in}
use Rattle.fgo_rule.proofs.SoundLaw.{sound_rule}
use Rattle.fgo_emit.specs.Writing.{Roomy}
use Rattle.fgo.specs.Promise.{later_refusal, due, Carried, Promised}

-- the test of the state rule, as the code makes it
pub sound_is : (r : FixedLagRefiner) (m : Memory) {a b : Bool} → a ≡ sound_in r m.scans.bodies m.scans.columns m.owners m.parts.tracks → a ≡ b → sound_ok r m ≡ b
sound_is r m e h = sym (sound_rule r m) ∙ sym e ∙ h

module _ (r : FixedLagRefiner) (m : Memory) (ws : List ℕ) (ns : List Float) where
  -- neither 3 nor 4: the rule is met, and the buffers are long enough
  pub later_none : later_refusal r m (length ws) (length ns) ≡ 0 → (sound_ok r m ≡ true) × Roomy ws ns
  unfolding later_refusal
  later_none h =
      let z = go (sound_ok r m) (roomy (length ws) (length ns)) h in
      let k = both (leb WORDS (length ws)) (leb NUMBERS (length ns)) z.1 in
      (z.0, record { words = leb-true _ _ k.0; numbers = leb-true _ _ k.1 })
    where
      go : (a b : Bool) → ◌≡◌ {A = ℕ} (cond a (cond b 0 4) 3) 0 → (a ≡ true) × (b ≡ true)
      go true true e = (refl, refl)
      go true false e = absurd (omega arith)
      go false b e = absurd (omega arith)

  -- a refusal changes nothing
  pub refusal_ends : {k : ℕ} (o : Op Body) → due r m o ws ns ≡ (refused k, state_of r m) → Promised o r m ws ns (Refused k) r m ws ns
  refusal_ends {k} o e =
      subst (λ x. Carried o x r m ws ns (Refused k) r m ws ns) (sym e)
      (record {
        ends = record { answered = refl; state = refl; words = refl; numbers = refl; small = tt; unchanged = (refl, refl) };
        memory = refl;
        settings = refl;
        bodies = λ h. h;
        sized = tt;
      })

  module _ (o : Op Body) where
    -- 3 or 4
    pub due_refused : {n : ℕ} → n ≡ later_refusal r m (length ws) (length ns) → (n ≡ 0 → ⊥) → due r m o ws ns ≡ (refused n, state_of r m)
    unfolding due
    due_refused {n} e h = ap (λ n. checked n (state_of r m) (reply r.config (state_of r m) o)) (sym e) ∙ check_refused n (state_of r m) (reply r.config (state_of r m) o) h

    -- neither
    pub due_passed : later_refusal r m (length ws) (length ns) ≡ 0 → due r m o ws ns ≡ reply r.config (state_of r m) o
    unfolding due
    due_passed e = rw e

  module _ (none : later_refusal r m (length ws) (length ns) ≡ 0) where
    -- 13
    pub take_none : r.held ≡ 0 → due r m taken ws ns ≡ (refused 13, state_of r m)
    unfolding state_of takes freeze_oldest rows
    take_none z = due_passed taken none ∙ rw z

    pub take_ends : {g : Answer} {u : FixedLagRefiner} {m' : Memory} {ws' : List ℕ} {ns' : List Float} → Carried taken (takes r.config (state_of r m)) r m ws ns g u m' ws' ns' → Promised taken r m ws ns g u m' ws' ns'
    take_ends {g} {u} {m'} {ws'} {ns'} h = subst (λ x. Carried taken x r m ws ns g u m' ws' ns') (sym (due_passed taken none)) h
