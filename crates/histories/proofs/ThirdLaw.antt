-- 3 is answered just where the state rule does not hold. Assumes nothing but that a call is as the contracts of push,
-- take and counters say.
use Prim.Native.Nat.{ℕ, suc, ◌≤◌}
use native.Mathlib.Omega.{arith}
use mathlib.Core.Path.{◌≡◌, refl, sym, ap, subst, ◌∙◌}
use mathlib.Core.Bool.{Bool, true, false, cond}
use mathlib.Core.Option.{some-injective}
use lib.ListN.{length}
use Rattle.buffers.specs.Answer.{Reply, refused, refusal_in, roomy, checked, answer_of, Refused}
use Rattle.fgo_spec.specs.declared.moves.FgoCounters.{FgoCounters}
use Rattle.fgo_spec.specs.Emitting.{Emitted, written}
use Rattle.fgo_spec.specs.Refiner.{State, reply}
use Rattle.fgo_spec.specs.Rule.{Bytes}
use Rattle.fgo_state.specs.declared.state.FixedLagRefiner.{FixedLagRefiner}
use Rattle.fgo_state.specs.declared.state.Memory.{Memory}
use Rattle.fgo_state.specs.Memory.{state_of}
use Rattle.fgo_state.specs.Sound.{sound_ok, Sound}
use Rattle.fgo_state.proofs.Testing.{tested}
use Rattle.fgo.specs.Promise.{later_refusal, due, counted_by, count_refusal, Counted, NotCounted, Moves}
use Rattle.histories.specs.Refined.{Call, Meets, Third}
use Rattle.histories.proofs.CallsLaw.{Numbered, refused_of}
use Rattle.histories.proofs.Numbered.{numbered}

-- the reply that is due, by the test and the lengths
module _ (s : State) (a : Reply Emitted × State) (n : Numbered a.0) where
  not_three : (b : Bool) → (checked (cond b 0 4) s a).0 ≡ refused 3 → ⊥
  not_three true e = let z : 5 ≤ 3 = subst Numbered e n in omega arith
  not_three false e = let z : ◌≡◌ {A = ℕ} 4 3 = some-injective 4 3 (ap refusal_in e) in omega arith

  three-due : (t b : Bool) → (checked (cond t (cond b 0 4) 3) s a).0 ≡ refused 3 → t ≡ false
  three-due true b e = absurd (not_three b e)
  three-due false b e = refl

module _ (r : FixedLagRefiner) (m : Memory) (bytes : Bytes m.scans.bodies) where
  -- where the test fails the rule does not hold, and the other way round
  fails : (t : Bool) → sound_ok r m ≡ t → (t ≡ false → Sound r m → ⊥) × ((Sound r m → ⊥) → t ≡ false)
  fails true e = (λ q s. absurd (never q), λ h. absurd (h ((tested r m bytes).0 e)))
    where
      never : true ≡ false → ⊥
      never q = let z : ◌≡◌ {A = ℕ} 1 0 = ap (λ b. cond b 1 0) q in omega arith
  fails false e = (λ q s. let z : ◌≡◌ {A = ℕ} 0 1 = ap (λ b. cond b 1 0) (sym e ∙ (tested r m bytes).1 s) in omega arith, λ h. refl)

  pub third : (k : Call) → Meets r m k → Third r m (k.answer ≡ Refused 3)
  unfolding due later_refusal
  third k e =
      let f = fails (sound_ok r m) refl in
      let s = state_of r m in
      let a = reply r.config s k.sent in
      let b = roomy (length k.words) (length k.numbers) in
      record {
        only = λ q. f.0 (three-due s a (numbered r.config s k.sent) (sound_ok r m) b (refused_of written _ 3 (sym e.ends.answered ∙ q)));
        always = λ h. e.ends.answered ∙ ap (λ t. answer_of written (checked (cond t (cond b 0 4) 3) s a).0) (f.1 h);
      }

  abbrev number : Counted → ℕ
  number (NotCounted n) = suc n
  number (Moves n) = 0

  three-counted : (x : FgoCounters) (t : Bool) → counted_by (cond t 0 3) x ≡ NotCounted 3 → t ≡ false
  three-counted x true e = let z : ◌≡◌ {A = ℕ} 0 4 = ap number e in absurd (omega arith)
  three-counted x false e = refl

  pub third_counted : (x : FgoCounters) → Third r m (counted_by (count_refusal r m) x ≡ NotCounted 3)
  third_counted x =
      let f = fails (sound_ok r m) refl in
      record { only = λ q. f.0 (three-counted x (sound_ok r m) q); always = λ h. ap (λ t. counted_by (cond t 0 3) x) (f.1 h) }
