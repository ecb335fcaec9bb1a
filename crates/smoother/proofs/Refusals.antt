-- What a call may rely on that none of 1 to 4 refuses. Assumes nothing.
use Prim.Native.Nat.{ℕ, ◌≤◌}
use mathlib.Core.Path.{◌≡◌, refl, ap, ◌∙◌}
use mathlib.Core.Bool.{Bool, true, false, cond, ◌&&◌}
use mathlib.Core.List.{List}
use native.Mathlib.Omega.{arith}
use Rattle.std.specs.declared.option.Option.{Option as Answer}
use Rattle.std.specs.declared.option.Option.TheVariants.{Some, None}
use Rattle.std.specs.Option.{ok_or}
use Rattle.std.specs.Prelude.{Ok, Err}
use lib.ListN.{length}
use lib.Dec.{leb}
use lib.Ieee.{Float}
use borrow.Author.Tests.{leb-true, eqb-true}
use Rattle.bounds.specs.Bounds.{LAG, TRACKS, WORDS, NUMBERS}
use Rattle.buffers.specs.Answer.{roomy}
use Rattle.scalar.specs.Scalar.{finite}
use Rattle.engine.proofs.Every.{both}
use Rattle.smoother_window.specs.declared.FixedLagSmoother.{FixedLagSmoother}
use Rattle.smoother_window.specs.declared.SmootherConfig.{SmootherConfig}
use Rattle.smoother_window.specs.Config.{lag, density, most, bounded}
use Rattle.smoother_window.specs.Window.{frames_in, all_formed, Fitting, AllCounted}
use Rattle.smoother_window.proofs.Forms.{all_counted, frames_long}
use Rattle.smoother.specs.Smoother.{window_fits, rule_ok}
use Rattle.smoother.specs.Promise.{Window, state_in, later_refusal}

pub bounds : (c : SmootherConfig) → bounded c ≡ true → (lag c ≤ LAG) × (most c ≤ TRACKS)
unfolding bounded
bounds c h = let a = both _ _ h in let b = both (leb 1 (most c)) _ a.1 in (leb-true _ _ a.0, leb-true _ _ b.1)

pub fitting : (s : FixedLagSmoother) (win : List ℕ) (nums : List Float) → bounded s.config ≡ true → window_fits s.config (length win) (length nums) ≡ true → Fitting s win nums
unfolding window_fits
fitting s win nums h g =
    let a = bounds s.config h in
    let b = both _ _ g in
    record { lags = a.0; tracks = a.1; words = eqb-true _ _ b.0; numbers = eqb-true _ _ b.1 }

-- as many frames are held as the smoother counts
pub held_is : (s : FixedLagSmoother) (w : Window) → length (state_in s w).frames ≡ s.held
unfolding state_in
held_is s w = frames_long s w.words w.numbers 0 s.held

-- something is there where b holds, and it is asked for: where it is had, b holds
pub had_when : {A E : Type 0} (b : Bool) (e : E) {f g : A} {r : Answer A} → r ≡ cond b (Some f) None → Ok g ≡ ok_or r e → (b ≡ true) × (g ≡ f)
had_when true e {f} {g} p q = let z : Ok g ≡ ok_or (Some f) e = q ∙ ap (λ r. ok_or r e) p in (refl, cc)
had_when false e {f} {g} p q = let z : Ok g ≡ ok_or None e = q ∙ ap (λ r. ok_or r e) p in absurd cc

-- and where it is lacking, b does not
pub lacking_when : {A E : Type 0} (b : Bool) (f : A) {e d : E} {r : Answer A} → r ≡ cond b (Some f) None → Err d ≡ ok_or r e → (b ≡ false) × (d ≡ e)
lacking_when true f {e} {d} p q = let z : Err d ≡ ok_or (Some f) e = q ∙ ap (λ r. ok_or r e) p in absurd cc
lacking_when false f {e} {d} p q = let z : Err d ≡ ok_or None e = q ∙ ap (λ r. ok_or r e) p in (refl, cc)

-- none of three conditions in a row refuses
pub none_of : (p q r : Bool) → ◌≡◌ {A = ℕ} (cond p (cond q (cond r 0 4) 3) 2) 0 → (p ≡ true) × (q ≡ true) × (r ≡ true)
none_of true true true e = (refl, refl, refl)
none_of true true false e = absurd (omega arith)
none_of true false r e = absurd (omega arith)
none_of false q r e = absurd (omega arith)

-- what 2, 3 and 4 leave, with output buffers of n words and m numbers
pub record Passing (s : FixedLagSmoother) (w : Window) (n m : ℕ) : Type 0 where
  pub fits : Fitting s w.words w.numbers
  pub few : s.held ≤ lag s.config
  pub formed : all_formed (most s.config) (frames_in s w.words w.numbers) ≡ true
  pub counted : AllCounted s w.words
  pub words : WORDS ≤ n
  pub numbers : NUMBERS ≤ m

pub passing : (s : FixedLagSmoother) (w : Window) (n m : ℕ) → later_refusal s w n m ≡ 0 → Passing s w n m
unfolding later_refusal state_in rule_ok
passing s w n m h =
    let a = none_of (bounded s.config && window_fits s.config (length w.words) (length w.numbers)) (rule_ok (state_in s w)) (roomy n m) h in
    let p = both (bounded s.config) _ a.0 in
    let q = both (finite (density s.config)) _ a.1 in
    let f = both _ (all_formed (most s.config) (frames_in s w.words w.numbers)) q.1 in
    let r = both (leb WORDS n) (leb NUMBERS m) a.2 in
    let l = leb-true (length (frames_in s w.words w.numbers)) (lag s.config) f.0 in
    let g = fitting s w.words w.numbers p.0 p.1 in
    record {
      fits = g;
      few = omega (arith, l, held_is s w);
      formed = f.1;
      counted = all_counted s w.words w.numbers g f.1;
      words = leb-true _ _ r.0;
      numbers = leb-true _ _ r.1;
    }
