-- A smoother before it is opened, its window after an opening, and after one that is refused. Assumes nothing.
use Prim.Native.Nat.{ℕ, zero, suc, ◌≤◌}
use mathlib.Core.Path.{◌≡◌, refl, sym, ap, ◌∙◌}
use mathlib.Core.HLevel.{is_prop→PathP}
use lib.ListN.{length, replicate, length-replicate}
use lib.Seq.{length-take-le}
use Rattle.std.specs.Prelude.{Result, Ok, Err}
use Rattle.std.specs.Float.{binary64}
use Rattle.std.specs.Float.Ieee.{of_bits}
use Rattle.std.specs.Coded.{le_prop}
use Rattle.std.proofs.Math.Logic.{∥∥₁_prop}
use Rattle.bounds.specs.Bounds.{WINDOW, VALUES, TRACKS, words_for, numbers_for}
use Rattle.refusals.specs.declared.Refusal.{Refusal}
use Rattle.refusals.specs.Refusals.{number_of, refused}
use Rattle.buffers.specs.Answer.{opened, unopened, opened_by, left_by}
use Rattle.smoother_window.specs.declared.FixedLagSmoother.{FixedLagSmoother}
use Rattle.smoother_window.specs.declared.SmootherConfig.{SmootherConfig}
use Rattle.smoother_window.specs.declared.size.WindowSize.{WindowSize}
use Rattle.smoother_window.specs.Config as Config
use Rattle.smoother_window.specs.Window.{frames_from}
use Rattle.scalar.specs.Scalar.{finite}
use Rattle.smoother.specs.Smoother.{State, new, window_fits, open_refusal, opens}
use Rattle.smoother.specs.Promise.{Window, window, state_in, new_by, opening_of, Opens, emptied, lent_of, rest_of}
use Rattle.smoother.proofs.Fronts.{Within, left_whole}
use Rattle.playback.specs.declared.smoothed.Smoother.{Smoother}
use Rattle.playback.specs.Smoothed.{Smoothed}
use Rattle.playback.proofs.Playing.{opened_serves}

-- the settings before it is opened
abbrev first : SmootherConfig
first = record { lag_frames = 0; accel_spectral_density = of_bits binary64 0; max_tracks = TRACKS }

first_opens : (w : Window) → opening_of (Ok (new_by first)) w ≡ opens first (words_for TRACKS) (numbers_for TRACKS)
unfolding opens open_refusal Config.legal Config.bounded window_fits finite of_bits state_in frames_from
first_opens w = refl

-- it holds nothing, as if it had been opened with lag 0
pub first_serves : (w : Window) → length w.words ≡ words_for TRACKS → length w.numbers ≡ numbers_for TRACKS → Smoothed (new_by first) w
first_serves w long deep = opened_serves first w long deep refl (first_opens w)

-- an opening leaves a window as long as it was
pub opens_long : (d : SmootherConfig) (w w' : Window) → Opens d w w' → (length w'.words ≡ length w.words) × (length w'.numbers ≡ length w.numbers)
opens_long d w w' e = go (open_refusal d (length w.words) (length w.numbers)) e
  where
    go : (n : ℕ) → w' ≡ left_by n (emptied w) w → (length w'.words ≡ length w.words) × (length w'.numbers ≡ length w.numbers)
    go zero e = (ap (λ w. length w.words) e ∙ length-replicate (length w.words) 0, ap (λ w. length w.numbers) e ∙ length-replicate (length w.numbers) (of_bits binary64 0))
    go (suc n) e = (ap (λ w. length w.words) e, ap (λ w. length w.numbers) e)

-- one that gives a smoother leaves it clear
pub opens_clear :
    (d : SmootherConfig) (w w' : Window) {words numbers : ℕ} {o : Result FixedLagSmoother Refusal} {s : FixedLagSmoother} →
    length w.words ≡ words → length w.numbers ≡ numbers → o ≡ Ok s → opening_of o w' ≡ opens d words numbers → Opens d w w' → w' ≡ emptied w'
unfolding opens
opens_clear d w w' {s = s} long deep e opening left =
    let q = sym (ap (λ o. opening_of o w') e) ∙ opening ∙ (λ i. opened_by (open_refusal d (sym long i) (sym deep i)) (new d)) in
    let l = opens_long d w w' left in
    go (open_refusal d (length w.words) (length w.numbers)) q left
    ∙ (λ i. window (replicate (sym l.0 i) 0) (replicate (sym l.1 i) (of_bits binary64 0)))
  where
    go : (n : ℕ) → opened (state_in s w') ≡ opened_by n (new d) → w' ≡ left_by n (emptied w) w → w' ≡ emptied w
    go zero q left = left
    go (suc n) q left = cc

-- what one is refused for, as a number
pub refused_for :
    (d : SmootherConfig) (v : Window) (words numbers : ℕ) (o : Result FixedLagSmoother Refusal) →
    opening_of o v ≡ opens d words numbers → refused o ≡ open_refusal d words numbers
unfolding opens
refused_for d v words numbers o e = go o (open_refusal d words numbers) e
  where
    go : (o : Result FixedLagSmoother Refusal) (n : ℕ) → opening_of o v ≡ opened_by n (new d) → refused o ≡ n
    go (Ok s) zero q = refl
    go (Ok s) (suc n) q = cc
    go (Err r) zero q = cc
    go (Err r) (suc n) q = cc

-- the front of a window is as long as it is to be
pub lent_long :
    (size : WindowSize) (w : Window) → Within size w → (length (lent_of size w).words ≡ size.words) × (length (lent_of size w).numbers ≡ size.numbers)
lent_long size w h = (length-take-le size.words w.words h.0, length-take-le size.numbers w.numbers h.1)

-- an opening over the front of a window that is refused leaves the whole as it was
module _ (d : SmootherConfig) (size : WindowSize) (w : Window) (h : Within size w) where
  pub refused_keeps :
      (w' v : Window) {o : Result FixedLagSmoother Refusal} {r : Refusal} → o ≡ Err r → opening_of o v ≡ opens d size.words size.numbers →
      Opens d (lent_of size w) (lent_of size w') → rest_of size w' ≡ rest_of size w → w' ≡ w
  unfolding opens
  refused_keeps w' v {r = r} e opening left rest =
      let l = lent_long size w h in
      let n : ℕ = open_refusal d (length (lent_of size w).words) (length (lent_of size w).numbers) in
      left_whole size w h w' n rest left
      ∙ stays _ _ _ n (sym (ap (λ o. opening_of o v) e) ∙ opening ∙ (λ i. opened_by (open_refusal d (sym l.0 i) (sym l.1 i)) (new d)))
    where
      stays : (a b : Window) (s : State) (n : ℕ) → unopened (number_of r) ≡ opened_by n s → left_by n a b ≡ b
      stays a b s zero q = cc
      stays a b s (suc n) q = refl

-- a smoother that has the window of another, and the rest of it, is the other
pub same_smoother :
    (k : Smoother) (w : Window) (fits : (k.size.words ≤ WINDOW) × (k.size.numbers ≤ VALUES)) (led : ∥ Smoothed k.state (lent_of k.size w) ∥₁) →
    w ≡ window k.words k.values → ◌≡◌ {A = Smoother} (record { state = k.state; size = k.size; words = w.words; values = w.numbers; output = k.output; fits = fits; led = led }) k
same_smoother k w fits led e = λ i.
    record {
      state = k.state;
      size = k.size;
      words = (e i).words;
      values = (e i).numbers;
      output = k.output;
      fits = (le_prop fits.0 k.fits.0 i, le_prop fits.1 k.fits.1 i);
      led = is_prop→PathP (λ j. ∥ Smoothed k.state (lent_of k.size (e j)) ∥₁) (λ j. ∥∥₁_prop) led k.led i;
    }
