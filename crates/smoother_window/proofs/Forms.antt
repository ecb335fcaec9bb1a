-- Frames in slots that are well formed. Assumes nothing.
use Prim.Native.Nat.{ℕ, zero, suc, ◌+◌, ◌-◌, ◌≤◌, ◌<◌}
use mathlib.Core.Path.{◌≡◌, refl, sym, ap, ◌∙◌}
use mathlib.Core.Bool.{Bool, true, false, ◌&&◌}
use mathlib.Core.List.{List, [], ◌∷◌, ◌++◌}
use native.Mathlib.Nat.{zero-add, add-zero, suc-add, add-suc}
use native.Mathlib.Omega.{arith}
use native.Mathlib.Numerals.{add-one}
use lib.ListN.{length}
use lib.Ieee.{Float}
use Rattle.bounds.specs.Bounds.{HEAD, words_for}
use Rattle.buffers.specs.Answer.{Written}
use Rattle.engine.specs.Body.{all}
use Rattle.engine.proofs.Every.{both, all_front, all-at}
use Rattle.smoother_window.specs.declared.FixedLagSmoother.{FixedLagSmoother}
use Rattle.smoother_window.specs.declared.SmootherConfig.{SmootherConfig}
use Rattle.smoother_frame.specs.Frame.{head_ok, well_formed}
use Rattle.smoother_window.specs.Config.{most}
use Rattle.smoother_window.specs.Window.{slot_words, words_in, held_frame, frames_from, frames_in, all_formed, Fitting, SlotCounts, AllCounted, Fits}
use Rattle.smoother_frame.proofs.WellFormed.{headed, exact_of, head_taken}
use Rattle.smoother_window.proofs.Slots.{slot_whole}

module _ (s : FixedLagSmoother) (win : List ℕ) (nums : List Float) where
  pub malformed : (k : ℕ) → HEAD ≤ length (slot_words s win k) → head_ok (most s.config) (slot_words s win k) ≡ false → well_formed (most s.config) (held_frame s win nums k) ≡ false
  unfolding well_formed words_in
  malformed k l h = rw (head_taken (most s.config) (slot_words s win k) l ∙ h)

  -- a well-formed frame's slot has counts in bounds
  counted : (k : ℕ) → HEAD ≤ length (slot_words s win k) → well_formed (most s.config) (held_frame s win nums k) ≡ true → SlotCounts s win k
  unfolding well_formed words_in
  counted k l h =
      let d = headed (most s.config) (slot_words s win k) (sym (head_taken (most s.config) (slot_words s win k) l) ∙ (both _ _ h).0) in
      record { tracks = d.tracks; associations = d.associations; sensors = d.sensors }

  abbrev formed : ℕ → Bool
  formed k = well_formed (most s.config) (held_frame s win nums k)

  -- n held frames from the k-th on are well formed where each is
  all_from : (k n : ℕ) → all_formed (most s.config) (frames_from s win nums k n) ≡ all (λ i. formed (k + i)) n
  unfolding all_formed frames_from all
  all_from k zero = refl
  all_from k (suc n) =
      ap (λ b. formed k && b) (all_from (suc k) n ∙ (λ j. all (λ i. formed ((suc-add k i ∙ sym (add-suc k i)) j)) n))
      ∙ ap (λ m. formed m && all (λ i. formed (k + suc i)) n) (sym (add-zero k)) ∙ sym (all_front (λ i. formed (k + i)) n)

  pub all_held : all_formed (most s.config) (frames_in s win nums) ≡ all formed s.held
  all_held = all_from 0 s.held ∙ (λ j. all (λ i. formed (zero-add i j)) s.held)

  -- where every held frame is well formed, the counts in every slot in use are in bounds
  pub all_counted : Fitting s win nums → all_formed (most s.config) (frames_in s win nums) ≡ true → AllCounted s win
  unfolding slot_words
  all_counted g h k l =
      let n = slot_whole s k (words_for (most s.config)) win g.words in
      counted k (omega (arith, n)) (all-at _ s.held k (sym all_held ∙ h) l)

  -- so many frames as are counted
  pub frames_long : (k n : ℕ) → length (frames_from s win nums k n) ≡ n
  unfolding frames_from
  frames_long k zero = refl
  frames_long k (suc n) = ap suc (frames_long (suc k) n)

  -- the frames that are left from the k-th on
  pub one_more_lem : (k : ℕ) → k < s.held → frames_from s win nums k (s.held - k) ≡ held_frame s win nums k ∷ frames_from s win nums (k + 1) (s.held - (k + 1))
  unfolding frames_from
  one_more_lem k h = let e : s.held - k ≡ suc (s.held - (k + 1)) = omega arith in rw (e, add-one)

  pub no_more : (k : ℕ) → s.held ≤ k → frames_from s win nums k (s.held - k) ≡ []
  unfolding frames_from
  no_more k h = let e : s.held - k ≡ 0 = omega arith in rw e

-- a well-formed frame fits a slot
pub fits : (c : SmootherConfig) (f : Written) → well_formed (most c) f ≡ true → Fits c f
unfolding well_formed
fits c f h =
    let a = both _ _ h in
    let d = headed (most c) f.words a.0 in
    let e = exact_of f.words f.numbers (both _ _ a.1).0 in
    record { words = e.0; numbers = e.1; tracks = d.tracks; associations = d.associations; sensors = d.sensors }

-- one more that is well formed
pub formed_more : (n : ℕ) (fs : List Written) (f : Written) → all_formed n fs ≡ true → well_formed n f ≡ true → all_formed n (fs ++ (f ∷ [])) ≡ true
unfolding all_formed
formed_more n [] f h g = rw g
formed_more n (e ∷ fs) f h g = let a = both (well_formed n e) (all_formed n fs) h in rw a.0 (formed_more n fs f a.1 g)
