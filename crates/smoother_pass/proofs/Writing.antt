-- What is written over the front of a buffer: one state after the other, and words with a flag. Assumes nothing.
use mathlib.Core.Path.{◌≡◌, refl, sym, ap, ◌∙◌}
use mathlib.Core.List.{List, ◌++◌}
use Prim.Native.Nat.{ℕ, ◌+◌, ◌*◌, ◌≤◌}
use native.Mathlib.Omega.{arith}
use native.Mathlib.Numerals.{add-one}
use native.Mathlib.Nat.{zero-add}
use lib.ListN.{length, drop, length-append, length-drop, length-set}
use lib.Seq.{set-append_left}
use lib.Ieee.{Float}
use Rattle.bounds.specs.Bounds.{HEAD, STATE}
use Rattle.buffers.specs.Answer.{Written}
use Rattle.buffers.specs.Buffers.{over}
use Rattle.buffers.proofs.Over.{length_over, over-more}
use Rattle.rts.specs.Smoothing.{Estimate}
use Rattle.smoother_frame.specs.Frame.{smoothed_as}
use Rattle.smoother_window.specs.declared.SmootherConfig.{SmootherConfig}
use Rattle.smoother_pass.specs.Pass.{flat, states_to, smoothed_at}

module _ {A : Type 0} (s o : List A) {n : ℕ} (l : length s ≡ n) where
  -- s over the front of a buffer
  pub front : over 0 s o ≡ s ++ drop n o
  unfolding over
  front = ap (λ m. s ++ drop m o) (zero-add (length s) ∙ l)

  -- and g right after it
  pub and_then : (g : List A) {x r : List A} → n ≤ length o → x ≡ over 0 s o → r ≡ over n g x → r ≡ over 0 (s ++ g) o
  and_then g h e p =
      let m : n ≡ 0 + length s = omega (arith, l) in
      p ∙ (λ i. over (m i) g (e i)) ∙ over-more 0 s o (omega arith) g

  -- s in place of the first n elements of y
  pub rest_long : (y : List A) → n ≤ length y → length y ≡ length (s ++ drop n y)
  rest_long y h = omega (arith, length-append s (drop n y), length-drop n y, l)

-- the first i tracks have been written over o
module _ (c : SmootherConfig) (fs : List Written) (f : Written) (o : List Float) where
  pub record Stated (x : List Float) (i : ℕ) : Type 0 where
    pub kept : length x ≡ length o
    pub long : length (states_to c fs f i) ≡ STATE * i
    pub same : x ≡ over 0 (states_to c fs f i) o

  pub none_stated : Stated o 0
  unfolding states_to over
  none_stated = record { kept = refl; long = refl; same = refl }

  pub one_stated : (i : ℕ) (a : Estimate Float) {x r : List Float} → a ≡ smoothed_at c fs f i → length (flat a) ≡ STATE → STATE * i + STATE ≤ length o → Stated x i
      → r ≡ over (STATE * i) (flat a) x → Stated r (i + 1)
  unfolding states_to
  one_stated i a {x} s m h w p =
      let z = states_to c fs f i in
      let e : z ++ flat a ≡ states_to c fs f (i + 1) = ap (λ b. z ++ flat b) s ∙ ap (states_to c fs f) (sym (add-one i)) in
      record {
        kept = ap length p ∙ length_over (STATE * i) (flat a) x (omega (arith, m, w.kept)) ∙ w.kept;
        long = omega (arith, ap length e, length-append z (flat a), m, w.long);
        same = and_then z o w.long (flat a) (omega arith) w.same p ∙ ap (λ y. over 0 y o) e;
      }

-- words over the front of a buffer, and the flag written after
pub flagged : (w o : List ℕ) (v : ℕ) → HEAD ≤ length w → smoothed_as (over 0 w o) v ≡ over 0 (smoothed_as w v) o
unfolding over
flagged w o v h = set-append_left w (drop (0 + length w) o) 5 v (omega arith) ∙ ap (λ n. smoothed_as w v ++ drop (0 + n) o) (sym (length-set w 5 v))
