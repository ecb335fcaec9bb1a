-- The backward pass over held frames, one frame more. Assumes nothing.
use mathlib.Core.Path.{◌≡◌, ap}
use mathlib.Core.List.{List, []}
use mathlib.Core.Bool.{Bool, true, false, cond}
use mathlib.Core.Option.{none, some}
use Prim.Native.Nat.{ℕ, zero, suc, ◌+◌, ◌-◌, ◌≤◌, ◌<◌}
use native.Mathlib.Omega.{arith}
use native.Mathlib.Nat.{sub-zero}
use lib.Dec.{eqb}
use lib.Ieee.{Float}
use Rattle.scalar.specs.F64.{f64}
use Rattle.rts.specs.Smoothing.{back_from}
use Rattle.smoother_frame.specs.Frame.{time, track_count, id_word}
use Rattle.smoother_window.specs.declared.FixedLagSmoother.{FixedLagSmoother}
use Rattle.smoother_window.specs.Window.{words_in, numbers_in, frames_from, frames_in}
use Rattle.smoother_window.proofs.Forms.{one_more_lem, no_more}
use Rattle.smoother_pass.specs.Pass.{Timed, state_at, last_at, track_state, chain, chain_in, dt_of, run_back}

-- ---- where an id stands

pub last_below : (id : ℕ) (w : List ℕ) (n i : ℕ) → last_at id w n ≡ some i → i < n
unfolding last_at
last_below id w zero i e = let z : ◌≡◌ {A = ℕ} 0 1 = cc in absurd (omega arith)
last_below id w (suc n) i e = go (eqb (id_word w n) id) e (last_below id w n i)
  where
    go : (b : Bool) → cond b (some n) (last_at id w n) ≡ some i → (last_at id w n ≡ some i → i < n) → i < suc n
    go true q r = let z : n ≡ i = cc in omega arith
    go false q r = omega (arith, r q)

-- ---- the pass

module _ (s : FixedLagSmoother) (win : List ℕ) (nums : List Float) (id : ℕ) where
  -- the chain of an id from the k-th frame on
  abbrev chain_from : ℕ → List Timed
  chain_from k = chain_in id (frames_from s win nums k (s.held - k))

  pub lacks : (k : ℕ) → k < s.held → last_at id (words_in s win k) (track_count (words_in s win k)) ≡ none → chain_from k ≡ []
  unfolding chain track_state
  lacks k h l = rw (one_more_lem s win nums k h, l)

  pub none_left : (k : ℕ) → s.held ≤ k → chain_from k ≡ []
  unfolding chain
  none_left k h = rw (no_more s win nums k h)

  -- where the k-th frame has the id at track i
  module _ (q : Float) (k i : ℕ) (h : k < s.held) (l : last_at id (words_in s win k) (track_count (words_in s win k)) ≡ some i) where
    pub last_one : chain_from (k + 1) ≡ [] → run_back q (chain_from k) ≡ some (state_at (numbers_in s win nums k) i)
    unfolding chain run_back track_state
    last_one e = rw (one_more_lem s win nums k h, l, e)

    pub goes_on : (j : ℕ) → k + 1 < s.held → last_at id (words_in s win (k + 1)) (track_count (words_in s win (k + 1))) ≡ some j
        → run_back q (chain_from k) ≡ back_from f64 q (dt_of (time (words_in s win k)) (time (words_in s win (k + 1)))) (state_at (numbers_in s win nums k) i) (run_back q (chain_from (k + 1)))
    unfolding chain run_back track_state
    goes_on j n m = rw (one_more_lem s win nums k h, one_more_lem s win nums (k + 1) n, l, m)

  -- the chain from the oldest frame on
  pub from_oldest : chain_from 0 ≡ chain_in id (frames_in s win nums)
  from_oldest = ap (λ n. chain_in id (frames_from s win nums 0 n)) (sub-zero s.held)
