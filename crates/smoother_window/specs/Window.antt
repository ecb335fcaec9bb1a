-- The window: where each held frame lies in the lent buffers. Slots of equal size go round, one frame in each.
-- Definitions only.
use Rattle.std.specs.Prelude.{ℕ, zero, suc, ◌+◌, ◌-◌, ◌*◌, ◌%◌, ◌≤◌, ◌<◌, ◌≡◌}
use Rattle.std.specs.Prelude.{Bool, true, ◌&&◌, List, [], ◌∷◌, ◌++◌, length, take, drop, Float}
use Rattle.bounds.specs.Bounds.{LAG, TRACKS, ASSOCIATIONS, SENSORS, words_for, numbers_for}
use Rattle.std.specs.Float.{binary64}
use Rattle.std.specs.Float.Ieee.{of_bits}
use Rattle.buffers.specs.Answer.{Written}
use Rattle.buffers.specs.Buffers.{over, cleared}
use Rattle.smoother_frame.specs.Frame.{frame, track_count, association_count, sensor_count, words_long, numbers_long, well_formed}
use Rattle.smoother_window.specs.declared.FixedLagSmoother.{FixedLagSmoother}
use Rattle.smoother_window.specs.declared.SmootherConfig.{SmootherConfig}
use Rattle.smoother_window.specs.Config.{lag, most}

module _ (s : FixedLagSmoother) where
  -- the slot of the k-th held frame
  unfoldable pub slot_of : ℕ → ℕ
  slot_of k = (s.first + k) % (lag s.config + 1)

  -- the words of the slot of the k-th held frame
  unfoldable pub slot_words : List ℕ → ℕ → List ℕ
  slot_words win k = let wide = words_for (most s.config) in take wide (drop (slot_of k * wide) win)

  -- the numbers of that slot
  unfoldable pub slot_numbers : List Float → ℕ → List Float
  slot_numbers nums k = let deep = numbers_for (most s.config) in take deep (drop (slot_of k * deep) nums)

  -- the words of the k-th held frame: as many of its slot's as the counts there ask for; the rest of a slot is free
  unfoldable pub words_in : List ℕ → ℕ → List ℕ
  words_in win k = take (words_long (slot_words win k)) (slot_words win k)

  -- the numbers of the k-th held frame, likewise
  unfoldable pub numbers_in : List ℕ → List Float → ℕ → List Float
  numbers_in win nums k = take (numbers_long (slot_words win k)) (slot_numbers nums k)

  -- the k-th held frame
  abbrev pub held_frame : List ℕ → List Float → ℕ → Written
  held_frame win nums k = frame (words_in win k) (numbers_in win nums k)

  -- n held frames from the k-th on
  unfoldable pub frames_from : List ℕ → List Float → ℕ → ℕ → List Written
  frames_from win nums k zero = []
  frames_from win nums k (suc n) = held_frame win nums k ∷ frames_from win nums (suc k) n

  -- all of them, oldest first
  abbrev pub frames_in : List ℕ → List Float → List Written
  frames_in win nums = frames_from win nums 0 s.held

-- each of some frames is well formed
unfoldable pub all_formed : ℕ → List Written → Bool
all_formed most [] = true
all_formed most (f ∷ fs) = well_formed most f && all_formed most fs

-- a frame more, in the next free slot
abbrev pub more : FixedLagSmoother → FixedLagSmoother
more s = record { config = s.config; first = s.first; held = s.held + 1 }

-- the oldest given up: nothing moves, the next slot is the first
abbrev pub fewer : FixedLagSmoother → FixedLagSmoother
fewer s = record { config = s.config; first = slot_of s 1; held = s.held - 1 }

-- what 2 leaves to a later call
pub record Fitting (s : FixedLagSmoother) (win : List ℕ) (nums : List Float) : Type 0 where
  pub lags : lag s.config ≤ LAG
  pub tracks : most s.config ≤ TRACKS
  pub words : length win ≡ (lag s.config + 1) * words_for (most s.config)
  pub numbers : length nums ≡ (lag s.config + 1) * numbers_for (most s.config)

-- the counts in the k-th slot are in bounds
pub record SlotCounts (s : FixedLagSmoother) (win : List ℕ) (k : ℕ) : Type 0 where
  pub tracks : track_count (slot_words s win k) ≤ most s.config
  pub associations : association_count (slot_words s win k) ≤ ASSOCIATIONS
  pub sensors : sensor_count (slot_words s win k) ≤ SENSORS

-- and so are those in each slot in use
abbrev pub AllCounted : FixedLagSmoother → List ℕ → Type 0
AllCounted s win = (k : ℕ) → k < s.held → SlotCounts s win k

-- a frame as long as its counts say, which fit a slot
pub record Fits (c : SmootherConfig) (f : Written) : Type 0 where
  pub words : length f.words ≡ words_long f.words
  pub numbers : length f.numbers ≡ numbers_long f.words
  pub tracks : track_count f.words ≤ most c
  pub associations : association_count f.words ≤ ASSOCIATIONS
  pub sensors : sensor_count f.words ≤ SENSORS

-- where the words of the k-th held frame's slot begin, and where its numbers do
abbrev pub words_at : FixedLagSmoother → ℕ → ℕ
words_at s k = slot_of s k * words_for (most s.config)

abbrev pub numbers_at : FixedLagSmoother → ℕ → ℕ
numbers_at s k = slot_of s k * numbers_for (most s.config)

-- the frame f is stored in the next free slot: what it leaves in the window
pub record Stored (s : FixedLagSmoother) (win : List ℕ) (nums : List Float) (f : Written)
    (r : FixedLagSmoother) (win' : List ℕ) (nums' : List Float) : Type 0 where
  pub words_put : win' ≡ over (words_at s s.held) f.words win
  pub numbers_put : nums' ≡ over (numbers_at s s.held) f.numbers nums
  pub state : r ≡ more s
  pub frames : frames_in r win' nums' ≡ frames_in s win nums ++ (f ∷ [])
  pub words : length win' ≡ length win
  pub numbers : length nums' ≡ length nums

-- the oldest frame is given up: its slot is cleared, as much of it as the frame took
pub record Dropped (s : FixedLagSmoother) (win : List ℕ) (nums : List Float)
    (r : FixedLagSmoother) (win' : List ℕ) (nums' : List Float) : Type 0 where
  pub words_cleared : win' ≡ cleared 0 (words_at s 0) (length (words_in s win 0)) win
  pub numbers_cleared : nums' ≡ cleared (of_bits binary64 0) (numbers_at s 0) (length (numbers_in s win nums 0)) nums
  pub state : r ≡ fewer s
  pub frames : frames_in s win nums ≡ held_frame s win nums 0 ∷ frames_in r win' nums'
  pub words : length win' ≡ length win
  pub numbers : length nums' ≡ length nums
