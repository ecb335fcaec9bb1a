-- A frame stored in a free slot, and the oldest given up: what the window then holds. Assumes nothing.
use mathlib.Core.Path.{◌≡◌, refl, sym, ap, ◌∙◌}
use mathlib.Core.List.{List, [], ◌∷◌, ◌++◌}
use Prim.Native.Nat.{ℕ, zero, suc, ◌+◌, ◌-◌, ◌*◌, ◌%◌, ◌≤◌, ◌<◌}
use native.Mathlib.Omega.{arith}
use native.Mathlib.Nat.{add-zero, zero-add, sub-zero, mod-add-mod}
use lib.ListN.{length, take, drop, replicate}
use lib.Seq.{length-take-le, take-take, get_or-take}
use lib.Ieee.{Float}
use Rattle.std.specs.Float.{binary64}
use Rattle.std.specs.Float.Ieee.{of_bits}
use Rattle.std.proofs.lemmas.List.{length-replicate}
use Rattle.bounds.specs.Bounds.{HEAD, TRACK, LINK, STATE, words_for, numbers_for}
use Rattle.buffers.specs.Answer.{Written}
use Rattle.buffers.specs.Buffers.{over}
use Rattle.buffers.proofs.Over.{length_over}
use Rattle.buffers.proofs.Apart.{part_here}
use Rattle.buffers.proofs.Slots.{apart_in_round, slot_kept}
use Rattle.smoother_window.specs.declared.FixedLagSmoother.{FixedLagSmoother}
use Rattle.smoother_window.specs.declared.SmootherConfig.{SmootherConfig}
use Rattle.smoother_frame.specs.Frame.{frame, track_count, association_count, sensor_count, words_long, numbers_long}
use Rattle.smoother_window.specs.Config.{lag, most}
use Rattle.smoother_window.specs.Window.{slot_of, slot_words, slot_numbers, words_in, numbers_in, held_frame, frames_from, frames_in, words_at, numbers_at, more, fewer, Fitting, SlotCounts, Fits, Stored, Dropped}
use Rattle.smoother_window.proofs.Slots.{slot_within, room, slot_whole}
use Rattle.smoother_window.proofs.Forms.{one_more_lem}

-- ---- a slot whose front is a frame

-- it is read as that frame, where this is as long as its counts say
module _ (c : SmootherConfig) (f : Written) (fit : Fits c f) (w : List ℕ) (x : List Float) (a : take (length f.words) w ≡ f.words) (b : take (length f.numbers) x ≡ f.numbers) where
  pub front_read : frame (take (words_long w) w) (take (numbers_long w) x) ≡ f
  front_read =
      let t : track_count w ≡ track_count f.words = sym (get_or-take (length f.words) w 2 0 (omega (arith, fit.words))) ∙ ap track_count a in
      let u : association_count w ≡ association_count f.words = sym (get_or-take (length f.words) w 3 0 (omega (arith, fit.words))) ∙ ap association_count a in
      let v : sensor_count w ≡ sensor_count f.words = sym (get_or-take (length f.words) w 4 0 (omega (arith, fit.words))) ∙ ap sensor_count a in
      let n : words_long w ≡ length f.words = (λ i. HEAD + TRACK * t i + LINK * u i + v i) ∙ sym fit.words in
      let m : numbers_long w ≡ length f.numbers = (λ i. STATE * t i + u i) ∙ sym fit.numbers in
      let p : take (words_long w) w ≡ f.words = ap (λ n. take n w) n ∙ a in
      let q : take (numbers_long w) x ≡ f.numbers = ap (λ n. take n x) m ∙ b in
      λ i. frame (p i) (q i)

-- ---- what was stored, read back

back_again : {A : Type 0} (d s : List A) (at w : ℕ) → length s ≤ w → at + w ≤ length d → take (length s) (take w (drop at (over at s d))) ≡ s
back_again d s at w h l = take-take (length s) w (drop at (over at s d)) h ∙ part_here at s d (omega arith)

-- ---- two slots of the round are apart

-- the words and the numbers of a slot
abbrev wide : FixedLagSmoother → ℕ
wide s = words_for (most s.config)

abbrev deep : FixedLagSmoother → ℕ
deep s = numbers_for (most s.config)

-- the k-th slot is not the m-th
abbrev Apart : FixedLagSmoother → ℕ → ℕ → Type 0
Apart s k m = slot_of s k ≡ slot_of s m → ⊥

apart : (s : FixedLagSmoother) (k m : ℕ) → k < m → m ≤ lag s.config → Apart s k m
unfolding slot_of
apart s k m h l = apart_in_round (lag s.config + 1) (s.first + k) (s.first + m) (omega arith) (omega arith)

-- the k-th slot, after a list that fits was stored in the m-th
keeps : {A : Type 0} (s : FixedLagSmoother) (d e : List A) (w k m : ℕ) → Apart s k m → length e ≤ w → length d ≡ (lag s.config + 1) * w
    → take w (drop (slot_of s k * w) (over (slot_of s m * w) e d)) ≡ take w (drop (slot_of s k * w) d)
unfolding slot_of
keeps s d e w k m a n z =
    slot_kept w (lag s.config + 1) (omega arith) (s.first + m) (slot_of s m * w) e (omega arith) (omega arith) (s.first + k) w d (omega arith) (omega arith) (λ q. a (sym q))

-- held frames that are the same one by one
same_frames : (s r : FixedLagSmoother) (win win' : List ℕ) (nums nums' : List Float) (k n : ℕ)
    → ((j : ℕ) → k ≤ j → j < k + n → held_frame r win' nums' j ≡ held_frame s win nums j) → frames_from r win' nums' k n ≡ frames_from s win nums k n
unfolding frames_from
same_frames s r win win' nums nums' k zero e = refl
same_frames s r win win' nums nums' k (suc n) e =
    let a = e k (omega arith) (omega arith) in
    let b = same_frames s r win win' nums nums' (suc k) n (λ j g h. e j (omega arith) (omega arith)) in
    λ i. a i ∷ b i

-- lists that fit are stored in the m-th slot
module _ (s : FixedLagSmoother) (win : List ℕ) (nums : List Float) (g : Fitting s win nums) (m : ℕ) (e : List ℕ) (x : List Float)
    (short : length e ≤ wide s) (few : length x ≤ deep s) where
  -- a frame in another slot stays
  elsewhere : (k : ℕ) → Apart s k m → held_frame s (over (words_at s m) e win) (over (numbers_at s m) x nums) k ≡ held_frame s win nums k
  unfolding slot_words slot_numbers words_in numbers_in
  elsewhere k o =
      let a = keeps s win e (wide s) k m o short g.words in
      let b = keeps s nums x (deep s) k m o few g.numbers in
      λ i. frame (take (words_long (a i)) (a i)) (take (numbers_long (a i)) (b i))

  -- the buffers keep their lengths
  words-kept : length (over (words_at s m) e win) ≡ length win
  words-kept = length_over (words_at s m) e win (omega (arith, room (slot_within s m) refl g.words))

  numbers-kept : length (over (numbers_at s m) x nums) ≡ length nums
  numbers-kept = length_over (numbers_at s m) x nums (omega (arith, room (slot_within s m) refl g.numbers))

-- ---- a frame is stored

-- one frame more at the end
snoc : (s : FixedLagSmoother) (win : List ℕ) (nums : List Float) (k n : ℕ) → frames_from s win nums k (n + 1) ≡ frames_from s win nums k n ++ (held_frame s win nums (k + n) ∷ [])
unfolding frames_from
snoc s win nums k zero = ap (λ m. held_frame s win nums m ∷ []) (sym (add-zero k))
snoc s win nums k (suc n) =
    let e : suc n + 1 ≡ suc (n + 1) = omega arith in
    let g : suc k + n ≡ k + suc n = omega arith in
    let r : frames_from s win nums (suc k) (n + 1) ≡ frames_from s win nums (suc k) n ++ (held_frame s win nums (k + suc n) ∷ []) =
    snoc s win nums (suc k) n ∙ ap (λ m. frames_from s win nums (suc k) n ++ (held_frame s win nums m ∷ [])) g in
    ap (frames_from s win nums k) e ∙ ap (λ l. held_frame s win nums k ∷ l) r

module _ (s : FixedLagSmoother) (win : List ℕ) (nums : List Float) (f : Written) (free : s.held ≤ lag s.config) (g : Fitting s win nums) (fit : Fits s.config f) where
  abbrev win' : List ℕ
  win' = over (words_at s s.held) f.words win

  abbrev nums' : List Float
  nums' = over (numbers_at s s.held) f.numbers nums

  kept : (k : ℕ) → k < s.held → held_frame (more s) win' nums' k ≡ held_frame s win nums k
  unfolding slot_of slot_words slot_numbers words_in numbers_in
  kept k h = elsewhere s win nums g s.held f.words f.numbers (omega (arith, fit)) (omega (arith, fit)) k (apart s k s.held h free)

  last : held_frame (more s) win' nums' s.held ≡ f
  unfolding slot_of slot_words slot_numbers words_in numbers_in
  last =
      let at = slot_of s s.held in
      let inside = slot_within s s.held in
      let w = take (wide s) (drop (at * wide s) win') in
      let x = take (deep s) (drop (at * deep s) nums') in
      let a : take (length f.words) w ≡ f.words = back_again win f.words (at * wide s) (wide s) (omega (arith, fit)) (room inside refl g.words) in
      let b : take (length f.numbers) x ≡ f.numbers = back_again nums f.numbers (at * deep s) (deep s) (omega (arith, fit)) (room inside refl g.numbers) in
      front_read s.config f fit w x a b

  stored_there : frames_in (more s) win' nums' ≡ frames_in s win nums ++ (f ∷ [])
  stored_there =
      let a = same_frames s (more s) win win' nums nums' 0 s.held (λ j l h. kept j (omega arith)) in
      let b = ap (held_frame (more s) win' nums') (zero-add s.held) ∙ last in
      snoc (more s) win' nums' 0 s.held ∙ (λ i. a i ++ (b i ∷ []))

  -- by what is put into the next free slot
  pub stored : {w : List ℕ} {x : List Float} → w ≡ win' → x ≡ nums' → Stored s win nums f (more s) w x
  stored p q =
      let k = words-kept s win nums g s.held f.words f.numbers (omega (arith, fit)) (omega (arith, fit)) in
      let l = numbers-kept s win nums g s.held f.words f.numbers (omega (arith, fit)) (omega (arith, fit)) in
      record { words_put = p; numbers_put = q; state = refl; frames = (λ i. frames_in (more s) (p i) (q i)) ∙ stored_there; words = ap length p ∙ k; numbers = ap length q ∙ l }

-- ---- the oldest is given up

turned_on : (s : FixedLagSmoother) (k : ℕ) → slot_of (fewer s) k ≡ slot_of s (k + 1)
unfolding slot_of
turned_on s k =
    let e : s.first + 1 + k ≡ s.first + (k + 1) = omega arith in
    mod-add-mod (s.first + 1) (lag s.config + 1) k ∙ ap (λ n. n % (lag s.config + 1)) e

released : (s : FixedLagSmoother) (win : List ℕ) (nums : List Float) (k n : ℕ) → frames_from (fewer s) win nums k n ≡ frames_from s win nums (k + 1) n
unfolding frames_from slot_words slot_numbers words_in numbers_in
released s win nums k zero = refl
released s win nums k (suc n) =
    let e = turned_on s k in
    let g : suc k + 1 ≡ suc (k + 1) = omega arith in
    let r : frames_from (fewer s) win nums (suc k) n ≡ frames_from s win nums (suc (k + 1)) n = released s win nums (suc k) n ∙ ap (λ m. frames_from s win nums m n) g in
    λ i. frame
    (let w = take (wide s) (drop (e i * wide s) win) in take (words_long w) w)
    (take (numbers_long (take (wide s) (drop (e i * wide s) win))) (take (deep s) (drop (e i * deep s) nums)))
    ∷ r i

-- ---- how long a held frame is

module _ (s : FixedLagSmoother) (win : List ℕ) (nums : List Float) (k : ℕ) (g : Fitting s win nums) (c : SlotCounts s win k) where
  pub held_words : length (words_in s win k) ≡ words_long (slot_words s win k)
  unfolding slot_words words_in
  held_words = let n = slot_whole s k (wide s) win g.words in length-take-le _ (slot_words s win k) (omega (arith, n, c))

  pub held_numbers : length (numbers_in s win nums k) ≡ numbers_long (slot_words s win k)
  unfolding slot_numbers numbers_in
  held_numbers = let n = slot_whole s k (deep s) nums g.numbers in length-take-le _ (slot_numbers s nums k) (omega (arith, n, c))

-- ---- its slot is cleared

module _ (s : FixedLagSmoother) (win : List ℕ) (nums : List Float) (g : Fitting s win nums) (few : s.held ≤ lag s.config + 1) (some : 0 < s.held) (c : SlotCounts s win 0) where
  abbrev blank : List ℕ
  blank = replicate (length (words_in s win 0)) 0

  abbrev blanks : List Float
  blanks = replicate (length (numbers_in s win nums 0)) (of_bits binary64 0)

  short : length blank ≤ wide s
  short = omega (arith, length-replicate {A = ℕ} (length (words_in s win 0)) 0, held_words s win nums 0 g c, c)

  slight : length blanks ≤ deep s
  slight = omega (arith, length-replicate (length (numbers_in s win nums 0)) (of_bits binary64 0), held_numbers s win nums 0 g c, c)

  -- by what its slot is cleared of
  pub dropped : {w : List ℕ} {x : List Float} → w ≡ over (words_at s 0) blank win → x ≡ over (numbers_at s 0) blanks nums → Dropped s win nums (fewer s) w x
  dropped {w} {x} p q =
      let v = over (words_at s 0) blank win in
      let y = over (numbers_at s 0) blanks nums in
      let a : frames_in s win nums ≡ held_frame s win nums 0 ∷ frames_from s win nums 1 (s.held - 1) = ap (frames_from s win nums 0) (sym (sub-zero s.held)) ∙ one_more_lem s win nums 0 some in
      let b : frames_from s v y 1 (s.held - 1) ≡ frames_from s win nums 1 (s.held - 1) =
      same_frames s s win v nums y 1 (s.held - 1) (λ j l h. elsewhere s win nums g 0 blank blanks short slight j (λ q. apart s 0 j (omega arith) (omega arith) (sym q))) in
      let d : frames_in (fewer s) w x ≡ frames_from s win nums 1 (s.held - 1) = (λ i. frames_in (fewer s) (p i) (q i)) ∙ released s v y 0 (s.held - 1) ∙ b in
      record {
        words_cleared = p;
        numbers_cleared = q;
        state = refl;
        frames = a ∙ ap (λ l. held_frame s win nums 0 ∷ l) (sym d);
        words = ap length p ∙ words-kept s win nums g 0 blank blanks short slight;
        numbers = ap length q ∙ numbers-kept s win nums g 0 blank blanks short slight;
      }
