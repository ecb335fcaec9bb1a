-- From an opening on, the window of a smoother is that of its struct and of the frames held: they stand in their slots,
-- and every other cell is zero. Assumes nothing but that opening, and each call, is as its contract says.
use Prim.Native.Nat.{ℕ, zero, suc, ◌+◌, ◌*◌, ◌%◌, ◌≤◌, ◌<◌}
use native.Mathlib.Nat.{add-zero}
use native.Mathlib.Numerals.{add-one}
use native.Mathlib.Omega.{arith}
use mathlib.Core.Path.{◌≡◌, refl, sym, ap, ◌∙◌, subst}
use mathlib.Core.Bool.{Bool, true, false, cond}
use mathlib.Core.List.{List, [], ◌∷◌, ◌++◌, map, map-append}
use lib.ListN.{length, take, drop, get_or, replicate, length-append, length-map, length-replicate}
use lib.Seq.{take-take, drop-cons}
use lib.Dec.{ltb}
use lib.Ieee.{Float, binary64, of_bits}
use borrow.Author.Tests.{eqb-true}
use Rattle.std.proofs.lemmas.List.{get_or-map, drop_all}
use Rattle.bounds.specs.Bounds.{words_for, numbers_for}
use Rattle.buffers.specs.Answer.{Op, pushed, taken, Reply, refused, waits, gives, Written, left_by}
use Rattle.buffers.specs.Buffers.{over, cleared}
use Rattle.buffers.specs.Slots.{slotted}
use Rattle.buffers.proofs.Checking.{open_passed}
use Rattle.buffers.proofs.Slots.{Narrow, slotted_snoc, slotted_slot, slot_cleared, slot_here}
use Rattle.engine.proofs.Every.{both}
use Rattle.fgo_spec.specs.Rule.{All}
use Rattle.fgo_spec.proofs.All.{All_at}
use Rattle.smoother_frame.specs.Frame.{frame, well_formed}
use Rattle.smoother_window.specs.declared.FixedLagSmoother.{FixedLagSmoother}
use Rattle.smoother_window.specs.declared.SmootherConfig.{SmootherConfig}
use Rattle.smoother_window.specs.Config.{lag, most, legal}
use Rattle.smoother_window.specs.Window.{slot_of, slot_words, slot_numbers, words_in, numbers_in, held_frame, frames_from, frames_in, all_formed, more, fewer, Fits}
use Rattle.smoother_window.proofs.Forms.{fits, formed_more}
use Rattle.smoother_window.proofs.Storing.{front_read}
use Rattle.smoother_pass.specs.Pass.{emitted}
use Rattle.smoother.specs.Smoother.{State, holding, held, window_fits, open_refusal, settle, settle_by, emit_oldest, takes, reply}
use Rattle.smoother.specs.Promise.{Window, window, state_in, new_by, later_refusal, due, stored, freed, window_after, struct_after, emptied, laid}
use Rattle.smoother.proofs.Refusals.{held_is, passing}
use Rattle.smoother.proofs.Calls.{due_refused, due_passed, push_malformed, push_formed}
use Rattle.histories.specs.Calls.{Calls, left}
use Rattle.histories.specs.Joined.{Call, Meets}
use Rattle.histories.specs.Kept.{ReturnedWindow, OwnWindow, KeptWindow}

-- ---- frames that fit a slot

module _ (c : SmootherConfig) where
  words-fit : (f : Written) → Fits c f → length f.words ≤ words_for (most c)
  words-fit f fit = omega (arith, fit)

  numbers-fit : (f : Written) → Fits c f → length f.numbers ≤ numbers_for (most c)
  numbers-fit f fit = omega (arith, fit)

  words_narrow : (fs : List Written) → All (Fits c) fs → Narrow (words_for (most c)) (map (λ f. f.words) fs)
  words_narrow [] h = tt
  words_narrow (f ∷ fs) h = (words-fit f h.0, words_narrow fs h.1)

  numbers_narrow : (fs : List Written) → All (Fits c) fs → Narrow (numbers_for (most c)) (map (λ f. f.numbers) fs)
  numbers_narrow [] h = tt
  numbers_narrow (f ∷ fs) h = (numbers-fit f h.0, numbers_narrow fs h.1)

  all_fit : (fs : List Written) → all_formed (most c) fs ≡ true → All (Fits c) fs
  unfolding all_formed
  all_fit [] h = tt
  all_fit (f ∷ fs) h = let a = both (well_formed (most c) f) (all_formed (most c) fs) h in (fits c f a.0, all_fit fs a.1)

-- ---- a part of each frame, in slots

module _ {A : Type 0} (wide slots : ℕ) (part : Written → List A) where
  -- one more
  part_more :
      (n k : ℕ) (fs : List Written) (f : Written) (l : List A) → k ≡ length fs →
      over ((n + k) % slots * wide) (part f) (slotted wide slots n (map part fs) l) ≡ slotted wide slots n (map part (fs ++ (f ∷ []))) l
  part_more n k fs f l e =
      ap (λ (m : ℕ). over ((n + m) % slots * wide) (part f) (slotted wide slots n (map part fs) l)) (e ∙ sym (length-map fs part))
      ∙ sym (slotted_snoc wide slots n (map part fs) (part f) l)
      ∙ ap (λ gs. slotted wide slots n gs l) (sym (map-append part fs (f ∷ [])))

  module _ (z : A) (some : 0 < slots) where
    abbrev clear : List A
    clear = replicate (slots * wide) z

    -- the first is given up
    part_fewer :
        (n k : ℕ) (f : Written) (fs : List Written) → length fs < slots → Narrow wide (map part (f ∷ fs)) → k ≡ length (part f) →
        cleared z ((n + 0) % slots * wide) k (slotted wide slots n (map part (f ∷ fs)) clear) ≡ slotted wide slots ((n + 1) % slots) (map part fs) clear
    part_fewer n k f fs few w e =
        ap (λ (m : ℕ). cleared z (m % slots * wide) k (slotted wide slots n (map part (f ∷ fs)) clear)) (add-zero n)
        ∙ slot_cleared wide slots some z (slots * wide) n k (part f) (map part fs) (omega (arith, length-map fs part)) (omega arith) (omega (arith, w.0)) w.1 (omega arith)
        ∙ ap (λ (m : ℕ). slotted wide slots m (map part fs) clear) (sym (add-one n))
        ∙ sym (slotted_slot wide slots (n + 1) (map part fs) clear)

    module _ (n : ℕ) (fs : List Written) (few : length fs ≤ slots) (w : Narrow wide (map part fs)) where
      -- that of a frame is read back
      part_there :
          (i : ℕ) → i < length fs → (d : Written) → let g = part (get_or fs i d) in
          take (length g) (drop ((n + i) % slots * wide) (slotted wide slots n (map part fs) clear)) ≡ g
      part_there i h d =
          let l : List A = slotted wide slots n (map part fs) clear in
          let m = length-map fs part in
          subst (λ g. take (length g) (drop ((n + i) % slots * wide) l) ≡ g) (get_or-map part fs i d [] h)
          (slot_here wide slots some n (map part fs) clear (omega arith) w (omega (arith, length-replicate (slots * wide) z)) i (omega arith))

-- ---- the window of a struct and of frames

-- a cleared one has no frame
pub emptied_laid :
    (d : SmootherConfig) (v : Window) → length v.words ≡ (lag d + 1) * words_for (most d) → length v.numbers ≡ (lag d + 1) * numbers_for (most d) →
    emptied v ≡ laid (new_by d) []
unfolding laid slotted
emptied_laid d v p q = λ i. window (replicate (p i) 0) (replicate (q i) (of_bits binary64 0))

module _ (s : FixedLagSmoother) where
  -- a frame is stored
  pub stored_laid : (fs : List Written) (f : Written) → s.held ≡ length fs → stored s f (laid s fs) ≡ laid (more s) (fs ++ (f ∷ []))
  unfolding laid slot_of
  stored_laid fs f e =
      let c = s.config in
      let slots : ℕ = lag c + 1 in
      let a = part_more (words_for (most c)) slots (λ f. f.words) s.first s.held fs f (replicate (slots * words_for (most c)) 0) e in
      let b = part_more (numbers_for (most c)) slots (λ f. f.numbers) s.first s.held fs f (replicate (slots * numbers_for (most c)) (of_bits binary64 0)) e in
      λ i. window (a i) (b i)

  module _ (fs : List Written) (few : length fs ≤ lag s.config + 1) (fit : All (Fits s.config) fs) where
    abbrev w : Window
    w = laid s fs

    -- a frame is read back
    read_one : (i : ℕ) → i < length fs → (d : Written) → held_frame s w.words w.numbers i ≡ get_or fs i d
    unfolding laid slot_of slot_words slot_numbers words_in numbers_in
    read_one i h d =
        let c = s.config in
        let slots : ℕ = lag c + 1 in
        let f : Written = get_or fs i d in
        let fit' : Fits c f = All_at (Fits c) fs d fit i h in
        let o : ℕ = (s.first + i) % slots in
        let wide : ℕ = words_for (most c) in
        let deep : ℕ = numbers_for (most c) in
        front_read c f fit' (take wide (drop (o * wide) w.words)) (take deep (drop (o * deep) w.numbers))
        (take-take (length f.words) wide (drop (o * wide) w.words) (words-fit c f fit')
        ∙ part_there wide slots (λ f. f.words) 0 (omega arith) s.first fs few (words_narrow c fs fit) i h d)
        (take-take (length f.numbers) deep (drop (o * deep) w.numbers) (numbers-fit c f fit')
        ∙ part_there deep slots (λ f. f.numbers) (of_bits binary64 0) (omega arith) s.first fs few (numbers_narrow c fs fit) i h d)

    read-from : (d : Written) (n k : ℕ) → k + n ≡ length fs → frames_from s w.words w.numbers k n ≡ drop k fs
    unfolding frames_from
    read-from d zero k e = sym (drop_all k fs (omega arith))
    read-from d (suc n) k e =
        let a = read_one k (omega arith) d in
        let b = read-from d n (suc k) (omega arith) in
        (λ i. a i ∷ b i) ∙ sym (drop-cons fs k d (omega arith))

    -- all of them
    pub read_back : s.held ≡ length fs → frames_in s w.words w.numbers ≡ fs
    read_back e = read-from (frame [] []) s.held 0 (omega arith)

  -- the oldest frame is given up
  pub freed_laid : (f : Written) (fs : List Written) → length fs ≤ lag s.config → All (Fits s.config) (f ∷ fs) → freed s (laid s (f ∷ fs)) ≡ laid (fewer s) fs
  unfolding laid slot_of
  freed_laid f fs few fit =
      let c = s.config in
      let slots : ℕ = lag c + 1 in
      let w : Window = laid s (f ∷ fs) in
      let r : held_frame s w.words w.numbers 0 ≡ f = read_one (f ∷ fs) (omega arith) fit 0 (omega arith) f in
      let a =
      part_fewer (words_for (most c)) slots (λ f. f.words) 0 (omega arith) s.first (length (words_in s w.words 0)) f fs (omega arith) (words_narrow c (f ∷ fs) fit)
      (ap (λ f. length f.words) r) in
      let b =
      part_fewer (numbers_for (most c)) slots (λ f. f.numbers) (of_bits binary64 0) (omega arith) s.first (length (numbers_in s w.words w.numbers 0)) f fs (omega arith)
      (numbers_narrow c (f ∷ fs) fit) (ap (λ f. length f.numbers) r) in
      λ i. window (a i) (b i)

-- the struct r is u, and w is the window of u and of these frames
pub kept_by :
    (u : FixedLagSmoother) (fs : List Written) → u.held ≡ length fs → length fs ≤ lag u.config + 1 → All (Fits u.config) fs →
    (r : FixedLagSmoother) (w : Window) → r ≡ u → w ≡ laid u fs → KeptWindow r w
kept_by u fs many few fit r w e p =
    let k : KeptWindow u (laid u fs) = ap (laid u) (sym (read_back u fs few fit many)) in
    subst (λ r. KeptWindow r w) (sym e) (subst (KeptWindow u) (sym p) k)

-- ---- a call

module _ (s : FixedLagSmoother) (w : Window) (kept : KeptWindow s w) (u : FixedLagSmoother) (w' : Window) where
  -- the struct u and the window w' are what a call of o leaves, by the reply that is due
  record Leaves (o : Op Written) (a : Reply Written × State) : Type 0 where
    slots : u ≡ struct_after s o a.0
    window : w' ≡ window_after s o a.0 w

  abbrev fs : List Written
  fs = frames_in s w.words w.numbers

  -- a refusal
  left_refused : (o : Op Written) (n : ℕ) (t : State) → Leaves o (refused n, t) → KeptWindow u w'
  left_refused o n t h = subst (λ r. KeptWindow r w') (sym h.slots) (subst (KeptWindow s) (sym h.window) kept)

  module _ (lagged : s.held ≤ lag s.config) (formed : all_formed (most s.config) fs ≡ true) where
    many : length fs ≡ s.held
    many = unfold state_in in held_is s w

    -- a frame is stored
    module _ (f : Written) (well : well_formed (most s.config) f ≡ true) where
      stored_is : stored s f w ≡ laid (more s) (fs ++ (f ∷ []))
      stored_is = ap (stored s f) kept ∙ stored_laid s fs f (sym many)

      formed_is : all_formed (most s.config) (fs ++ (f ∷ [])) ≡ true
      formed_is = formed_more (most s.config) fs f formed well

      long : length (fs ++ (f ∷ [])) ≡ s.held + 1
      long = omega (arith, length-append fs (f ∷ []), many)

      left_held : Leaves (pushed f) (waits, held (state_in s w) f) → KeptWindow u w'
      left_held h =
          let us : List Written = fs ++ (f ∷ []) in
          kept_by (more s) us (sym long) (omega (arith, long)) (all_fit s.config us formed_is) u w' h.slots (h.window ∙ stored_is)

      left_given : (e : Written) (g : Written) (gs : List Written) → fs ++ (f ∷ []) ≡ g ∷ gs → Leaves (pushed f) (gives e, holding (held (state_in s w) f) gs) → KeptWindow u w'
      left_given e g gs p h =
          let fit : All (Fits s.config) (g ∷ gs) = all_fit s.config (g ∷ gs) (subst (λ l. all_formed (most s.config) l ≡ true) p formed_is) in
          let few : length gs ≤ lag s.config = omega (arith, long, ap length p) in
          kept_by (fewer (more s)) gs (omega (arith, long, ap length p)) (omega arith) fit.1 u w' h.slots
          (h.window ∙ ap (freed (more s)) (stored_is ∙ ap (laid (more s)) p) ∙ freed_laid (more s) g gs few fit)

      left_settled : Leaves (pushed f) (settle (held (state_in s w) f)) → KeptWindow u w'
      unfolding settle state_in emit_oldest
      left_settled = go (ltb (lag s.config) (length us))
        where
          us : List Written
          us = fs ++ (f ∷ [])

          st : State
          st = held (state_in s w) f

          oldest : (l : List Written) → us ≡ l → Leaves (pushed f) (emit_oldest st l) → KeptWindow u w'
          oldest [] p h = absurd (omega (arith, ap length p, length-append fs (f ∷ [])))
          oldest (g ∷ gs) p h = left_given (emitted s.config (g ∷ gs) g) g gs p h

          go : (b : Bool) → Leaves (pushed f) (settle_by b st) → KeptWindow u w'
          go false h = left_held h
          go true h = oldest us refl h

    -- the oldest leaves
    left_taken : (l : List Written) → fs ≡ l → Leaves taken (emit_oldest (state_in s w) l) → KeptWindow u w'
    unfolding emit_oldest state_in
    left_taken [] p h = left_refused taken 13 (state_in s w) h
    left_taken (g ∷ gs) p h =
        let fit : All (Fits s.config) (g ∷ gs) = all_fit s.config (g ∷ gs) (subst (λ l. all_formed (most s.config) l ≡ true) p formed) in
        let few : length gs ≤ lag s.config = omega (arith, many, ap length p) in
        kept_by (fewer s) gs (omega (arith, many, ap length p)) (omega arith) fit.1 u w' h.slots (h.window ∙ ap (freed s) (kept ∙ ap (laid s) p) ∙ freed_laid s g gs few fit)

    left_passed : (o : Op Written) → Leaves o (reply (state_in s w) o) → KeptWindow u w'
    unfolding takes state_in
    left_passed taken h = left_taken fs refl h
    left_passed (pushed f) h = go (well_formed (most s.config) f) refl
      where
        go : (b : Bool) → well_formed (most s.config) f ≡ b → KeptWindow u w'
        go false e = left_refused (pushed f) 5 (state_in s w) (subst (Leaves (pushed f)) (push_malformed (state_in s w) f e) h)
        go true e = left_settled f e (subst (Leaves (pushed f)) (push_formed (state_in s w) f e) h)

  module _ (o : Op Written) (ws : List ℕ) (ns : List Float) where
    -- whatever the reply that is due
    left_after : Leaves o (due s w o ws ns) → KeptWindow u w'
    left_after h = go (later_refusal s w (length ws) (length ns)) refl
      where
        go : (n : ℕ) → later_refusal s w (length ws) (length ns) ≡ n → KeptWindow u w'
        go zero e =
            let p = passing s w (length ws) (length ns) e in
            left_passed p.few p.formed o (subst (Leaves o) (due_passed o s w ws ns e) h)
        go (suc n) e = left_refused o (suc n) (state_in s w) (subst (Leaves o) (due_refused o s w ws ns (sym e) (λ z. absurd (omega arith))) h)

-- ---- from an opening on

module _ (d : SmootherConfig) (v w : Window) (s : FixedLagSmoother) (ks : List Call) (h : OwnWindow d v w s ks) where
  fitting : (open_refusal d (length v.words) (length v.numbers) ≡ 0) × (new_by d ≡ s)
  fitting = open_passed (open_refusal d (length v.words) (length v.numbers)) (new_by d) s h.opening

  window_is : (a b : Bool) → ◌≡◌ {A = ℕ} (cond a (cond b 0 2) 1) 0 → b ≡ true
  window_is true true e = refl
  window_is true false e = absurd (omega arith)
  window_is false b e = absurd (omega arith)

  sizes : (length v.words ≡ (lag d + 1) * words_for (most d)) × (length v.numbers ≡ (lag d + 1) * numbers_for (most d))
  unfolding open_refusal window_fits
  sizes = let a = both _ _ (window_is (legal d) (window_fits d (length v.words) (length v.numbers)) fitting.0) in (eqb-true _ _ a.0, eqb-true _ _ a.1)

  -- it is clear then
  pub kept_opened : KeptWindow s w
  unfolding frames_from
  kept_opened = subst (λ s. KeptWindow s w) fitting.1 (h.cleared ∙ ap (λ n. left_by n (emptied v) v) fitting.0 ∙ emptied_laid d v sizes.0 sizes.1)

-- calls from a window of frames held
kept_left :
    (ks : List Call) (s : FixedLagSmoother) (w : Window) → KeptWindow s w → Calls ReturnedWindow s w ks →
    let e = left s w ks in KeptWindow e.0 e.1
unfolding Calls left
kept_left [] s w k cs = k
kept_left (c ∷ ks) s w k cs =
    let m : Meets s w c = cs.0.1 in
    kept_left ks c.value c.memory (left_after s w k c.value c.memory c.sent c.words c.numbers (record { slots = m.slots; window = m.window })) cs.1

-- the window is that of the struct and of the frames held
pub kept_window :
    (d : SmootherConfig) (v w : Window) (s : FixedLagSmoother) (ks : List Call) → OwnWindow d v w s ks →
    let e = left s w ks in KeptWindow e.0 e.1
kept_window d v w s ks h = kept_left ks s w (kept_opened d v w s ks h) h.calls

-- two smoothers whose structs are the same, and the frames held, have the same window
module _ (d : SmootherConfig) (v w : Window) (s : FixedLagSmoother) (ks : List Call) (h : OwnWindow d v w s ks)
    (d' : SmootherConfig) (v' w' : Window) (s' : FixedLagSmoother) (ks' : List Call) (h' : OwnWindow d' v' w' s' ks') where
  pub same_window :
      let e = left s w ks in let e' = left s' w' ks' in
      e.0 ≡ e'.0 → frames_in e.0 e.1.words e.1.numbers ≡ frames_in e'.0 e'.1.words e'.1.numbers → e.1 ≡ e'.1
  same_window p q = kept_window d v w s ks h ∙ (λ i. laid (p i) (q i)) ∙ sym (kept_window d' v' w' s' ks' h')
