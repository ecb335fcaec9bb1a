-- The chain through emitted frames is the chain of fresh runs, and what the smoother emits of them is their smoothed
-- form. Assumes nothing.
use Prim.Native.Nat.{ℕ, zero, suc, ◌≤◌, ◌<◌}
use native.Mathlib.Nat.{le_refl, add-zero}
use native.Mathlib.Decide.{ℕ_discrete}
use native.Mathlib.Omega.{arith}
use mathlib.Core.Path.{◌≡◌, refl, sym, ap, ◌∙◌, subst}
use mathlib.Core.Bool.{true, false, cond, ◌||◌, or-true, or-false}
use mathlib.Core.List.{List, [], ◌∷◌, ◌++◌, map, flat_map, map-append, append-nil, append_assoc, Memᴰ}
use mathlib.Core.Option.{Option, none, some}
use lib.ListN.{length, get_or, take}
use lib.Seq.{take-length}
use lib.Dec.{eqb}
use lib.IntN.{ℤ}
use lib.Ieee.{Float}
use mir.Facts.{to_z-of_z}
use borrow.Author.Tests.{eq-eqb, ne_eqb}
use Rattle.buffers.specs.Answer.{Written}
use Rattle.engine.specs.declared.config.FgoConfig.{FgoConfig}
use Rattle.engine.specs.Body.{time_ok}
use Rattle.engine.proofs.ReadBack.{time_fits}
use Rattle.rts.specs.Smoothing.{Estimate}
use Rattle.fgo_spec.specs.Lists.{has, any}
use Rattle.fgo_spec.specs.Emitting.{Listed, Emitted, words_of, numbers_of, written}
use Rattle.fgo_spec.specs.Rule.{All}
use Rattle.fgo_spec.specs.History.{time_of, seen, afresh, Told}
use Rattle.fgo_spec.proofs.Counting.{any_append}
use Rattle.smoother_frame.specs.Frame.{time, id_word, smoothed_as}
use Rattle.smoother_window.specs.declared.SmootherConfig.{SmootherConfig}
use Rattle.smoother_window.specs.Config.{density}
use Rattle.smoother_pass.specs.Pass.{last_at, timed_at, track_state, chain, chain_in, run_back, replaced, flat, smoothed_flag, smoothed_at, states_to, emitted}
use Rattle.histories.specs.Smoothed.{timed_if, Sourced, handed, fresh_in, smoothed_state, smoothed_form}
use Rattle.histories.proofs.Reading.{At, element, track_word, numbers_past, state_is}

-- a time in bounds is read back from its word
pub time-is : (e : Emitted) → time_ok (time_of e) ≡ true → time (words_of e) ≡ time_of e
unfolding words_of
time-is e h = to_z-of_z (time_fits (time_of e) h)

-- one row more
flat_snoc : {A B : Type 0} (g : A → List B) (l : List A) (a : A) → flat_map g l ++ g a ≡ flat_map g (l ++ (a ∷ []))
unfolding flat_map
flat_snoc g [] a = sym (append-nil (g a))
flat_snoc g (b ∷ l) a = append_assoc (g b) (flat_map g l) (g a) ∙ ap (λ k. g b ++ k) (flat_snoc g l a)

-- ---- one frame's states

module _ (e : Emitted) where
  pub id_is : (i : ℕ) → i < length e.tracks → (a : At e.tracks i) → id_word (words_of e) i ≡ a.item.id
  id_is i h a = ap (λ n. get_or (words_of e) n 0) (sym (add-zero _)) ∙ track_word e i h a 0

  -- where all tracks of the id x are the one that o gives, the last of them is it
  module _ (t : ℤ) (x : ℕ) (o : Option Listed) (only : (l : Listed) → Memᴰ l e.tracks → l.id ≡ x → o ≡ some l) where
    abbrev ids : ℕ → List ℕ
    ids n = map (λ l. l.id) (take n e.tracks)

    last_is : (n : ℕ) → n ≤ length e.tracks → timed_at t (numbers_of e) (last_at x (words_of e) n) ≡ cond (has x (ids n)) (timed_if t o) none
    unfolding last_at any
    last_is zero h = refl
    last_is (suc n) h = go (element e.tracks n h) (last_is n (omega arith))
      where
        go :
            At e.tracks n → timed_at t (numbers_of e) (last_at x (words_of e) n) ≡ cond (has x (ids n)) (timed_if t o) none →
            timed_at t (numbers_of e) (cond (eqb (id_word (words_of e) n) x) (some n) (last_at x (words_of e) n)) ≡ cond (has x (ids (suc n))) (timed_if t o) none
        go a r =
            let l = a.item in
            let d : id_word (words_of e) n ≡ l.id = id_is n h a in
            let m : ids (suc n) ≡ ids n ++ (l.id ∷ []) = ap (map (λ l. l.id)) a.up ∙ map-append (λ l. l.id) (take n e.tracks) (l ∷ []) in
            let k : has x (ids (suc n)) ≡ (has x (ids n) || (eqb x l.id || false)) = ap (has x) m ∙ any_append (eqb x) (ids n) (l.id ∷ []) in
            elim (ℕ_discrete l.id x) [
              | yes p ↦
                  rw (d, eq-eqb l.id x p, k, eq-eqb x l.id (sym p), or-true (has x (ids n)))
                  (ap (λ s. some (record { time = t; state = s })) (state_is e n h a) ∙ ap (timed_if t) (sym (only l a.among p)))
              | no p ↦ rw (d, ne_eqb l.id x p, k, ne_eqb x l.id (λ q. p (sym q)), or-false (has x (ids n))) r
            ]

-- ---- the chain

module _ (c : FgoConfig) (d : SmootherConfig) where
  -- what is known of an emitted frame: it is told of, with a time in bounds
  abbrev pub Known : Sourced → Type 0
  Known s = Told c s.past s.frame × (time_ok (time_of s.frame) ≡ true)

  state-fresh : (x : ℕ) (s : Sourced) → Known s → track_state x (handed s) ≡ fresh_in c d x s
  unfolding track_state fresh_in words_of
  state-fresh x s k =
      let e = s.frame in
      let o = afresh c (time_of e) x (seen s.past e x) in
      ap (λ z. timed_at z (numbers_of e) (last_at x (words_of e) (length e.tracks))) (time-is e k.1)
      ∙ last_is e (time_of e) x o (λ l m q. subst (λ x. afresh c (time_of e) x (seen s.past e x) ≡ some l) q (k.0.listed l m).fresh)
      (length e.tracks) (le_refl (length e.tracks))
      ∙ ap (λ l. cond (has x (map (λ l. l.id) l)) (timed_if (time_of e) o) none) (take-length e.tracks)

  states-fresh : (x : ℕ) (ss : List Sourced) → All Known ss → map (track_state x) (map handed ss) ≡ map (fresh_in c d x) ss
  states-fresh x [] k = refl
  states-fresh x (s ∷ ss) k =
      let a = state-fresh x s k.0 in
      let r = states-fresh x ss k.1 in
      λ i. a i ∷ r i

  -- ---- the frame that is emitted

  module _ (s : Sourced) (ss : List Sourced) (k : All Known (s ∷ ss)) where
    abbrev e : Emitted
    e = s.frame

    abbrev fs : List Written
    fs = map handed (s ∷ ss)

    abbrev S : Listed → Estimate Float
    S = smoothed_state c d s ss

    track-fresh : (i : ℕ) → i < length e.tracks → (a : At e.tracks i) → smoothed_at d fs (written e) i ≡ S a.item
    unfolding smoothed_at smoothed_state
    track-fresh i h a =
        let t = state_is e i h a in
        let b = ap (λ x. run_back (density d) (chain_in x fs)) (id_is e i h a) ∙ ap (λ l. run_back (density d) (chain l)) (states-fresh a.item.id (s ∷ ss) k) in
        λ j. replaced (t j) (b j)

    rows-fresh : (n : ℕ) → n ≤ length e.tracks → states_to d fs (written e) n ≡ flat_map (λ l. flat (S l)) (take n e.tracks)
    unfolding states_to flat_map
    rows-fresh zero h = refl
    rows-fresh (suc n) h = go (element e.tracks n h) (rows-fresh n (omega arith))
      where
        go :
            At e.tracks n → states_to d fs (written e) n ≡ flat_map (λ l. flat (S l)) (take n e.tracks) →
            states_to d fs (written e) n ++ flat (smoothed_at d fs (written e) n) ≡ flat_map (λ l. flat (S l)) (take (suc n) e.tracks)
        go a r =
            let b = track-fresh n h a in
            (λ j. r j ++ flat (b j))
            ∙ flat_snoc (λ l. flat (S l)) (take n e.tracks) a.item
            ∙ ap (flat_map (λ l. flat (S l))) (sym a.up)

    pub emitted_fresh : emitted d fs (written e) ≡ smoothed_form c d s ss
    unfolding emitted smoothed_form words_of
    emitted_fresh =
        let n = length e.tracks in
        let t = rows-fresh n (le_refl n) ∙ ap (flat_map (λ l. flat (S l))) (take-length e.tracks) in
        let p = numbers_past e in
        λ j. record { words = smoothed_as (words_of e) (smoothed_flag d); numbers = t j ++ p j }
