-- Demand 3: the history theorem, over every list of pushes and takes. Assumes nothing.
use Prim.Native.Nat.{ℕ, zero, suc, ◌≤◌, ◌<◌}
use native.Mathlib.Nat.{le_refl, le_trans, lt_irrefl}
use native.Mathlib.Omega.{arith}
use mathlib.Core.Path.{◌≡◌, refl, sym, ap, ◌∙◌, subst}
use mathlib.Core.Logic.{◌⊎◌, inl, inr}
use mathlib.Core.Bool.{Bool, true, false, true≢false}
use mathlib.Core.List.{List, [], ◌∷◌, ◌++◌, map, append-nil, append_assoc, append_cancel_left, head-eq_of_cons-eq, nil≢cons}
use lib.ListN.{length, get_or, drop}
use Rattle.buffers.specs.Answer.{Op, pushed, taken, Reply, refused, waits, gives, refusal_in}
use Rattle.buffers.specs.Run.{Run, begin, emitted_by, accepted_by, step, run_from}
use Rattle.buffers.proofs.Running.{run_snoc, emitted_grows, step_stays}
use Rattle.engine.specs.declared.config.FgoConfig.{FgoConfig}
use Rattle.engine.specs.Config.{lag}
use Rattle.engine.specs.Frame.{Frame}
use Rattle.engine.specs.Body.{Body, frame_in, index_of, NamedOnce}
use Rattle.engine.proofs.Named.{named_once}
use Rattle.fgo_spec.specs.Windows.{Scan}
use Rattle.fgo_spec.specs.Emitting.{Emitted}
use Rattle.fgo_spec.specs.Refiner.{State, new, arrive, emit, leave, push, takes, reply}
use Rattle.fgo_spec.specs.Rule.{All, Spoken}
use Rattle.fgo_spec.specs.History.{run, scans_of, Told, settled, Sent, Stands, standing, Under, History}
use Rattle.fgo_spec.proofs.All.{All-append, All-left, map-All, mem_All, foldl_keeps}
use Rattle.fgo_spec.proofs.Invariant.{Inv, inv_new}
use Rattle.fgo_spec.proofs.Accepting.{arrive-length, inv_arrive}
use Rattle.fgo_spec.proofs.Doing.{Does, refuses, holds, leaves, Passes, take_does, push_does}
use Rattle.fgo_spec.proofs.Leaving.{told, inv_leave}
use Rattle.fgo_spec.proofs.Ruled.{used, ruled}
use Rattle.fgo_spec.proofs.Giving.{gives_once}

module _ (c : FgoConfig) where
  -- ---- what is told of each emitted frame, in order

  unfoldable pub ToldFrom : List Emitted → List Emitted → Type 0
  ToldFrom past [] = Unit {0}
  ToldFrom past (e ∷ es) = Told c past e × ToldFrom (past ++ (e ∷ [])) es

  told-append : (past es fs : List Emitted) → ToldFrom past es → ToldFrom (past ++ es) fs → ToldFrom past (es ++ fs)
  unfolding ToldFrom
  told-append past [] fs h g = subst (λ l. ToldFrom l fs) (append-nil past) g
  told-append past (e ∷ es) fs h g =
      (h.0, told-append (past ++ (e ∷ [])) es fs h.1 (subst (λ l. ToldFrom l fs) (sym (append_assoc past (e ∷ []) es)) g))

  told_at : (past before : List Emitted) (e : Emitted) (after : List Emitted) → ToldFrom past (before ++ (e ∷ after)) → Told c (past ++ before) e
  unfolding ToldFrom
  told_at past [] e after h = subst (λ l. Told c l e) (sym (append-nil past)) h.0
  told_at past (d ∷ before) e after h =
      subst (λ l. Told c l e) (append_assoc past (d ∷ []) before) (told_at (past ++ (d ∷ [])) before e after h.1)

  -- ---- what it leaves

  pub record Ran (r : Run Frame Emitted State) : Type 0 where
    pub inv : Inv c r.emitted r.accepted r.state
    pub lagged : length r.state.scans ≤ lag c
    pub told-all : ToldFrom [] r.emitted
    pub named : All NamedOnce r.accepted

  -- acc is what has been accepted after each answer
  module _ (r : Run Frame Emitted State) (i : Ran r) (acc : Reply Emitted → List Frame) where
    ran-does :
        (u : State) (Q : Type 0) (a : Reply Emitted × State) → Does c r.state u Q a → ((n : ℕ) → acc (refused n) ≡ r.accepted) →
        ((e : Emitted) → acc (gives e) ≡ acc waits) → (Q → Inv c r.emitted (acc waits) u × (length u.scans ≤ suc (lag c)) × All NamedOnce (acc waits)) →
        Ran (record { state = a.1; accepted = acc a.0; emitted = r.emitted ++ emitted_by a.0 })
    unfolding ToldFrom leave
    ran-does u Q a d same one next = go d
      where
        es : List Emitted
        es = r.emitted

        R : Reply Emitted × State → Type 0
        R a = Ran (record { state = a.1; accepted = acc a.0; emitted = es ++ emitted_by a.0 })

        go : Does c r.state u Q a → R a
        go (refuses n q) = subst R (sym q) (rw (append-nil es, same n) i)
        go (holds k l q) = subst R (sym q) (rw (append-nil es) (record { inv = (next k).0; lagged = l; told-all = i.told-all; named = (next k).2 }))
        go (leaves k s ss p q) =
            let v = subst (λ l. Inv c es l u) (sym (one (emit c u.first u.prefixes s))) (next k).0 in
            let h : length (s ∷ ss) ≤ suc (lag c) = subst (λ l. length l ≤ suc (lag c)) p (next k).1 in
            subst R (sym q)
            (record {
              inv = inv_leave c es (acc (gives (emit c u.first u.prefixes s))) u s ss p v;
              lagged = omega arith;
              told-all = told-append [] es (emit c u.first u.prefixes s ∷ []) i.told-all (told c es (acc waits) u s ss p (next k).0 (next k).2, tt);
              named = subst (All NamedOnce) (sym (one (emit c u.first u.prefixes s))) (next k).2;
            })

  pub ran_step : (r : Run Frame Emitted State) (o : Op Body) → Ran r → Ran (step frame_in (reply c) r o)
  unfolding step
  ran_step r (pushed b) i =
      let t = r.state in
      let f = frame_in b in
      ran-does r i (λ a. r.accepted ++ accepted_by frame_in (pushed b) (refusal_in a)) (arrive c t f) (Passes c t b) (push c t b) (push_does c t b) (λ n. append-nil r.accepted) (λ e. refl)
      (λ k. (
        inv_arrive c r.emitted r.accepted t f k.1 i.inv,
        let h = i.lagged in omega (arith, arrive-length c r.emitted r.accepted t f k.1 i.inv),
        All-append NamedOnce r.accepted (f ∷ []) i.named (named_once b k.0, tt),
      ))
  ran_step r taken i =
      ran-does r i (λ a. r.accepted ++ []) r.state (Unit {0}) (takes c r.state) (take_does c r.state) (λ n. append-nil r.accepted) (λ e. refl)
      (λ k. (rw (append-nil r.accepted) i.inv, le_trans i.lagged (omega arith), All-append NamedOnce r.accepted [] i.named tt))

  pub ran : (ops : List (Op Body)) → Ran (run c ops)
  unfolding run_from ToldFrom
  ran ops =
      foldl_keeps Ran (λ o. Unit {0}) (step frame_in (reply c)) (λ r o i u. ran_step r o i) (begin new) ops
      (record { inv = inv_new c; lagged = omega arith; told-all = tt; named = tt }) (mem_All (λ o. Unit {0}) ops (λ o m. tt))

  -- ---- the ids are those of placing and search

  gave : (t u : State) (Q : Type 0) (a : Reply Emitted × State) → Does c t u Q a → (e : Emitted) → emitted_by a.0 ≡ e ∷ [] → (rest : List Scan) × (u.scans ≡ e.scan ∷ rest)
  unfolding emit
  gave t u Q a (refuses n q) e h = absurd (nil≢cons (ap (λ b. emitted_by b.0) (sym q) ∙ h))
  gave t u Q a (holds k l q) e h = absurd (nil≢cons (ap (λ b. emitted_by b.0) (sym q) ∙ h))
  gave t u Q a (leaves k s ss p q) e h = (ss, p ∙ ap (λ d. d.scan ∷ ss) (head-eq_of_cons-eq (ap (λ b. emitted_by b.0) (sym q) ∙ h)))

  gave-step : (r : Run Frame Emitted State) (o : Op Body) (e : Emitted) → (step frame_in (reply c) r o).emitted ≡ r.emitted ++ (e ∷ []) → (rest : List Scan) × (settled c r.state o ≡ e.scan ∷ rest)
  unfolding step
  gave-step r (pushed b) e h = gave _ _ _ _ (push_does c r.state b) e (append_cancel_left r.emitted _ (e ∷ []) h)
  gave-step r taken e h = gave _ _ _ _ (take_does c r.state) e (append_cancel_left r.emitted _ (e ∷ []) h)

  -- ---- an observation stays under the id that it was emitted under

  named-at : (es : List Emitted) (n : ℕ) (e : Emitted) (after : List Emitted) → All (λ e. NamedOnce e.scan.frame) es → drop n es ≡ e ∷ after → NamedOnce e.scan.frame
  named-at es zero e after h q = (subst (All (λ e. NamedOnce e.scan.frame)) q h).0
  named-at [] (suc n) e after h q = absurd (nil≢cons q)
  named-at (d ∷ es) (suc n) e after h q = named-at es n e after h.1 q

  drop_more : (es rest : List Emitted) (n : ℕ) (e : Emitted) (after : List Emitted) → drop n es ≡ e ∷ after → drop n (es ++ rest) ≡ e ∷ (after ++ rest)
  drop_more es rest zero e after q = ap (λ l. l ++ rest) q
  drop_more [] rest (suc n) e after q = absurd (nil≢cons q)
  drop_more (d ∷ es) rest (suc n) e after q = drop_more es rest n e after q

  under_one : (es : List Emitted) → All (λ e. NamedOnce e.scan.frame) es → (rest : List Emitted) (n i x y : ℕ) → Under es n i x → Under (es ++ rest) n i y → x ≡ y
  under_one es h rest n i x y u v =
      let e : u.frame ≡ v.frame = head-eq_of_cons-eq (sym (drop_more es rest n u.frame u.after u.there) ∙ v.there) in
      let k = named-at es n u.frame u.after h u.there in
      let o : v.j < length u.frame.scan.frame.associations = subst (λ d. v.j < length d.scan.frame.associations) (sym e) v.one in
      let s : u.j ≡ v.j = k.once u.j v.j u.one o (u.observation ∙ sym v.observation ∙ ap (λ d. index_of d.scan.frame v.j) (sym e)) in
      sym u.id ∙ (λ l. get_or (e l).scan.ids (s l) 0) ∙ v.id

  emitted-named : (ops : List (Op Body)) → All (λ e. NamedOnce e.scan.frame) (run c ops).emitted
  emitted-named ops =
      let r = run c ops in
      map-All NamedOnce (λ e. e.scan.frame) r.emitted
      (All-left NamedOnce (map (λ e. e.scan.frame) r.emitted) (map (λ s. s.frame) r.state.scans) (subst (All NamedOnce) (sym (ran ops).inv.order) (ran ops).named))

  under-later : (ops more : List (Op Body)) (n i x y : ℕ) → Under (run c ops).emitted n i x → Under (run c (ops ++ more)).emitted n i y → x ≡ y
  under-later ops more n i x y u v =
      let g = emitted_grows frame_in (reply c) new ops more in
      under_one (run c ops).emitted (emitted-named ops) g.0 n i x y u (subst (λ l. Under l n i y) g.1 v)

  -- ---- an operation that is refused changes nothing

  abbrev is_refused : Reply Emitted → Bool
  is_refused (refused n) = true
  is_refused waits = false
  is_refused (gives e) = false

  stays : (t u : State) (Q : Type 0) (a : Reply Emitted × State) → Does c t u Q a → (n : ℕ) → a.0 ≡ refused n → a ≡ (refused n, t)
  stays t u Q a (refuses k q) n h = λ i. (h i, (q i).1)
  stays t u Q a (holds k l q) n h = absurd (true≢false (ap is_refused (sym h ∙ ap (λ b. b.0) q)))
  stays t u Q a (leaves k s ss p q) n h = absurd (true≢false (ap is_refused (sym h ∙ ap (λ b. b.0) q)))

  stays-reply : (t : State) (o : Op Body) (n : ℕ) → (reply c t o).0 ≡ refused n → reply c t o ≡ (refused n, t)
  stays-reply t (pushed b) n h = stays _ _ _ _ (push_does c t b) n h
  stays-reply t taken n h = stays _ _ _ _ (take_does c t) n h

  -- ---- of bytes, bodies say what is accepted

  spoken-step : (r : Run Frame Emitted State) (o : Op Body) → All Spoken r.accepted → Sent o → All Spoken (step frame_in (reply c) r o).accepted
  unfolding step
  spoken-step r taken k h = All-append Spoken r.accepted [] k tt
  spoken-step r (pushed b) k h = All-append Spoken r.accepted _ k (go (push_does c r.state b))
    where
      f : Frame
      f = frame_in b

      S : Reply Emitted × State → Type 0
      S a = All Spoken (accepted_by frame_in (pushed b) (refusal_in a.0))

      go : Does c r.state (arrive c r.state f) (Passes c r.state b) (push c r.state b) → S (push c r.state b)
      go (refuses n q) = subst S (sym q) tt
      go (holds k l q) = subst S (sym q) ((b, h, k.0, refl), tt)
      go (leaves k s ss p q) = subst S (sym q) ((b, h, k.0, refl), tt)

  pub spoken : (ops : List (Op Body)) → All Sent ops → All Spoken (run c ops).accepted
  unfolding run_from
  spoken ops h = foldl_keeps (λ r. All Spoken r.accepted) Sent (step frame_in (reply c)) spoken-step (begin new) ops tt h

  -- ---- an id is given out once

  given-once : (ops : List (Op Body)) (o : Op Body) → (x : ℕ) → 0 < x → Stands x (standing c (ops ++ (o ∷ []))) → Stands x (standing c ops) ⊎ ((run c ops).state.next_id ≤ x)
  unfolding step
  given-once ops o x h z =
      let r = run c ops in
      (gives_once c r.emitted r.accepted r.state (ran ops).inv o).given x h (subst (λ (r : Run Frame Emitted State). Stands x (scans_of r.emitted ++ r.state.scans)) (run_snoc frame_in (reply c) new ops o) z)

  rises-step : (ops : List (Op Body)) (o : Op Body) → (run c ops).state.next_id ≤ (run c (ops ++ (o ∷ []))).state.next_id
  unfolding step
  rises-step ops o =
      let r = run c ops in
      subst (λ (q : Run Frame Emitted State). r.state.next_id ≤ q.state.next_id) (sym (run_snoc frame_in (reply c) new ops o))
      (gives_once c r.emitted r.accepted r.state (ran ops).inv o).rises

  rises-more : (ops more : List (Op Body)) → (run c ops).state.next_id ≤ (run c (ops ++ more)).state.next_id
  rises-more ops [] = rw (append-nil ops) (le_refl (run c ops).state.next_id)
  rises-more ops (o ∷ more) =
      le_trans (rises-step ops o) (subst (λ l. (run c (ops ++ (o ∷ []))).state.next_id ≤ (run c l).state.next_id) (append_assoc ops (o ∷ []) more) (rises-more (ops ++ (o ∷ [])) more))

  -- one that does not stand, and is below the next id, never will
  never-again : (ops rest : List (Op Body)) (x : ℕ) → 0 < x → x < (run c ops).state.next_id → (Stands x (standing c ops) → ⊥) → Stands x (standing c (ops ++ rest)) → ⊥
  never-again ops [] x h b g z = g (subst (λ l. Stands x (standing c l)) (append-nil ops) z)
  never-again ops (o ∷ rest) x h b g z =
      never-again (ops ++ (o ∷ [])) rest x h (le_trans b (rises-step ops o)) still (subst (λ l. Stands x (standing c l)) (sym (append_assoc ops (o ∷ []) rest)) z)
    where
      still : Stands x (standing c (ops ++ (o ∷ []))) → ⊥
      still k = go (given-once ops o x h k)
        where
          go : Stands x (standing c ops) ⊎ ((run c ops).state.next_id ≤ x) → ⊥
          go (inl s) = g s
          go (inr n) = lt_irrefl x (le_trans b n)

  -- ---- the theorem

  pub history : (ops : List (Op Body)) → History c ops
  history ops =
      let r = run c ops in
      let i = ran ops in
      record {
        in_order = i.inv.order;
        every = λ past e later h. told_at [] past e later (subst (ToldFrom []) h i.told-all);
        as_searched = λ o e h. gave-step r o e (ap (λ r. r.emitted) (sym (run_snoc frame_in (reply c) new ops o)) ∙ h);
        dots = under-later ops;
        used = used c r.emitted r.accepted r.state i.inv;
        rises = rises-more ops;
        given = given-once ops;
        once =
            λ more rest x h s g z.
            never-again (ops ++ more) rest x h (le_trans (used c r.emitted r.accepted r.state i.inv x h s) (rises-more ops more)) g z;
        refusals = λ o n h. run_snoc frame_in (reply c) new ops o ∙ step_stays frame_in (reply c) r o n (stays-reply r.state o n h);
        ruled = λ l h. ruled c r.emitted r.accepted r.state i.inv (spoken ops h) l i.lagged;
      }
