-- "`finish` is take, repeated until 13", of a refiner and of a smoother alike: it gives the frames that wait, oldest
-- first, and ends. Assumes nothing but what is known of each call.
use Prim.Native.Nat.{suc}
use native.Mathlib.Omega.{arith}
use mathlib.Core.Path.{◌≡◌, refl, sym, ap, ◌∙◌}
use mathlib.Core.Bool.{Bool, true, false, cond}
use mathlib.Core.List.{List, [], ◌∷◌, ◌++◌, map, flat_map, map-append, append-nil, nil≢cons}
use mathlib.Core.Option.{some-injective}
use lib.ListN.{length}
use Rattle.buffers.specs.Answer.{Op, taken, Reply, refused, gives, refusal_in, Written, checked, answer_of, Refused}
use Rattle.buffers.specs.Run.{Run, emitted_by, run_from}
use Rattle.fgo_spec.specs.Rule.{All}
use Rattle.histories.specs.Calls.{Call, written_by, Calls, left, enough, wrote, due_after, Finish}
use Rattle.histories.proofs.CallsLaw.{refused_of, more, run_more, Known, served, written_one}

none_of : {X : Type 0} (l : List X) → length l ≡ 0 → l ≡ []
none_of [] e = refl
none_of (x ∷ xs) e = absurd (omega arith)

-- what waits in a state, and what takes give of it
module _ {A F E S R M X : Type 0} (frame : A → F) (reply : S → Op A → Reply E × S) (start : S) (written : E → Written) (state_of : R → M → S)
    (waiting : S → List X) (finish : S → List E) where
  abbrev ran : List (Op A) → Run F E S
  ran ops = run_from frame reply start ops

  -- a take gives the first of what waits, or 13
  pub record Taking : Type 0 where
    pub none : (s : S) → waiting s ≡ [] → ((reply s taken).0 ≡ refused 13) × (finish s ≡ [])
    pub one :
        (s : S) (x : X) (xs : List X) → waiting s ≡ x ∷ xs →
        (e : E) × ((reply s taken).0 ≡ gives e) × (waiting (reply s taken).1 ≡ xs) × (finish s ≡ e ∷ finish (reply s taken).1)

  module _ (w : Taking) where
    -- ---- one take

    -- its answer, and the state after it, with buffers that are long enough or not
    abbrev taking : Bool → S → Reply E
    taking b s = (checked (cond b 0 4) s (reply s taken)).0

    abbrev then : Bool → S → S
    then b s = (checked (cond b 0 4) s (reply s taken)).1

    -- 13 comes where nothing waits, and nowhere else
    thirteen : (b : Bool) (s : S) (l : List X) → waiting s ≡ l → taking b s ≡ refused 13 → l ≡ []
    thirteen true s [] e q = refl
    thirteen true s (x ∷ xs) e q = absurd (nil≢cons (sym (ap emitted_by (sym (w.one s x xs e).1 ∙ q))))
    thirteen false s l e q = absurd (let z : 4 ≡ 13 = some-injective 4 13 (ap refusal_in q) in omega arith)

    -- of the frames to come, a take gives the first, or none where a buffer is short
    one_less : (b : Bool) (s : S) (l : List X) → waiting s ≡ l → (taking b s ≡ refused 13 → ⊥) → emitted_by (taking b s) ++ finish (then b s) ≡ finish s
    one_less false s l e n = refl
    one_less true s [] e n = absurd (n (w.none s e).0)
    one_less true s (x ∷ xs) e n = let o = w.one s x xs e in ap (λ a. emitted_by a ++ finish (reply s taken).1) o.1 ∙ sym o.3

    -- ---- one call of take

    module _ {Keeps : R → M → Call A R M → Type 0} {Ok : Call A R M → Type 0} {At : List (Op A) → R → M → Type 0}
        (z : Known frame reply start written state_of Keeps Ok At) where
      module _ (ops : List (Op A)) (r : R) (m : M) (a : At ops r m) (k : Call A R M) (h : Ok k) (e : Keeps r m k) (o : k.sent ≡ taken) where
        due-take : due_after frame reply start written state_of ops k ≡ taking (enough k) (ran ops).state
        due-take = ap (λ o. (checked (cond (enough k) 0 4) (ran ops).state (reply (ran ops).state o)).0) o

        then-take : (ran (ops ++ more (enough k) k.sent)).state ≡ then (enough k) (ran ops).state
        then-take =
            ap (λ r. r.state) (run_more frame reply start written state_of ops (enough k) k.sent)
            ∙ ap (λ o. (checked (cond (enough k) 0 4) (ran ops).state (reply (ran ops).state o)).1) o

        said-take : k.answer ≡ answer_of written (taking (enough k) (ran ops).state)
        said-take = (served frame reply start written state_of z ops r m a k h e).answer ∙ ap (answer_of written) due-take

        thirteen-said : k.answer ≡ Refused 13 → taking (enough k) (ran ops).state ≡ refused 13
        thirteen-said q = refused_of written (taking (enough k) (ran ops).state) 13 (sym said-take ∙ q)

      -- ---- takes until 13

      pub frames-given :
          (fs : List (Call A R M)) (ops : List (Op A)) (r : R) (m : M) → At ops r m → All Ok fs → Calls Keeps r m fs → Finish fs →
          wrote fs ≡ map written (finish (ran ops).state)
      unfolding wrote flat_map Finish Calls
      frames-given [] ops r m a h cs f = absurd f
      frames-given (k ∷ []) ops r m a h cs f =
          let t = (ran ops).state in
          let q = thirteen-said ops r m a k h.0 cs.0 f.0 f.1 in
          append-nil (written_by k.answer k.words_back k.numbers_back)
          ∙ written_one frame reply start written state_of z ops r m a k h.0 cs.0
          ∙ ap (λ d. map written (emitted_by d)) (due-take ops r m a k h.0 cs.0 f.0 ∙ q)
          ∙ ap (map written) (sym (w.none t (thirteen (enough k) t (waiting t) refl q)).1)
      frames-given (k ∷ l ∷ ks) ops r m a h cs f =
          let t = (ran ops).state in
          let d = due-take ops r m a k h.0 cs.0 f.0 in
          let u = then-take ops r m a k h.0 cs.0 f.0 in
          let n = z.next ops r m a k h.0 cs.0 in
          let one = written_one frame reply start written state_of z ops r m a k h.0 cs.0 in
          let others = frames-given (l ∷ ks) (ops ++ more (enough k) k.sent) k.value k.memory n h.1 cs.1 f.2 in
          (λ i. one i ++ others i)
          ∙ (λ i. map written (emitted_by (d i)) ++ map written (finish (u i)))
          ∙ sym (map-append written (emitted_by (taking (enough k) t)) (finish (then (enough k) t)))
          ∙ ap (map written) (one_less (enough k) t (waiting t) refl (λ q. f.1 (said-take ops r m a k h.0 cs.0 f.0 ∙ ap (answer_of written) q)))

      -- then nothing waits
      pub none_left :
          (fs : List (Call A R M)) (ops : List (Op A)) (r : R) (m : M) → At ops r m → All Ok fs → Calls Keeps r m fs → Finish fs →
          waiting (state_of (left r m fs).0 (left r m fs).1) ≡ []
      unfolding Finish Calls left
      none_left [] ops r m a h cs f = absurd f
      none_left (k ∷ []) ops r m a h cs f =
          let t = (ran ops).state in
          let q = thirteen-said ops r m a k h.0 cs.0 f.0 f.1 in
          let same = (served frame reply start written state_of z ops r m a k h.0 cs.0).refusals 13 f.1 in
          (λ i. waiting (state_of (same.0 i) (same.1 i))) ∙ ap waiting (z.given ops r m a k cs.0) ∙ thirteen (enough k) t (waiting t) refl q
      none_left (k ∷ l ∷ ks) ops r m a h cs f =
          none_left (l ∷ ks) (ops ++ more (enough k) k.sent) k.value k.memory (z.next ops r m a k h.0 cs.0) h.1 cs.1 f.2

      -- ---- and it ends

      pub comes_to_end :
          (fs : List (Call A R M)) (ops : List (Op A)) (r : R) (m : M) → At ops r m → All Ok fs → Calls Keeps r m fs →
          All (λ k. (k.sent ≡ taken) × (enough k ≡ true)) fs → (xs : List X) → waiting (ran ops).state ≡ xs → length fs ≡ suc (length xs) → Finish fs
      unfolding Finish Calls
      comes_to_end [] ops r m a h cs ts xs e n = absurd (omega arith)
      comes_to_end (k ∷ []) ops r m a h cs ts xs e n =
          let t = (ran ops).state in (
            ts.0.0,
            said-take ops r m a k h.0 cs.0 ts.0.0
                ∙ ap (λ b. answer_of written (taking b t)) ts.0.1
                ∙ ap (answer_of written) (w.none t (e ∙ none_of xs (omega arith))).0,
          )
      comes_to_end (k ∷ l ∷ ks) ops r m a h cs ts [] e n = absurd (omega arith)
      comes_to_end (k ∷ l ∷ ks) ops r m a h cs ts (x ∷ xs) e n =
          let t = (ran ops).state in (
            ts.0.0,
            λ q. nil≢cons (sym (thirteen (enough k) t (x ∷ xs) e (thirteen-said ops r m a k h.0 cs.0 ts.0.0 q))),
            comes_to_end (l ∷ ks) (ops ++ more (enough k) k.sent) k.value k.memory (z.next ops r m a k h.0 cs.0) h.1 cs.1 ts.1 xs
                (ap waiting (then-take ops r m a k h.0 cs.0 ts.0.0 ∙ ap (λ b. then b t) ts.0.1) ∙ (w.one t x xs e).2) (omega arith),
          )
