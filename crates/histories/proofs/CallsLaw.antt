-- What holds of calls one after another, of a refiner and of a smoother alike. Assumes nothing but what is known of
-- each call.
use Prim.Native.Nat.{ℕ, ◌+◌, ◌≤◌}
use native.Mathlib.Omega.{arith}
use mathlib.Core.Path.{◌≡◌, refl, sym, ap, ◌∙◌, subst}
use mathlib.Core.Bool.{Bool, true, false, cond}
use mathlib.Core.List.{List, [], ◌∷◌, ◌++◌, map, flat_map, append-nil, append_assoc, map-append, nil≢cons}
use mathlib.Core.Option.{some, some-injective, none-ne-some}
use lib.ListN.{length, drop}
use lib.Seq.{take-append_seam}
use lib.Ieee.{Float}
use Rattle.buffers.specs.Buffers.{over}
use Rattle.buffers.specs.Answer.{Op, pushed, taken, Reply, refused, waits, gives, refusal_in, Written, refusal_of, checked, answer_of, words_after, numbers_after, Unchanged, Ends, Refused}
use Rattle.buffers.specs.Run.{Run, emitted_by, accepted_by, step, run_from}
use Rattle.buffers.proofs.Running.{run_snoc}
use Rattle.fgo_spec.specs.Lists.{cons_if, keep}
use Rattle.fgo_spec.specs.Rule.{All}
use Rattle.fgo_spec.proofs.All.{All-left, All-right}
use Rattle.fgo_spec.proofs.Counting.{keep_append}
use Rattle.histories.specs.Calls.{Call, written_by, Calls, left, enough, operations, accepted, wrote, due_after, Served, Delivered}

-- ---- replies

-- a refusal is numbered 5 or above
abbrev pub Numbered : {E : Type 0} → Reply E → Type 0
Numbered (refused n) = 5 ≤ n
Numbered waits = Unit {0}
Numbered (gives e) = Unit {0}

-- what a call adds to the pushes and takes
abbrev pub more : {A : Type 0} → Bool → Op A → List (Op A)
more true o = o ∷ []
more false o = []

module _ {E : Type 0} (written : E → Written) where
  pub refused_of : (a : Reply E) (n : ℕ) → answer_of written a ≡ Refused n → a ≡ refused n
  refused_of (refused k) n e = ap refused (some-injective k n (ap refusal_of e))
  refused_of waits n e = absurd (none-ne-some n (ap refusal_of e))
  refused_of (gives g) n e = absurd (none-ne-some n (ap refusal_of e))

  number_is : (a : Reply E) → refusal_of (answer_of written a) ≡ refusal_in a
  number_is (refused n) = refl
  number_is waits = refl
  number_is (gives e) = refl

  -- what stands in the buffers is what was emitted
  written-due : (a : Reply E) (ws : List ℕ) (ns : List Float) → written_by (answer_of written a) (words_after written a ws) (numbers_after written a ns) ≡ map written (emitted_by a)
  unfolding over
  written-due (refused n) ws ns = refl
  written-due waits ws ns = refl
  written-due (gives e) ws ns =
      let w = (written e).words in
      let x = (written e).numbers in
      λ i. record { words = take-append_seam w (drop (0 + length w) ws) i; numbers = take-append_seam x (drop (0 + length x) ns) i } ∷ []

module _ {E S : Type 0} where
  -- 2 and 3 are not due, and 4 only where a buffer is short
  due-number : (b : Bool) (s : S) (a : Reply E × S) (n : ℕ) → Numbered a.0 → (checked (cond b 0 4) s a).0 ≡ refused n → (4 ≤ n) × (n ≡ 4 → b ≡ false)
  due-number true s a n h e = let z : 5 ≤ n = subst Numbered e h in (omega arith, λ q. absurd (omega arith))
  due-number false s a n h e = let z : 4 ≡ n = some-injective 4 n (ap refusal_in e) in (omega arith, λ q. refl)

  pub due-frame : (b : Bool) (s : S) (a : Reply E × S) (e : E) → (checked (cond b 0 4) s a).0 ≡ gives e → b ≡ true
  due-frame true s a e q = refl
  due-frame false s a e q = absurd (nil≢cons (ap emitted_by q))

-- ---- calls

module _ {A R M : Type 0} where
  pub operations-cons : (k : Call A R M) (ks : List (Call A R M)) → operations (k ∷ ks) ≡ more (enough k) k.sent ++ operations ks
  unfolding operations keep
  operations-cons k ks = go (enough k)
    where
      go : (b : Bool) → map (λ k. k.sent) (cons_if b k (keep enough ks)) ≡ more b k.sent ++ map (λ k. k.sent) (keep enough ks)
      go true = refl
      go false = refl

  pub operations-append : (ks fs : List (Call A R M)) → operations (ks ++ fs) ≡ operations ks ++ operations fs
  unfolding operations
  operations-append ks fs = ap (map (λ k. k.sent)) (keep_append enough ks fs) ∙ map-append (λ k. k.sent) (keep enough ks) (keep enough fs)

  pub left-append : (r : R) (m : M) (ks fs : List (Call A R M)) → left r m (ks ++ fs) ≡ left (left r m ks).0 (left r m ks).1 fs
  unfolding left
  left-append r m [] fs = refl
  left-append r m (k ∷ ks) fs = left-append k.value k.memory ks fs

  -- calls in two parts
  module _ (Keeps : R → M → Call A R M → Type 0) where
    pub calls_first : (r : R) (m : M) (ks fs : List (Call A R M)) → Calls Keeps r m (ks ++ fs) → Calls Keeps r m ks
    unfolding Calls
    calls_first r m [] fs h = tt
    calls_first r m (k ∷ ks) fs h = (h.0, calls_first k.value k.memory ks fs h.1)

    pub calls_then : (r : R) (m : M) (ks fs : List (Call A R M)) → Calls Keeps r m (ks ++ fs) → Calls Keeps (left r m ks).0 (left r m ks).1 fs
    unfolding Calls left
    calls_then r m [] fs h = h
    calls_then r m (k ∷ ks) fs h = calls_then k.value k.memory ks fs h.1

-- ---- calls from a start on

module _ {A F E S R M : Type 0} (frame : A → F) (reply : S → Op A → Reply E × S) (start : S) (written : E → Written) (state_of : R → M → S) where
  abbrev ran : List (Op A) → Run F E S
  ran ops = run_from frame reply start ops

  -- the reply to a call after the pushes and takes ops, and the state after it
  abbrev pub replies_to : List (Op A) → Bool → Op A → Reply E × S
  replies_to ops b o = let s = (ran ops).state in checked (cond b 0 4) s (reply s o)

  abbrev after : List (Op A) → Bool → Op A → Run F E S
  after ops b o =
      let r = ran ops in
      let a = replies_to ops b o in
      record {
        state = a.1;
        accepted = r.accepted ++ accepted_by frame o (refusal_in a.0);
        emitted = r.emitted ++ emitted_by a.0;
      }

  pub run_more : (ops : List (Op A)) (b : Bool) (o : Op A) → ran (ops ++ more b o) ≡ after ops b o
  unfolding step
  run_more ops true o = run_snoc frame reply start ops o
  run_more ops false o =
      ap ran (append-nil ops) ∙ (λ i. record { state = (ran ops).state; accepted = none_more o i; emitted = sym (append-nil (ran ops).emitted) i })
    where
      none_more : (o : Op A) → (ran ops).accepted ≡ (ran ops).accepted ++ accepted_by frame o (some 4)
      none_more (pushed a) = sym (append-nil (ran ops).accepted)
      none_more taken = sym (append-nil (ran ops).accepted)

  -- What is known of calls that keep to a contract, and of which Ok holds: after the pushes and takes ops a value and
  -- its memory are such that At holds. They mean the state then, and so does the memory that is lent; a call ends as it
  -- should, and goes on to such a value and memory; a frame has room; and refusals are numbered 5 or above.
  pub record Known (Keeps : R → M → Call A R M → Type 0) (Ok : Call A R M → Type 0) (At : List (Op A) → R → M → Type 0) : Type 0 where
    pub state : (ops : List (Op A)) (r : R) (m : M) → At ops r m → state_of r m ≡ (ran ops).state
    pub given : (ops : List (Op A)) (r : R) (m : M) → At ops r m → (k : Call A R M) → Keeps r m k → state_of r k.lent ≡ (ran ops).state
    pub ends :
        (ops : List (Op A)) (r : R) (m : M) → At ops r m → (k : Call A R M) → Ok k → Keeps r m k →
        Ends written state_of (replies_to ops (enough k) k.sent) r k.lent k.words k.numbers k.answer k.value k.memory k.words_back k.numbers_back
    pub next :
        (ops : List (Op A)) (r : R) (m : M) → At ops r m → (k : Call A R M) → Ok k → Keeps r m k →
        At (ops ++ more (enough k) k.sent) k.value k.memory
    pub room :
        (ops : List (Op A)) (r : R) (m : M) → At ops r m → (k : Call A R M) → Ok k → Keeps r m k →
        (length k.words_back ≡ length k.words) × (length k.numbers_back ≡ length k.numbers)
    pub numbered : (ops : List (Op A)) (r : R) (m : M) → At ops r m → (o : Op A) → Numbered (reply (ran ops).state o).0

  module _ {Keeps : R → M → Call A R M → Type 0} {Ok : Call A R M → Type 0} {At : List (Op A) → R → M → Type 0} (z : Known Keeps Ok At) where
    -- ---- one call

    module _ (ops : List (Op A)) (r : R) (m : M) (a : At ops r m) (k : Call A R M) (h : Ok k) (e : Keeps r m k) where
      abbrev due : Reply E
      due = due_after frame reply start written state_of ops k

      said : k.answer ≡ answer_of written due
      said = (z.ends ops r m a k h e).answered

      refused-at : (n : ℕ) → k.answer ≡ Refused n → due ≡ refused n
      refused-at n q = refused_of written due n (sym said ∙ q)

      number_at : (n : ℕ) → k.answer ≡ Refused n → (4 ≤ n) × (n ≡ 4 → enough k ≡ false)
      number_at n q =
          due-number (enough k) (ran ops).state (reply (ran ops).state k.sent) n (z.numbered ops r m a k.sent) (refused-at n q)

      pub served : Served frame reply start written state_of ops r k
      served =
          let d = z.ends ops r m a k h e in
          record {
            answer = said;
            words = d.words;
            numbers = d.numbers;
            room = z.room ops r m a k h e;
            sound = (λ q. let y = (number_at 2 q).0 in omega arith, λ q. let y = (number_at 3 q).0 in omega arith);
            short = (λ q. said ∙ ap (λ b. answer_of written (replies_to ops b k.sent).0) q, λ q. (number_at 4 q).1 refl);
            refusals =
                λ n q.
                let g = refused-at n q in
                let u : Unchanged {E = E} (refused n) r k.lent k.value k.memory = subst (λ x. Unchanged x r k.lent k.value k.memory) g d.unchanged in
                (u.0, u.1, d.words ∙ ap (λ x. words_after written x k.words) g, d.numbers ∙ ap (λ x. numbers_after written x k.numbers) g);
          }

      -- what stands in the buffers
      pub written_one : written_by k.answer k.words_back k.numbers_back ≡ map written (emitted_by due)
      written_one =
          let d = z.ends ops r m a k h e in
          (λ i. written_by (said i) (d.words i) (d.numbers i)) ∙ written-due written due k.words k.numbers

      accepted-one : accepted_by frame k.sent (refusal_of k.answer) ≡ accepted_by frame k.sent (refusal_in due)
      accepted-one = ap (accepted_by frame k.sent) (ap refusal_of said ∙ number_is written due)

    -- ---- all of them

    pub reached :
        (ks : List (Call A R M)) (ops : List (Op A)) (r : R) (m : M) → At ops r m → All Ok ks → Calls Keeps r m ks →
        At (ops ++ operations ks) (left r m ks).0 (left r m ks).1
    unfolding operations keep left Calls
    reached [] ops r m a h cs = subst (λ l. At l r m) (sym (append-nil ops)) a
    reached (k ∷ ks) ops r m a h cs =
        subst (λ l. At l (left k.value k.memory ks).0 (left k.value k.memory ks).1)
        (append_assoc ops (more (enough k) k.sent) (operations ks) ∙ ap (λ l. ops ++ l) (sym (operations-cons k ks)))
        (reached ks (ops ++ more (enough k) k.sent) k.value k.memory (z.next ops r m a k h.0 cs.0) h.1 cs.1)

    -- what each call adds to a part of the run, all of them add in order
    module _ {X : Type 0} (part : Run F E S → List X) (adds : Call A R M → List X)
        (one : (ops : List (Op A)) (r : R) (m : M) (k : Call A R M) → At ops r m → Ok k → Keeps r m k →
        part (ran (ops ++ more (enough k) k.sent)) ≡ part (ran ops) ++ adds k) where
      added :
          (ks : List (Call A R M)) (ops : List (Op A)) (r : R) (m : M) → At ops r m → All Ok ks → Calls Keeps r m ks →
          part (ran (ops ++ operations ks)) ≡ part (ran ops) ++ flat_map adds ks
      unfolding operations keep Calls flat_map
      added [] ops r m a h cs = ap (λ l. part (ran l)) (append-nil ops) ∙ sym (append-nil (part (ran ops)))
      added (k ∷ ks) ops r m a h cs =
          ap (λ l. part (ran l)) (ap (λ l. ops ++ l) (operations-cons k ks) ∙ sym (append_assoc ops (more (enough k) k.sent) (operations ks)))
          ∙ added ks (ops ++ more (enough k) k.sent) k.value k.memory (z.next ops r m a k h.0 cs.0) h.1 cs.1
          ∙ ap (λ l. l ++ flat_map adds ks) (one ops r m k a h.0 cs.0)
          ∙ append_assoc (part (ran ops)) (adds k) (flat_map adds ks)

    module _ (ks : List (Call A R M)) (ops : List (Op A)) (r : R) (m : M) (a : At ops r m) (h : All Ok ks) (cs : Calls Keeps r m ks) where
      frames-added : map written (ran (ops ++ operations ks)).emitted ≡ map written (ran ops).emitted ++ wrote ks
      unfolding wrote
      frames-added =
          added (λ r. map written r.emitted) (λ k. written_by k.answer k.words_back k.numbers_back)
          (λ ops r m k a h e.
          ap (λ r. map written r.emitted) (run_more ops (enough k) k.sent)
          ∙ map-append written (ran ops).emitted _
          ∙ ap (λ l. map written (ran ops).emitted ++ l) (sym (written_one ops r m a k h e)))
          ks ops r m a h cs

      accepted-added : (ran (ops ++ operations ks)).accepted ≡ (ran ops).accepted ++ accepted frame ks
      unfolding accepted
      accepted-added =
          added (λ r. r.accepted) (λ k. accepted_by frame k.sent (refusal_of k.answer))
          (λ ops r m k a h e.
          ap (λ r. r.accepted) (run_more ops (enough k) k.sent)
          ∙ ap (λ l. (ran ops).accepted ++ l) (sym (accepted-one ops r m a k h e)))
          ks ops r m a h cs

    -- ---- the theorem

    module _ (r : R) (m : M) (a : At [] r m) where
      -- after the first of some calls
      pub at_first : (ks fs : List (Call A R M)) → All Ok (ks ++ fs) → Calls Keeps r m (ks ++ fs) → At (operations ks) (left r m ks).0 (left r m ks).1
      at_first ks fs h cs = reached ks [] r m a (All-left Ok ks fs h) (calls_first Keeps r m ks fs cs)

      served-at :
          (ks past : List (Call A R M)) (k : Call A R M) (later : List (Call A R M)) → All Ok ks → Calls Keeps r m ks → ks ≡ past ++ (k ∷ later) →
          Served frame reply start written state_of (operations past) (left r m past).0 k
      unfolding Calls
      served-at ks past k later h cs e =
          let h' = subst (All Ok) e h in
          let cs' = subst (Calls Keeps r m) e cs in
          served (operations past) (left r m past).0 (left r m past).1 (at_first past (k ∷ later) h' cs') k (All-right Ok past (k ∷ later) h').0
          (calls_then Keeps r m past (k ∷ later) cs').0

      pub delivered : (ks : List (Call A R M)) → All Ok ks → Calls Keeps r m ks → Delivered frame reply start written state_of r m ks
      unfolding run_from
      delivered ks h cs =
          record {
            every = λ past k later e. served-at ks past k later h cs e;
            frames = sym (frames-added ks [] r m a h cs);
            taken_in = sym (accepted-added ks [] r m a h cs);
            state = z.state (operations ks) (left r m ks).0 (left r m ks).1 (reached ks [] r m a h cs);
          }
