-- Demand 3 as one who calls a refiner sees it. Assumes nothing but that each call is as the contracts of push and take
-- say.
use Prim.Native.Nat.{ℕ, ◌+◌, ◌≤◌}
use native.Mathlib.Omega.{arith}
use mathlib.Core.Path.{◌≡◌, refl, sym, ap, ◌∙◌, subst}
use mathlib.Core.Bool.{Bool, true, false, cond, and-eq-true_iff}
use mathlib.Core.List.{List, [], ◌∷◌, ◌++◌}
use lib.ListN.{length}
use lib.Dec.{leb, eqb}
use borrow.Author.Tests.{leb-true}
use Rattle.bounds.specs.Bounds.{WORDS, NUMBERS}
use Rattle.buffers.specs.Answer.{Op, Reply, refused, waits, gives, roomy, checked, words_after, numbers_after, Small, Ends}
use Rattle.buffers.specs.Run.{emitted_by, run_from}
use Rattle.buffers.proofs.Over.{length_over}
use Rattle.engine.specs.declared.config.FgoConfig.{FgoConfig}
use Rattle.engine.specs.Config.{legal}
use Rattle.engine.specs.Body.{Body, all, frame_in, body_refusal, rows}
use Rattle.engine.proofs.Every.{both, all-at, all_true}
use Rattle.fgo_spec.specs.Windows.{Scan}
use Rattle.fgo_spec.specs.Emitting.{Emitted, words_of, numbers_of, written}
use Rattle.fgo_spec.specs.Refiner.{new, reply}
use Rattle.fgo_spec.specs.Rule.{All, rule_ok}
use Rattle.fgo_spec.specs.History.{run, settled, Sent, Told}
use Rattle.fgo_spec.proofs.All.{All-append, All-right}
use Rattle.fgo_spec.proofs.RuleLaw.{rule_ok_lem}
use Rattle.fgo_spec.proofs.HistoryLaw.{history}
use Rattle.fgo_state.specs.declared.state.FixedLagRefiner.{FixedLagRefiner}
use Rattle.fgo_state.specs.declared.state.Memory.{Memory}
use Rattle.fgo_state.specs.Memory.{body_at, state_of}
use Rattle.fgo_state.specs.Sound.{bodies_ok, sound_ok}
use Rattle.fgo.specs.Promise.{new_by, later_refusal, due}
use Rattle.fgo.proofs.Opening.{opened_new}
use Rattle.histories.specs.Calls.{Calls, left, enough, operations}
use Rattle.histories.specs.Refined.{Call, Meets, Same, Keeps, Reached, Session, due_next, Delivered}
use Rattle.histories.proofs.Numbered.{numbered}
use Rattle.histories.proofs.CallsLaw as calls
use Rattle.histories.proofs.CallsLaw.{more, due-frame, run_more, replies_to, Known}

long_enough : (words numbers : ℕ) → roomy words numbers ≡ true → (WORDS ≤ words) × (NUMBERS ≤ numbers)
long_enough words numbers h = let k = both (leb WORDS words) (leb NUMBERS numbers) h in (leb-true _ _ k.0, leb-true _ _ k.1)

sent_more : (b : Bool) (o : Op Body) → Sent o → All Sent (more b o)
sent_more true o h = (h, tt)
sent_more false o h = tt

module _ (c : FgoConfig) where
  -- memory that stands for the same will do
  pub lent_at : (ops : List (Op Body)) (r : FixedLagRefiner) (m : Memory) → Reached c ops r m → (m' : Memory) → Same r m m' → Reached c ops r m'
  unfolding bodies_ok
  lent_at ops r m a m' s =
      record {
        settings = a.settings;
        state = s.state ∙ a.state;
        bodies =
            all_true _ r.held
            (λ i l. ap (λ (b : Body). eqb (body_refusal b) 0) (s.bodies i l) ∙ all-at (λ i. eqb (body_refusal (body_at m.scans.bodies m.scans.columns (r.first.0 + i))) 0) r.held i a.bodies l);
        bytes = a.bytes;
      }

  module _ (ok : legal c ≡ true) where
    pub sound-at : (ops : List (Op Body)) (r : FixedLagRefiner) (m : Memory) → Reached c ops r m → sound_ok r m ≡ true
    unfolding sound_ok
    sound-at ops r m a =
        (and-eq-true_iff _ _).1 (a.bodies, (λ i. rule_ok (a.settings i) (a.state i)) ∙ (rule_ok_lem c (run c ops).state ((history c ops).ruled ok a.bytes)).0)

    module _ (ops : List (Op Body)) (r : FixedLagRefiner) (m : Memory) (a : Reached c ops r m) (k : Call) (h : Sent k.sent) (e : Meets r m k) where
      abbrev replied : Reply Emitted
      replied = due_next c ops k

      due_is : due r m k.sent k.words k.numbers ≡ replies_to frame_in (reply c) new written state_of ops (enough k) k.sent
      unfolding due later_refusal
      due_is = λ i. checked (cond (sound-at ops r m a i) (cond (enough k) 0 4) 3) (a.state i) (reply (a.settings i) (a.state i) k.sent)

      ends :
          Ends written state_of (replies_to frame_in (reply c) new written state_of ops (enough k) k.sent) r m k.words k.numbers k.answer k.value k.memory
          k.words_back k.numbers_back
      ends = subst (λ x. Ends written state_of x r m k.words k.numbers k.answer k.value k.memory k.words_back k.numbers_back) due_is e.ends

      bytes-more : All Sent (ops ++ more (enough k) k.sent)
      bytes-more = All-append Sent ops (more (enough k) k.sent) a.bytes (sent_more (enough k) k.sent h)

      -- a frame that is given is the last one emitted
      module _ (g : Emitted) (q : replied ≡ gives g) where
        last_one : (run c (ops ++ more (enough k) k.sent)).emitted ≡ (run c ops).emitted ++ (g ∷ [])
        last_one = ap (λ r. r.emitted) (run_more frame_in (reply c) new written state_of ops (enough k) k.sent) ∙ ap (λ x. (run c ops).emitted ++ emitted_by x) q

        long : enough k ≡ true
        long = due-frame (enough k) (run c ops).state (reply c (run c ops).state k.sent) g q

        pub told-one : Told c (run c ops).emitted g
        told-one = (history c (ops ++ more (enough k) k.sent)).every (run c ops).emitted g [] last_one

        pub searched-one : (rest : List Scan) × (settled c (run c ops).state k.sent ≡ g.scan ∷ rest)
        searched-one =
            (history c ops).as_searched k.sent g
            (subst (λ b. (run c (ops ++ more b k.sent)).emitted ≡ (run c ops).emitted ++ (g ∷ [])) long last_one)

      rooms : (x : Reply Emitted) → replied ≡ x → (length k.words_back ≡ length k.words) × (length k.numbers_back ≡ length k.numbers)
      rooms x q =
          let s = go x q in (
            ap length (ends.words ∙ ap (λ x. words_after written x k.words) q) ∙ s.0,
            ap length (ends.numbers ∙ ap (λ x. numbers_after written x k.numbers) q) ∙ s.1,
          )
        where
          go : (x : Reply Emitted) → replied ≡ x → (length (words_after written x k.words) ≡ length k.words) × (length (numbers_after written x k.numbers) ≡ length k.numbers)
          go (refused n) q = (refl, refl)
          go waits q = (refl, refl)
          go (gives g) q =
              let l = long_enough (length k.words) (length k.numbers) (long g q) in
              let s = subst (Small written) q ends.small in
              (length_over 0 (words_of g) k.words (omega (arith, l.0, s.0)), length_over 0 (numbers_of g) k.numbers (omega (arith, l.1, s.1)))

      at_next : Reached c (ops ++ more (enough k) k.sent) k.value k.memory
      at_next =
          record {
            settings = e.settings ∙ a.settings;
            state = ends.state ∙ sym (ap (λ r. r.state) (run_more frame_in (reply c) new written state_of ops (enough k) k.sent));
            bodies = e.bodies a.bodies;
            bytes = bytes-more;
          }

    pub known : Known frame_in (reply c) new written state_of Keeps (λ k. Sent k.sent) (Reached c)
    known =
        record {
          state = λ ops r m a. a.state;
          given = λ ops r m a k e. (lent_at ops r m a k.lent e.0).state;
          ends = λ ops r m a k h e. ends ops r k.lent (lent_at ops r m a k.lent e.0) k h e.1;
          next = λ ops r m a k h e. at_next ops r k.lent (lent_at ops r m a k.lent e.0) k h e.1;
          room = λ ops r m a k h e. rooms ops r k.lent (lent_at ops r m a k.lent e.0) k h e.1 (due_next c ops k) refl;
          numbered = λ ops r m a o. numbered c (run c ops).state o;
        }

-- ---- from an opened refiner

pub at_new : (c : FgoConfig) (m : Memory) → Reached c [] (new_by c) m
unfolding state_of bodies_ok all rows run_from
at_new c m = record { settings = refl; state = refl; bodies = refl; bytes = tt }

module _ (c : FgoConfig) (r : FixedLagRefiner) (m : Memory) where
  pub is_legal : (ks : List Call) → Session c r m ks → legal c ≡ true
  is_legal ks s = (opened_new c r s.opening).0

  pub at_opened : (ks : List Call) → Session c r m ks → Reached c [] r m
  at_opened ks s = subst (λ r. Reached c [] r m) (opened_new c r s.opening).1 (at_new c m)

  -- after all the calls, and after the first of them
  pub at_last : (ks : List Call) → Session c r m ks → Reached c (operations ks) (left r m ks).0 (left r m ks).1
  at_last ks s = calls.reached frame_in (reply c) new written state_of (known c (is_legal ks s)) ks [] r m (at_opened ks s) s.bytes s.calls

  pub at_first : (ks fs : List Call) → Session c r m (ks ++ fs) → Reached c (operations ks) (left r m ks).0 (left r m ks).1
  at_first ks fs s =
      calls.at_first frame_in (reply c) new written state_of (known c (is_legal (ks ++ fs) s)) r m (at_opened (ks ++ fs) s) ks fs s.bytes s.calls

  -- a call among them
  module _ (ks past : List Call) (k : Call) (later : List Call) (s : Session c r m ks) (p : ks ≡ past ++ (k ∷ later)) where
    abbrev split : Session c r m (past ++ (k ∷ later))
    split = subst (Session c r m) p s

    one : Reached c (operations past) (left r m past).0 k.lent × Sent k.sent × Meets (left r m past).0 k.lent k
    unfolding Calls
    one =
        let q = (calls.calls_then Keeps r m past (k ∷ later) split.calls).0 in (
          lent_at c (operations past) (left r m past).0 (left r m past).1 (at_first past (k ∷ later) split) k.lent q.0,
          (All-right (λ k. Sent k.sent) past (k ∷ later) split.bytes).0,
          q.1,
        )

  -- ---- the theorem

  pub delivered : (ks : List Call) → Session c r m ks → Delivered c r m ks
  delivered ks s =
      let ok = is_legal ks s in
      record {
        delivered = calls.delivered frame_in (reply c) new written state_of (known c ok) r m (at_opened ks s) ks s.bytes s.calls;
        told = λ past k later p e q. let o = one ks past k later s p in told-one c ok (operations past) (left r m past).0 k.lent o.0 k o.1 o.2 e q;
        searched = λ past k later p e q. let o = one ks past k later s p in searched-one c ok (operations past) (left r m past).0 k.lent o.0 k o.1 o.2 e q;
        history = history c (operations ks);
        ruled = sound-at c ok (operations ks) (left r m ks).0 (left r m ks).1 (at_last ks s);
      }
