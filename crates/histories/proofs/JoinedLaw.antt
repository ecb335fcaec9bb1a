-- Demand 3 as one sees it who calls a smoother, and a refiner before it. Assumes nothing but that each call is as the
-- contracts of push and take say.
use Prim.Native.Nat.{ℕ}
use native.Mathlib.Omega.{arith}
use mathlib.Core.Path.{◌≡◌, refl, sym, ap, ◌∙◌, subst}
use mathlib.Core.Bool.{Bool, true, false, true≢false, cond, ◌&&◌}
use mathlib.Core.List.{List, [], ◌∷◌, ◌++◌, map, append_assoc, nil≢cons, head-eq_of_cons-eq}
use mathlib.Core.Option.{some-injective, none-ne-some}
use lib.ListN.{length, length-append}
use lib.Dec.{ltb}
use borrow.Author.Tests.{le-leb}
use Rattle.bounds.specs.Bounds.{TRACKS}
use Rattle.buffers.specs.Answer.{Op, pushed, taken, Reply, refused, waits, gives, refusal_in, Written, roomy, checked, Ends, Refused}
use Rattle.buffers.specs.Run.{emitted_by, run_from}
use Rattle.buffers.proofs.Checking.{open_passed}
use Rattle.engine.specs.declared.config.FgoConfig.{FgoConfig}
use Rattle.engine.specs.Body.{Body}
use Rattle.engine.proofs.Every.{both as each}
use Rattle.fgo_spec.specs.Emitting.{written}
use Rattle.fgo_spec.specs.Lists.{keep}
use Rattle.fgo_spec.specs.Rule.{All}
use Rattle.fgo_spec.specs.History.{Sent, run}
use Rattle.fgo_spec.proofs.All.{mem_All}
use Rattle.fgo_state.specs.declared.state.FixedLagRefiner.{FixedLagRefiner}
use Rattle.fgo_state.specs.declared.state.Memory.{Memory}
use Rattle.scalar.specs.Scalar.{finite}
use Rattle.smoother_frame.specs.Frame.{well_formed}
use Rattle.smoother_window.specs.declared.FixedLagSmoother.{FixedLagSmoother}
use Rattle.smoother_window.specs.declared.SmootherConfig.{SmootherConfig}
use Rattle.smoother_window.specs.Config.{lag, density, most, bounded, legal}
use Rattle.smoother.specs.Smoother.{State, new, window_fits, open_refusal, rule_ok, opens, held, settle, settle_by, emit_oldest, push_by, push, takes, reply}
use Rattle.smoother.specs.Promise.{Window, state_in, later_refusal, due}
use Rattle.histories.specs.Calls.{Calls, written_by, left, enough, operations, accepted, wrote, due_after}
use Rattle.histories.specs.Refined as refiner
use Rattle.histories.specs.Smoothed.{smoothing, handed, sourced, picked, Smoothed}
use Rattle.histories.specs.Joined.{Call, Meets, Same, Keeps, Reached, Session, Delivered, InOrder, Joined}
use Rattle.histories.proofs.CallsLaw as calls
use Rattle.histories.proofs.CallsLaw.{Numbered, more, refused_of, due-frame, operations-cons, operations-append, run_more, replies_to, Known}
use Rattle.histories.proofs.SmootherRun.{ran}
use Rattle.histories.proofs.RefinedLaw as refined
use Rattle.histories.proofs.Parts.{around}
use Rattle.histories.proofs.SmoothedLaw.{picked-map, sourced-frames, passes, both}

-- ---- why a push or a take is refused

-- a frame more is held, or the oldest one leaves
settle_serves : (s : State) (f : Written) (n : ℕ) → (settle (held s f)).0 ≡ refused n → ⊥
unfolding settle emit_oldest
settle_serves s f n = settles (ltb (lag s.config) (length (s.frames ++ (f ∷ []))))
  where
    u : State
    u = held s f

    oldest : (l : List Written) → u.frames ≡ l → (emit_oldest u l).0 ≡ refused n → ⊥
    oldest [] p e = omega (arith, ap length p, length-append s.frames (f ∷ []))
    oldest (g ∷ gs) p e = none-ne-some n (ap refusal_in e)

    settles : (t : Bool) → (settle_by t u).0 ≡ refused n → ⊥
    settles true e = oldest u.frames refl e
    settles false e = none-ne-some n (ap refusal_in e)

push_serves : (s : State) (f : Written) (n : ℕ) → (push s f).0 ≡ refused n → (n ≡ 5) × (well_formed (most s.config) f ≡ false)
unfolding push
push_serves s f n = go (well_formed (most s.config) f)
  where
    go : (w : Bool) → (push_by w s f).0 ≡ refused n → (n ≡ 5) × (w ≡ false)
    go true y = absurd (settle_serves s f n y)
    go false y = (sym (some-injective 5 n (ap refusal_in y)), refl)

take_serves : (s : State) (n : ℕ) → (takes s).0 ≡ refused n → (n ≡ 13) × (s.frames ≡ [])
unfolding takes emit_oldest
take_serves s n = go s.frames
  where
    go : (l : List Written) → (emit_oldest s l).0 ≡ refused n → (n ≡ 13) × (l ≡ [])
    go [] e = (sym (some-injective 13 n (ap refusal_in e)), refl)
    go (f ∷ fs) e = absurd (none-ne-some n (ap refusal_in e))

numbered : (s : State) (o : Op Written) → Numbered (reply s o).0
numbered s o = go o (reply s o).0 refl
  where
    go : (o : Op Written) (a : Reply Written) → (reply s o).0 ≡ a → Numbered a
    go (pushed f) (refused n) e = let z = (push_serves s f n e).0 in omega arith
    go taken (refused n) e = let z = (take_serves s n e).0 in omega arith
    go o waits e = tt
    go o (gives g) e = tt

-- ---- where calls have led to

module _ (d : SmootherConfig) where
  -- a window that stands for the same will do
  pub lent_at : (ops : List (Op Written)) (s : FixedLagSmoother) (w : Window) → Reached d ops s w → (w' : Window) → Same s w w' → Reached d ops s w'
  lent_at ops s w a w' e = record { state = e.state ∙ a.state; fits = (λ i. window_fits d (e.words i) (e.numbers i)) ∙ a.fits }

  module _ (ok : legal d ≡ true) where
    -- the state keeps its rule
    ruled : (ops : List (Op Written)) → rule_ok (smoothing d ops).state ≡ true
    unfolding rule_ok legal
    ruled ops =
        let i = (ran d ops).kept in
        ap rule_ok (ran d ops).same
        ∙ rw ((each (bounded d) (finite (density d)) ok).1, le-leb (length (smoothing d ops).state.frames) (lag d) i.lagged, i.formed)

    module _ (ops : List (Op Written)) (s : FixedLagSmoother) (w : Window) (a : Reached d ops s w) where
      pub settings : s.config ≡ d
      unfolding state_in
      settings = ap (λ t. t.config) (a.state ∙ (ran d ops).same)

      -- none of 2 and 3 refuses a call
      later : (words numbers : ℕ) → later_refusal s w words numbers ≡ cond (roomy words numbers) 0 4
      unfolding later_refusal legal
      later words numbers =
          (λ i.
          cond (bounded (settings i) && window_fits (settings i) (length w.words) (length w.numbers))
          (cond (rule_ok (a.state i)) (cond (roomy words numbers) 0 4) 3) 2)
          ∙ rw ((each (bounded d) (finite (density d)) ok).0, a.fits, ruled ops)

      module _ (k : Call) (e : Meets s w k) where
        due_is : due s w k.sent k.words k.numbers ≡ replies_to (λ f. f) reply (new d) (λ f. f) state_in ops (enough k) k.sent
        unfolding due
        due_is = λ i. checked (later (length k.words) (length k.numbers) i) (a.state i) (reply (a.state i) k.sent)

        ends :
            Ends (λ f. f) state_in (replies_to (λ f. f) reply (new d) (λ f. f) state_in ops (enough k) k.sent) s w k.words k.numbers k.answer k.value
            k.memory k.words_back k.numbers_back
        ends =
            subst (λ x. Ends (λ f. f) state_in x s w k.words k.numbers k.answer k.value k.memory k.words_back k.numbers_back) due_is e.ends

        at_next : Reached d (ops ++ more (enough k) k.sent) k.value k.memory
        at_next =
            record {
              state = ends.state ∙ sym (ap (λ r. r.state) (run_more (λ f. f) reply (new d) (λ f. f) state_in ops (enough k) k.sent));
              fits = (λ i. window_fits d (e.window_words i) (e.window_numbers i)) ∙ a.fits;
            }

        -- where the buffers are long enough, a refusal is the smoother's own
        own : enough k ≡ true → (o : Op Written) → k.sent ≡ o → (n : ℕ) → k.answer ≡ Refused n → (reply (smoothing d ops).state o).0 ≡ refused n
        own v o p n q =
            let t = (smoothing d ops).state in
            (λ i. (checked (cond (sym v i) 0 4) t (reply t (sym p i))).0)
            ∙ refused_of (λ f. f) (due_after (λ f. f) reply (new d) (λ f. f) state_in ops k) n (sym ends.answered ∙ q)

    pub known : Known (λ f. f) reply (new d) (λ f. f) state_in Keeps (λ k. Unit {0}) (Reached d)
    known =
        record {
          state = λ ops s w a. a.state;
          given = λ ops s w a k e. (lent_at ops s w a k.lent e.0).state;
          ends = λ ops s w a k u e. ends ops s k.lent (lent_at ops s w a k.lent e.0) k e.1;
          next = λ ops s w a k u e. at_next ops s k.lent (lent_at ops s w a k.lent e.0) k e.1;
          room = λ ops s w a k u e. (e.1.words, e.1.numbers);
          numbered = λ ops s w a o. numbered (smoothing d ops).state o;
        }

-- ---- from an opened smoother

-- what opening leaves
opening_of_lem : (a b : Bool) → ◌≡◌ {A = ℕ} (cond a (cond b 0 2) 1) 0 → (a ≡ true) × (b ≡ true)
opening_of_lem true true e = (refl, refl)
opening_of_lem true false e = absurd (omega arith)
opening_of_lem false b e = absurd (omega arith)

module _ (d : SmootherConfig) (s : FixedLagSmoother) (w : Window) where
  module _ (ks : List Call) (h : Session d s w ks) where
    new-at : (open_refusal d (length w.words) (length w.numbers) ≡ 0) × (state_in s w ≡ new d)
    unfolding opens
    new-at =
        let p = open_passed (open_refusal d (length w.words) (length w.numbers)) (new d) (state_in s w) (sym h.opening) in
        (p.0, sym p.1)

    pub fine : (legal d ≡ true) × (window_fits d (length w.words) (length w.numbers) ≡ true)
    unfolding open_refusal
    fine = opening_of_lem (legal d) (window_fits d (length w.words) (length w.numbers)) new-at.0

    pub at_opened : Reached d [] s w
    unfolding run_from
    at_opened = record { state = new-at.1; fits = fine.1 }

    pub all_fine : (ks : List Call) → All (λ k. Unit {0}) ks
    all_fine ks = mem_All (λ k. Unit {0}) ks (λ k m. tt)

    -- after the first of some calls
    pub at_first : (past fs : List Call) → ks ≡ past ++ fs → Reached d (operations past) (left s w past).0 (left s w past).1
    at_first past fs e =
        calls.at_first (λ f. f) reply (new d) (λ f. f) state_in (known d fine.0) s w at_opened past fs (all_fine (past ++ fs)) (subst (Calls Keeps s w) e h.calls)

    keeps-at : (past : List Call) (k : Call) (later : List Call) → ks ≡ past ++ (k ∷ later) → Keeps (left s w past).0 (left s w past).1 k
    unfolding Calls
    keeps-at past k later e = (calls.calls_then Keeps s w past (k ∷ later) (subst (Calls Keeps s w) e h.calls)).0

    own_at :
        (past : List Call) (k : Call) (later : List Call) → ks ≡ past ++ (k ∷ later) → enough k ≡ true → (o : Op Written) → k.sent ≡ o → (n : ℕ) →
        k.answer ≡ Refused n → (reply (smoothing d (operations past)).state o).0 ≡ refused n
    own_at past k later e =
        let q = keeps-at past k later e in
        own d fine.0 (operations past) (left s w past).0 k.lent
        (lent_at d (operations past) (left s w past).0 (left s w past).1 (at_first past (k ∷ later) e) k.lent q.0) k q.1

  -- the window keeps its lengths
  sizes-left :
      (ks : List Call) (s : FixedLagSmoother) (w : Window) → Calls Keeps s w ks →
      let l = (left s w ks).1 in (length l.words ≡ length w.words) × (length l.numbers ≡ length w.numbers)
  unfolding Calls left
  sizes-left [] s w cs = (refl, refl)
  sizes-left (k ∷ ks) s w cs =
      let z = sizes-left ks k.value k.memory cs.1 in
      (z.0 ∙ cs.0.1.window_words ∙ cs.0.0.words, z.1 ∙ cs.0.1.window_numbers ∙ cs.0.0.numbers)

  -- ---- the theorem

  pub delivered : (ks : List Call) → Session d s w ks → Delivered d s w ks
  delivered ks h =
      record {
        delivered =
            calls.delivered (λ f. f) reply (new d) (λ f. f) state_in (known d (fine ks h).0) s w (at_opened ks h) ks (all_fine ks h ks) h.calls;
        window = sizes-left ks s w h.calls;
        pushes =
            λ past k later e v f o n q.
            let z = push_serves (smoothing d (operations past)).state f n (own_at ks h past k later e v (pushed f) o n q) in
            (z.0, ap (λ t. well_formed (most t.config) f) (sym (ran d (operations past)).same) ∙ z.1);
        takes = λ past k later e v o n q. take_serves (smoothing d (operations past)).state n (own_at ks h past k later e v taken o n q);
      }

  -- ---- a call that writes a frame

  pub ids : (l : List Written) → map (λ f. f) l ≡ l
  ids [] = refl
  ids (f ∷ l) = ap (λ m. f ∷ m) (ids l)

  gives_of : (a : Reply Written) (o : Written) → emitted_by a ≡ o ∷ [] → a ≡ gives o
  gives_of (refused n) o e = absurd (nil≢cons e)
  gives_of waits o e = absurd (nil≢cons e)
  gives_of (gives f) o e = ap gives (head-eq_of_cons-eq e)

  -- the pushes and takes with it, and the frames accepted and written by then
  pub record One (js past : List Call) (k : Call) (later : List Call) (o : Written) : Type 0 where
    pub split : operations js ≡ operations past ++ (k.sent ∷ operations later)
    pub grown : (smoothing d (operations past ++ (k.sent ∷ []))).emitted ≡ (smoothing d (operations past)).emitted ++ (o ∷ [])
    pub by_then : (smoothing d (operations past ++ (k.sent ∷ []))).accepted ≡ accepted (λ f. f) (past ++ (k ∷ []))
    pub number : length (smoothing d (operations past)).emitted ≡ length (wrote past)

  module _ (js : List Call) (h : Session d s w js) where
    part : (past fs : List Call) → js ≡ past ++ fs → Session d s w past
    part past fs x = record { opening = h.opening; calls = calls.calls_first Keeps s w past fs (subst (Calls Keeps s w) x h.calls) }

    pub one_more_lem :
        (past : List Call) (k : Call) (later : List Call) → js ≡ past ++ (k ∷ later) → (o : Written) →
        written_by k.answer k.words_back k.numbers_back ≡ o ∷ [] → One js past k later o
    unfolding operations keep
    one_more_lem past k later x o q =
        let ops = operations past in
        let t = (smoothing d ops).state in
        let a = due_after (λ f. f) reply (new d) (λ f. f) state_in ops k in
        let Wrote-one = calls.written_one (λ f. f) reply (new d) (λ f. f) state_in (known d (fine js h).0) ops (left s w past).0 (left s w past).1
        (at_first js h past (k ∷ later) x) k tt (keeps-at js h past k later x) in
        let out : emitted_by a ≡ o ∷ [] = sym (ids (emitted_by a)) ∙ sym Wrote-one ∙ q in
        let v : enough k ≡ true = due-frame (enough k) t (reply t k.sent) o (gives_of a o out) in
        let with_it : operations (past ++ (k ∷ [])) ≡ ops ++ (k.sent ∷ []) =
        operations-append past (k ∷ []) ∙ ap (λ l. ops ++ l) (operations-cons k [] ∙ ap (λ b. more b k.sent ++ []) v) in
        let z = delivered past (part past (k ∷ later) x) in
        let y = delivered (past ++ (k ∷ [])) (part (past ++ (k ∷ [])) later (x ∙ sym (append_assoc past (k ∷ []) later))) in
        record {
          split = ap operations x ∙ operations-append past (k ∷ later) ∙ ap (λ l. ops ++ l) (operations-cons k later ∙ ap (λ b. more b k.sent ++ operations later) v);
          grown =
              subst (λ b. (smoothing d (ops ++ more b k.sent)).emitted ≡ (smoothing d ops).emitted ++ (o ∷ [])) v
              (ap (λ r. r.emitted) (run_more (λ f. f) reply (new d) (λ f. f) state_in ops (enough k) k.sent) ∙ ap (λ l. (smoothing d ops).emitted ++ l) out);
          by_then = ap (λ l. (smoothing d l).accepted) (sym with_it) ∙ sym y.delivered.taken_in;
          number = sym (ap length (z.delivered.frames ∙ ids (smoothing d ops).emitted));
        }

-- ---- refiner and smoother

module _ (c : FgoConfig) (r : FixedLagRefiner) (m : Memory) (ks : List refiner.Call) (g : refiner.Session c r m ks) where
  abbrev ops : List (Op Body)
  ops = operations ks

  bytes : All Sent ops
  bytes = (refined.at_last c r m ks g).bytes

  frames-are : map written (run c ops).emitted ≡ wrote ks
  frames-are = sym (refined.delivered c r m ks g).delivered.frames

  -- a frame that the refiner wrote is well formed
  formed : (f : Written) (before after : List Written) → wrote ks ≡ before ++ (f ∷ after) → well_formed TRACKS f ≡ true
  formed f before after w =
      let p = around written (run c ops).emitted before f after (frames-are ∙ w) in
      (λ i. well_formed TRACKS (sym p.here i)) ∙ passes c ops bytes p.before p.item p.after p.whole

  pub joined : (d : SmootherConfig) (s : FixedLagSmoother) (w : Window) (js : List Call) → Session d s w js → InOrder ks js → Joined c ks d js
  joined d s w js h o =
      let z = delivered d s w js h in
      let es = (run c ops).emitted in
      let first = picked o.marks (sourced es) in
      let same : accepted (λ f. f) js ≡ map handed first =
      o.order ∙ ap (picked o.marks) (sym (sourced-frames [] es ∙ frames-are)) ∙ sym (picked-map handed o.marks (sourced es)) in
      let j = both c ops bytes d (operations js) o.marks (sym z.delivered.taken_in ∙ same) in
      record {
        marks = o.marks;
        first = first;
        some = refl;
        same = same;
        both = j;
        every =
            λ past k later x o q.
            let u = one_more_lem d s w js h past k later x o q in
            subst (λ l. Smoothed c d first l (length (wrote past)) o) u.by_then
            (subst (λ n. Smoothed c d first (smoothing d (operations past ++ (k.sent ∷ []))).accepted n o) u.number
            (j.calls (operations past) k.sent (operations later) u.split o u.grown));
        pushes =
            λ wide past k later x v f y before after u n q.
            true≢false (sym (formed f before after u) ∙ ap (λ t. well_formed t f) (sym wide) ∙ (z.pushes past k later x v f y n q).1);
      }
