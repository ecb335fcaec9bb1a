-- A run of a smoother: what has come out are, in order, the oldest of the frames then held, smoothed. Assumes nothing.
use Prim.Native.Nat.{ℕ, ◌+◌, ◌≤◌}
use native.Mathlib.Omega.{arith}
use mathlib.Core.Path.{◌≡◌, refl, sym, ap, ◌∙◌, subst}
use mathlib.Core.Bool.{Bool, true, false, true≢false}
use mathlib.Core.List.{List, [], ◌∷◌, ◌++◌, append-nil, append_assoc, append_cancel_left, head-eq_of_cons-eq, nil≢cons}
use lib.ListN.{length, length-append}
use lib.Dec.{ltb}
use borrow.Author.Tests.{ltb-true, ltb-false}
use Rattle.buffers.specs.Answer.{Op, pushed, taken, Reply, refused, waits, gives, refusal_in, Written}
use Rattle.buffers.specs.Run.{Run, begin, emitted_by, accepted_by, step, run_from}
use Rattle.engine.proofs.Every.{both}
use Rattle.fgo_spec.proofs.All.{mem_All, foldl_keeps}
use Rattle.smoother_frame.specs.Frame.{well_formed}
use Rattle.smoother_window.specs.declared.SmootherConfig.{SmootherConfig}
use Rattle.smoother_window.specs.Config.{lag, most}
use Rattle.smoother_window.specs.Window.{all_formed}
use Rattle.smoother_window.proofs.Forms.{formed_more}
use Rattle.smoother_pass.specs.Pass.{emitted}
use Rattle.smoother.specs.Smoother.{State, new, holding, held, settle, settle_by, emit_oldest, push_by, push, takes, reply}
use Rattle.histories.specs.Smoothed.{smoothing}

abbrev Steps : Run Written Written State → Op Written → Run Written Written State
Steps r o = step (λ f. f) reply r o

module _ (d : SmootherConfig) where
  -- a smoother that holds some frames, after some were accepted and some put out
  abbrev pub keeping : List Written → State
  keeping fs = holding (new d) fs

  abbrev pub after : List Written → List Written → List Written → Run Written Written State
  after fs acc gs = record { state = keeping fs; accepted = acc; emitted = gs }

  -- ---- what a push or a take does

  -- what it hands over
  abbrev pub more : Op Written → List Written
  more (pushed f) = f ∷ []
  more taken = []

  -- it is refused; or what it hands over is well formed, there are the frames fs ++ ms, and they are held, or the
  -- oldest of them leaves
  data Does (fs acc gs ms : List Written) (r : Run Written Written State) : Type 0 where
    refuses : r ≡ after fs acc gs → Does fs acc gs ms r
    holds : all_formed (most d) ms ≡ true → length (fs ++ ms) ≤ lag d → r ≡ after (fs ++ ms) (acc ++ ms) gs → Does fs acc gs ms r
    leaves : all_formed (most d) ms ≡ true → (f : Written) (hs : List Written) → fs ++ ms ≡ f ∷ hs → r ≡ after hs (acc ++ ms) (gs ++ (emitted d (f ∷ hs) f ∷ [])) → Does fs acc gs ms r

  module _ (fs acc gs : List Written) where
    push_does : (f : Written) → Does fs acc gs (f ∷ []) (Steps (after fs acc gs) (pushed f))
    unfolding step push settle emit_oldest all_formed
    push_does f = formed (well_formed (most d) f) refl
      where
        us : List Written
        us = fs ++ (f ∷ [])

        R : Reply Written × State → Run Written Written State
        R a = record { state = a.1; accepted = acc ++ accepted_by (λ f. f) (pushed f) (refusal_in a.0); emitted = gs ++ emitted_by a.0 }

        settles : all_formed (most d) (f ∷ []) ≡ true → (t : Bool) → ltb (lag d) (length us) ≡ t → (l : List Written) → us ≡ l → Does fs acc gs (f ∷ []) (R (settle_by t (keeping us)))
        settles w false e l p = holds w (ltb-false (lag d) (length us) e) (λ i. record { state = keeping us; accepted = acc ++ (f ∷ []); emitted = append-nil gs i })
        settles w true e [] p = absurd (let z = ltb-true (lag d) (length us) e in omega (arith, ap length p))
        settles w true e (h ∷ hs) p = leaves w h hs p (ap (λ l. R (emit_oldest (keeping us) l)) p)

        formed : (t : Bool) → well_formed (most d) f ≡ t → Does fs acc gs (f ∷ []) (R (push_by t (keeping fs) f))
        formed true w = settles (formed_more (most d) [] f refl w) (ltb (lag d) (length us)) refl us refl
        formed false w = refuses (λ i. record { state = keeping fs; accepted = append-nil acc i; emitted = append-nil gs i })

    take_does : Does fs acc gs [] (Steps (after fs acc gs) taken)
    unfolding step takes emit_oldest all_formed
    take_does = oldest fs refl
      where
        R : Reply Written × State → Run Written Written State
        R a = record { state = a.1; accepted = acc ++ []; emitted = gs ++ emitted_by a.0 }

        oldest : (l : List Written) → fs ≡ l → Does fs acc gs [] (R (emit_oldest (keeping fs) l))
        oldest [] p = refuses (λ i. record { state = keeping fs; accepted = append-nil acc i; emitted = append-nil gs i })
        oldest (h ∷ hs) p = leaves refl h hs (append-nil fs ∙ p) refl

    does : (k : Op Written) → Does fs acc gs (more k) (Steps (after fs acc gs) k)
    does (pushed f) = push_does f
    does taken = take_does

  -- ---- the frames put out

  -- o came out after k others, when all these frames had been accepted
  pub record Block (all : List Written) (k : ℕ) (o : Written) : Type 0 where
    pub front : List Written
    pub oldest : Written
    pub others : List Written
    pub among : all ≡ front ++ (oldest ∷ others)
    pub number : length front ≡ k
    pub few : length others ≤ lag d
    pub form : o ≡ emitted d (oldest ∷ others) oldest

  -- ---- what a run keeps

  -- the frames fs are held, acc were accepted and gs put out
  pub record Steady (fs acc gs : List Written) : Type 0 where
    pub lagged : length fs ≤ lag d
    pub formed : all_formed (most d) fs ≡ true
    pub front : List Written
    pub line : acc ≡ front ++ fs
    pub number : length front ≡ length gs

  module _ (fs acc gs ms : List Written) (short : length ms ≤ 1) (i : Steady fs acc gs) where
    -- the oldest frame leaves
    left : (f : Written) (hs : List Written) → fs ++ ms ≡ f ∷ hs → Block (acc ++ ms) (length gs) (emitted d (f ∷ hs) f)
    left f hs p =
        record {
          front = i.front;
          oldest = f;
          others = hs;
          among = ap (λ l. l ++ ms) i.line ∙ append_assoc i.front fs ms ∙ ap (λ l. i.front ++ l) p;
          number = i.number;
          few = let h = i.lagged in omega (arith, ap length p, length-append fs ms);
          form = refl;
        }

    all-formed : (l : List Written) → all_formed (most d) l ≡ true → all_formed (most d) ms ≡ true → all_formed (most d) (l ++ ms) ≡ true
    unfolding all_formed
    all-formed [] h w = w
    all-formed (f ∷ l) h w = let a = both (well_formed (most d) f) (all_formed (most d) l) h in rw a.0 (all-formed l a.1 w)

    kept-holds : all_formed (most d) ms ≡ true → length (fs ++ ms) ≤ lag d → Steady (fs ++ ms) (acc ++ ms) gs
    kept-holds w h =
        record {
          lagged = h;
          formed = all-formed fs i.formed w;
          front = i.front;
          line = ap (λ l. l ++ ms) i.line ∙ append_assoc i.front fs ms;
          number = i.number;
        }

    kept_leaves : all_formed (most d) ms ≡ true → (f : Written) (hs : List Written) → fs ++ ms ≡ f ∷ hs → Steady hs (acc ++ ms) (gs ++ (emitted d (f ∷ hs) f ∷ []))
    unfolding left all_formed
    kept_leaves w f hs p =
        let o = emitted d (f ∷ hs) f in
        record {
          lagged = (left f hs p).few;
          formed = (both (well_formed (most d) f) (all_formed (most d) hs) (subst (λ l. all_formed (most d) l ≡ true) p (all-formed fs i.formed w))).1;
          front = i.front ++ (f ∷ []);
          line =
              ap (λ l. l ++ ms) i.line ∙ append_assoc i.front fs ms ∙ ap (λ l. i.front ++ l) p ∙ sym (append_assoc i.front (f ∷ []) hs);
          number = length-append i.front (f ∷ []) ∙ ap (λ n. n + 1) i.number ∙ sym (length-append gs (o ∷ []));
        }

  pub record Ran (r : Run Written Written State) : Type 0 where
    pub same : r.state ≡ keeping r.state.frames
    pub kept : Steady r.state.frames r.accepted r.emitted

  short : (k : Op Written) → length (more k) ≤ 1
  short (pushed f) = omega arith
  short taken = omega arith

  ran-does : (fs acc gs ms : List Written) (r : Run Written Written State) → length ms ≤ 1 → Steady fs acc gs → Does fs acc gs ms r → Ran r
  ran-does fs acc gs ms r s i (refuses e) = subst Ran (sym e) (record { same = refl; kept = i })
  ran-does fs acc gs ms r s i (holds w h e) = subst Ran (sym e) (record { same = refl; kept = kept-holds fs acc gs ms s i w h })
  ran-does fs acc gs ms r s i (leaves w f hs p e) = subst Ran (sym e) (record { same = refl; kept = kept_leaves fs acc gs ms s i w f hs p })

  is-after : (r : Run Written Written State) → Ran r → r ≡ after r.state.frames r.accepted r.emitted
  is-after r i = λ j. record { state = i.same j; accepted = r.accepted; emitted = r.emitted }

  -- a call of a run
  calls-does : (r : Run Written Written State) → Ran r → (k : Op Written) → Does r.state.frames r.accepted r.emitted (more k) (Steps r k)
  calls-does r i k =
      subst (λ s. Does r.state.frames r.accepted r.emitted (more k) (Steps s k)) (sym (is-after r i)) (does r.state.frames r.accepted r.emitted k)

  ran_step : (r : Run Written Written State) (k : Op Written) → Ran r → Ran (Steps r k)
  ran_step r k i = ran-does r.state.frames r.accepted r.emitted (more k) (Steps r k) (short k) i.kept (calls-does r i k)

  pub ran : (os : List (Op Written)) → Ran (smoothing d os)
  unfolding run_from all_formed
  ran os =
      foldl_keeps Ran (λ k. Unit {0}) (step (λ f. f) reply) (λ r k i u. ran_step r k i) (begin (new d)) os
      (record { same = refl; kept = record { lagged = omega arith; formed = refl; front = []; line = refl; number = refl } })
      (mem_All (λ k. Unit {0}) os (λ k m. tt))

  -- ---- what a run tells

  none_more : (gs : List Written) (o : Written) → gs ≡ gs ++ (o ∷ []) → ⊥
  none_more gs o e = nil≢cons (append_cancel_left gs [] (o ∷ []) (append-nil gs ∙ e))

  gave :
      (fs acc gs ms : List Written) (r : Run Written Written State) → length ms ≤ 1 → Steady fs acc gs → Does fs acc gs ms r →
      (o : Written) → r.emitted ≡ gs ++ (o ∷ []) → Block r.accepted (length gs) o
  gave fs acc gs ms r s i (refuses e) o h = absurd (none_more gs o (ap (λ r. r.emitted) (sym e) ∙ h))
  gave fs acc gs ms r s i (holds w l e) o h = absurd (none_more gs o (ap (λ r. r.emitted) (sym e) ∙ h))
  gave fs acc gs ms r s i (leaves w f hs p e) o h =
      let g = emitted d (f ∷ hs) f in
      let d : g ≡ o = head-eq_of_cons-eq (append_cancel_left gs (g ∷ []) (o ∷ []) (ap (λ r. r.emitted) (sym e) ∙ h)) in
      subst (λ l. Block l (length gs) o) (ap (λ r. r.accepted) (sym e)) (subst (Block (acc ++ ms) (length gs)) d (left fs acc gs ms s i f hs p))

  pub last_left :
      (os : List (Op Written)) (k : Op Written) (o : Written) → (Steps (smoothing d os) k).emitted ≡ (smoothing d os).emitted ++ (o ∷ []) →
      Block (Steps (smoothing d os) k).accepted (length (smoothing d os).emitted) o
  last_left os k o h =
      let r = smoothing d os in
      let i = ran os in
      gave r.state.frames r.accepted r.emitted (more k) (Steps r k) (short k) i.kept (calls-does r i k) o h

-- ---- a push or a take that is refused changes nothing

abbrev is_refused : Reply Written → Bool
is_refused (refused n) = true
is_refused waits = false
is_refused (gives o) = false

module _ (s : State) (n : ℕ) where
  abbrev Stays : Reply Written × State → Type 0
  Stays a = a.0 ≡ refused n → a ≡ (refused n, s)

  -- a reply that is none of the refusals
  done : {C : Type 0} (a : Reply Written) → is_refused a ≡ false → a ≡ refused n → C
  done a e h = absurd (true≢false (ap is_refused (sym h) ∙ e))

  push-stays : (f : Written) → Stays (push s f)
  unfolding push settle emit_oldest
  push-stays f = formed (well_formed (most s.config) f)
    where
      u : State
      u = held s f

      oldest : (l : List Written) → u.frames ≡ l → Stays (emit_oldest u l)
      oldest [] p h = absurd (omega (arith, ap length p, length-append s.frames (f ∷ [])))
      oldest (g ∷ gs) p h = done (emit_oldest u (g ∷ gs)).0 refl h

      settles : (t : Bool) → Stays (settle_by t u)
      settles true h = oldest u.frames refl h
      settles false h = done waits refl h

      formed : (t : Bool) → Stays (push_by t s f)
      formed true h = settles (ltb (lag u.config) (length u.frames)) h
      formed false h = λ i. (h i, s)

  take-stays : Stays (takes s)
  unfolding takes emit_oldest
  take-stays = oldest s.frames
    where
      oldest : (l : List Written) → Stays (emit_oldest s l)
      oldest [] h = λ i. (h i, s)
      oldest (g ∷ gs) h = done (emit_oldest s (g ∷ gs)).0 refl h

pub reply-stays : (s : State) (k : Op Written) (n : ℕ) → (reply s k).0 ≡ refused n → reply s k ≡ (refused n, s)
reply-stays s (pushed f) n h = push-stays s n f h
reply-stays s taken n h = take-stays s n h
