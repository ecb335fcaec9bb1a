-- The ways through opening, push and take, each with its promise. Assumes nothing.
use Prim.Native.Nat.{ℕ, ◌≤◌, ◌<◌}
use mathlib.Core.Path.{◌≡◌, refl, sym, ap, ◌∙◌, subst}
use mathlib.Core.Bool.{true, false, cond}
use mathlib.Core.List.{List, [], ◌∷◌, ◌++◌}
use native.Mathlib.Omega.{arith}
use Rattle.std.specs.Prelude.{Option as Maybe, Ok, Err}
use Rattle.std.specs.declared.option.Option.TheVariants.{Some, None}
use Rattle.std.specs.Option.{ok_or}
use lib.ListN.{length}
use lib.Ieee.{Float}
use borrow.Author.Tests.{lt-ltb, le-ltb, eqb-false}
use Rattle.refusals.specs.declared.Refusal.{Refusal}
use Rattle.refusals.specs.declared.Refusal.TheVariants.{Frame}
use Rattle.refusals.specs.Refusals.{number_of}
use Rattle.refusals.proofs.Refused.{numbered}
use Rattle.buffers.specs.Answer.{Op, pushed, refused, waits, gives, Written, Ends, checked, Held}
use Rattle.buffers.proofs.Checking.{check_refused}
use Rattle.smoother_frame.specs.Frame.{well_formed}
use Rattle.smoother_window.specs.declared.FixedLagSmoother.{FixedLagSmoother}
use Rattle.smoother_window.specs.Config.{lag, most}
use Rattle.smoother_window.specs.Window.{held_frame, frames_from, frames_in, all_formed, more, fewer, Fitting, Stored}
use Rattle.smoother_window.proofs.Forms.{formed_more, all_counted}
use Rattle.smoother_pass.specs.Pass.{emitted}
use Rattle.smoother_pass.specs.Oldest.{oldest}
use Rattle.smoother.specs.Smoother.{State, held, emit_oldest, settle, push, takes, reply}
use Rattle.smoother.specs.Promise.{Window, window, state_in, later_refusal, due, stored, freed, window_after, struct_after, Promised, refused_as, Ready, Emits, Pushed}
use Rattle.smoother.proofs.Refusals.{held_is, had_when, lacking_when, passing}

-- ---- what is due

module _ (o : Op Written) (s : FixedLagSmoother) (w : Window) (ws : List ℕ) (ns : List Float) where
  -- 2, 3 or 4
  pub due_refused : {n : ℕ} → n ≡ later_refusal s w (length ws) (length ns) → (n ≡ 0 → ⊥) → due s w o ws ns ≡ (refused n, state_in s w)
  unfolding due
  due_refused {n} e h = ap (λ n. checked n (state_in s w) (reply (state_in s w) o)) (sym e) ∙ check_refused n (state_in s w) (reply (state_in s w) o) h

  -- none of them
  pub due_passed : later_refusal s w (length ws) (length ns) ≡ 0 → due s w o ws ns ≡ reply (state_in s w) o
  unfolding due
  due_passed e = rw e

module _ (st : State) (f : Written) where
  -- 5
  pub push_malformed : well_formed (most st.config) f ≡ false → push st f ≡ (refused 5, st)
  unfolding push
  push_malformed h = rw h

  pub push_formed : well_formed (most st.config) f ≡ true → push st f ≡ settle (held st f)
  unfolding push
  push_formed h = rw h

module _ (s : FixedLagSmoother) (w : Window) where
  pub settle-held : s.held ≤ lag s.config → settle (state_in s w) ≡ (waits, state_in s w)
  unfolding settle state_in
  settle-held h = rw (held_is s w, le-ltb (lag s.config) s.held h)

  pub settle_gives : lag s.config < s.held → settle (state_in s w) ≡ emit_oldest (state_in s w) (state_in s w).frames
  unfolding settle state_in
  settle_gives h = rw (held_is s w, lt-ltb (lag s.config) s.held h)

  -- 13
  pub none_held : s.held ≡ 0 → takes (state_in s w) ≡ (refused 13, state_in s w)
  unfolding takes emit_oldest state_in frames_from
  none_held h = ap (λ n. emit_oldest (state_in s w) (frames_from s w.words w.numbers 0 n)) h

  -- the oldest one leaves
  pub oldest_leaves : (w' : Window) → frames_in s w.words w.numbers ≡ held_frame s w.words w.numbers 0 ∷ frames_in (fewer s) w'.words w'.numbers
      → emit_oldest (state_in s w) (state_in s w).frames ≡ (gives (oldest s w.words w.numbers), state_in (fewer s) w')
  unfolding emit_oldest state_in oldest
  oldest_leaves w' e = ap (emit_oldest (state_in s w)) e ∙ (λ i. (gives (emitted s.config (sym e i) (held_frame s w.words w.numbers 0)), state_in (fewer s) w'))

-- ---- what is promised

module _ (o : Op Written) (s : FixedLagSmoother) (w : Window) (ws : List ℕ) (ns : List Float) where
  -- of a refusal
  pub refuses : {p : Pushed} (n : ℕ) → due s w o ws ns ≡ (refused n, state_in s w) → p ≡ refused_as s n → Promised o s w ws ns p w ws ns
  refuses {p} n e q =
      record {
        ends =
            subst (λ a. Ends (λ f. f) state_in a s w ws ns p.answer p.state w ws ns) (sym e)
            (record { answered = ap (λ p. p.answer) q; state = ap (λ p. state_in p.state w) q; words = refl; numbers = refl; small = tt; unchanged = (ap (λ p. p.state) q, refl) });
        slots = ap (λ p. p.state) q ∙ ap (λ a. struct_after s o a.0) (sym e);
        window = ap (λ a. window_after s o a.0 w) (sym e);
        window_words = refl;
        window_numbers = refl;
        words = refl;
        numbers = refl;
      }

  -- of 2, 3 or 4
  pub refuses_early : (r : Refusal) → number_of r ≡ later_refusal s w (length ws) (length ns) → Promised o s w ws ns (refused_as s (number_of r)) w ws ns
  refuses_early r h = refuses (number_of r) (due_refused o s w ws ns h (eqb-false _ 0 (numbered r))) refl

  -- of the oldest that leaves of what r and v hold
  pub gives_oldest : (r : FixedLagSmoother) (v : Window) {p : Pushed} {w' : Window} {ws' : List ℕ} {ns' : List Float} → due s w o ws ns ≡ emit_oldest (state_in r v) (state_in r v).frames
      → fewer r ≡ struct_after s o (gives (oldest r v.words v.numbers)) → freed r v ≡ window_after s o (gives (oldest r v.words v.numbers)) w → Emits r v ws ns p w' ws' ns'
      → length w'.words ≡ length w.words → length w'.numbers ≡ length w.numbers → length ws' ≡ length ws → length ns' ≡ length ns → Promised o s w ws ns p w' ws' ns'
  gives_oldest r v {p} {w'} {ws'} {ns'} e g h d k l m n =
      let a = e ∙ oldest_leaves r v w' d.frames in
      record {
        ends =
            subst (λ a. Ends (λ f. f) state_in a s w ws ns p.answer p.state w' ws' ns') (sym a)
            (record { answered = d.answer; state = ap (λ r. state_in r w') d.state; words = d.words; numbers = d.numbers; small = d.small; unchanged = tt });
        slots = d.state ∙ g ∙ ap (λ a. struct_after s o a.0) (sym a);
        window = d.window ∙ h ∙ ap (λ a. window_after s o a.0 w) (sym a);
        window_words = k;
        window_numbers = l;
        words = m;
        numbers = n;
      }

-- ---- a push that none of 1 to 4 refuses: m is its frame, if that is well formed

module _ (s : FixedLagSmoother) (w : Window) (ws : List ℕ) (ns : List Float) (f : Written) (passes : 0 ≡ later_refusal s w (length ws) (length ns))
    {m : Maybe Written} (formed : m ≡ cond (well_formed (most s.config) f) (Some f) None) where
  -- it is not
  pub push_refuses : {r : Refusal} → Err r ≡ ok_or m Frame → Promised (pushed f) s w ws ns (refused_as s (number_of r)) w ws ns
  unfolding state_in
  push_refuses lacks =
      let h = lacking_when (well_formed (most s.config) f) f formed lacks in
      rw h.1 (refuses (pushed f) s w ws ns 5 (due_passed (pushed f) s w ws ns (sym passes) ∙ push_malformed (state_in s w) f h.0) refl)

  -- it is, and is stored
  module _ {g : Written} (has : Ok g ≡ ok_or m Frame) {r : FixedLagSmoother} {w' : Window} (kept : Stored s w.words w.numbers g r w'.words w'.numbers) where
    had : (well_formed (most s.config) f ≡ true) × (g ≡ f)
    had = had_when (well_formed (most s.config) f) Frame formed has

    d : Stored s w.words w.numbers f r w'.words w'.numbers
    d = subst (λ f. Stored s w.words w.numbers f r w'.words w'.numbers) had.1 kept

    stored-frames : frames_in (more s) w'.words w'.numbers ≡ frames_in s w.words w.numbers ++ (f ∷ [])
    stored-frames = ap (λ r. frames_in r w'.words w'.numbers) (sym d.state) ∙ d.frames

    stored-state : state_in r w' ≡ held (state_in s w) f
    unfolding state_in
    stored-state = let g = stored-frames in ap (λ r. state_in r w') d.state ∙ (λ i. record { config = s.config; frames = g i })

    push-due : due s w (pushed f) ws ns ≡ settle (state_in r w')
    unfolding state_in
    push-due = due_passed (pushed f) s w ws ns (sym passes) ∙ push_formed (state_in s w) f had.0 ∙ ap settle (sym stored-state)

    pub push_ready : Ready r w'
    push_ready =
        let p = passing s w (length ws) (length ns) (sym passes) in
        let g : Fitting (more s) w'.words w'.numbers = record { lags = p.fits.lags; tracks = p.fits.tracks; words = d.words ∙ p.fits.words; numbers = d.numbers ∙ p.fits.numbers } in
        subst (λ r. Ready r w') (sym d.state)
        (record {
          fits = g;
          few = omega (arith, p.few);
          some = omega arith;
          counted =
              all_counted (more s) w'.words w'.numbers g
              (subst (λ l. all_formed (most s.config) l ≡ true) (sym stored-frames) (formed_more (most s.config) (frames_in s w.words w.numbers) f p.formed had.0));
        })

    stored-window : w' ≡ stored s f w
    stored-window = λ i. window (d.words_put i) (d.numbers_put i)

    pub push-holds : r.held ≤ lag r.config → Promised (pushed f) s w ws ns (record { answer = Held; state = r }) w' ws ns
    push-holds l =
        let a = push-due ∙ settle-held r w' l in
        record {
          ends =
              subst (λ a. Ends (λ f. f) state_in a s w ws ns Held r w' ws ns) (sym a)
              (record { answered = refl; state = refl; words = refl; numbers = refl; small = tt; unchanged = tt });
          slots = d.state ∙ ap (λ a. struct_after s (pushed f) a.0) (sym a);
          window = stored-window ∙ ap (λ a. window_after s (pushed f) a.0 w) (sym a);
          window_words = d.words;
          window_numbers = d.numbers;
          words = refl;
          numbers = refl;
        }

    pub push_gives : {p : Pushed} {v : Window} {ws' : List ℕ} {ns' : List Float} → lag r.config < r.held → Emits r w' ws ns p v ws' ns'
        → length v.words ≡ length w'.words → length v.numbers ≡ length w'.numbers → length ws' ≡ length ws → length ns' ≡ length ns → Promised (pushed f) s w ws ns p v ws' ns'
    push_gives l m h k =
        gives_oldest (pushed f) s w ws ns r w' (push-due ∙ settle_gives r w' l) (ap fewer d.state) (λ i. freed (d.state i) (stored-window i)) m (h ∙ d.words) (k ∙ d.numbers)
