-- "`finish` is take, repeated until 13", of a smoother: it gives the frames held, smoothed, oldest first, and ends.
-- Assumes nothing but what the contract of take says.
use Prim.Native.Nat.{suc}
use native.Mathlib.Omega.{arith}
use mathlib.Core.Path.{◌≡◌, refl, sym, ap, ◌∙◌}
use mathlib.Core.List.{List, [], ◌∷◌, ◌++◌, append-nil}
use lib.ListN.{length, length-append}
use Rattle.smoother_window.specs.declared.FixedLagSmoother.{FixedLagSmoother}
use Rattle.smoother_window.specs.declared.SmootherConfig.{SmootherConfig}
use Rattle.smoother_pass.specs.Pass.{emitted}
use Rattle.smoother.specs.Smoother.{new, emit_oldest, takes, reply, finish}
use Rattle.smoother.specs.Promise.{Window, state_in}
use Rattle.smoother.proofs.Refusals.{held_is}
use Rattle.histories.specs.Calls.{left, operations, Finish, Ending}
use Rattle.histories.specs.Smoothed.{smoothing}
use Rattle.histories.specs.Joined.{Call, Keeps, Session, Finished}
use Rattle.histories.proofs.CallsLaw.{left-append, calls_then}
use Rattle.histories.proofs.FinishCalls.{Taking, frames-given, none_left, comes_to_end}
use Rattle.histories.proofs.SmootherRun.{ran}
use Rattle.histories.proofs.JoinedLaw.{known, fine, all_fine, at_first, delivered, ids}

-- a take of the smoother as defined
takes_one : (d : SmootherConfig) → Taking (λ f. f) reply (new d) (λ f. f) state_in (λ s. s.frames) (λ s. finish s s.frames)
unfolding takes emit_oldest finish
takes_one d =
    record {
      none = λ s e. (ap (λ l. (emit_oldest s l).0) e, ap (finish s) e);
      one = λ s f fs e. (
        emitted s.config (f ∷ fs) f,
        ap (λ l. (emit_oldest s l).0) e,
        ap (λ l. (emit_oldest s l).1.frames) e,
        ap (finish s) e ∙ ap (λ l. let u = (emit_oldest s l).1 in emitted s.config (f ∷ fs) f ∷ finish u u.frames) (sym e),
      );
    }

module _ (d : SmootherConfig) (s : FixedLagSmoother) (w : Window) (ks fs : List Call) (h : Session d s w (ks ++ fs)) where
  pub finished : Finish fs → Finished d s w ks fs
  finished f =
      let a = at_first d s w (ks ++ fs) h ks fs refl in
      let b = at_first d s w (ks ++ fs) h (ks ++ fs) [] (sym (append-nil (ks ++ fs))) in
      let z = known d (fine d s w (ks ++ fs) h).0 in
      let u = left s w ks in
      let v = left s w (ks ++ fs) in
      let ok = all_fine d s w (ks ++ fs) h fs in
      let cs = calls_then Keeps s w ks fs h.calls in
      let q = smoothing d (operations (ks ++ fs)) in
      let y = delivered d s w (ks ++ fs) h in
      let i = (ran d (operations (ks ++ fs))).kept in
      let e : (state_in v.0 v.1).frames ≡ [] =
      ap (λ v. (state_in v.0 v.1).frames) (left-append s w ks fs)
      ∙ none_left (λ f. f) reply (new d) (λ f. f) state_in (λ s. s.frames) (λ s. finish s s.frames) (takes_one d) z fs (operations ks) u.0 u.1 a ok cs f in
      let n : q.state.frames ≡ [] = sym (ap (λ t. t.frames) b.state) ∙ e in
      let t = (smoothing d (operations ks)).state in
      record {
        frames =
            frames-given (λ f. f) reply (new d) (λ f. f) state_in (λ s. s.frames) (λ s. finish s s.frames) (takes_one d) z fs (operations ks) u.0 u.1 a ok cs f
            ∙ ids d s w (finish t t.frames);
        none = sym (held_is v.0 v.1) ∙ ap length e;
        all =
            ap length (y.delivered.frames ∙ ids d s w q.emitted)
            ∙ omega (arith, i.number, ap length i.line, length-append i.front q.state.frames, ap length n)
            ∙ sym (ap length y.delivered.taken_in);
      }

  pub ends : Ending (left s w ks).0.held fs → Finish fs
  ends n =
      let a = at_first d s w (ks ++ fs) h ks fs refl in
      let u = left s w ks in
      comes_to_end (λ f. f) reply (new d) (λ f. f) state_in (λ s. s.frames) (λ s. finish s s.frames) (takes_one d) (known d (fine d s w (ks ++ fs) h).0) fs
      (operations ks) u.0 u.1 a (all_fine d s w (ks ++ fs) h fs) (calls_then Keeps s w ks fs h.calls) n.taking (smoothing d (operations ks)).state.frames refl
      (n.once_more ∙ ap suc (sym (held_is u.0 u.1) ∙ ap (λ t. length t.frames) a.state))
