-- "`finish` is take, repeated until 13", of a refiner: it gives the frames held, oldest first, and ends. Assumes
-- nothing but what the contract of take says.
use Prim.Native.Nat.{suc}
use mathlib.Core.Path.{◌≡◌, refl, sym, ap, ◌∙◌}
use mathlib.Core.List.{List, [], ◌∷◌, ◌++◌, map, append-nil}
use lib.ListN.{length}
use Rattle.engine.specs.declared.config.FgoConfig.{FgoConfig}
use Rattle.engine.specs.Body.{frame_in}
use Rattle.engine.proofs.Passing.{length-rows}
use Rattle.fgo_spec.specs.Emitting.{written}
use Rattle.fgo_spec.specs.Refiner.{new, emit, leave, freeze_oldest, takes, reply, finish}
use Rattle.fgo_spec.specs.Rule.{All}
use Rattle.fgo_spec.specs.History.{Sent, run}
use Rattle.fgo_spec.proofs.All.{All-right}
use Rattle.fgo_state.specs.declared.state.FixedLagRefiner.{FixedLagRefiner}
use Rattle.fgo_state.specs.declared.state.Memory.{Memory}
use Rattle.fgo_state.specs.Memory.{state_of, scan_in}
use Rattle.histories.specs.Calls.{left, operations, Finish, Ending}
use Rattle.histories.specs.Refined.{Call, Keeps, Session, Finished}
use Rattle.histories.proofs.CallsLaw.{left-append, calls_then}
use Rattle.histories.proofs.FinishCalls.{Taking, frames-given, none_left, comes_to_end}
use Rattle.histories.proofs.RefinedLaw.{known, is_legal, at_last, at_first, delivered}

-- a take of document 01's refiner
takes_one : (c : FgoConfig) → Taking frame_in (reply c) new written state_of (λ t. t.scans) (λ t. finish c t t.scans)
unfolding takes freeze_oldest finish leave
takes_one c =
    record {
      none = λ t e. (ap (λ l. (freeze_oldest c t l).0) e, ap (finish c t) e);
      one = λ t s ss e. (
        emit c t.first t.prefixes s,
        ap (λ l. (freeze_oldest c t l).0) e,
        ap (λ l. (freeze_oldest c t l).1.scans) e,
        ap (finish c t) e ∙ ap (λ l. let u = (freeze_oldest c t l).1 in emit c t.first t.prefixes s ∷ finish c u u.scans) (sym e),
      );
    }

-- as many frames are held as the refiner counts
pub held_is : (r : FixedLagRefiner) (m : Memory) → length (state_of r m).scans ≡ r.held
unfolding state_of
held_is r m = length-rows (scan_in m.scans.bodies m.scans.columns) r.first.0 r.held

module _ (c : FgoConfig) (r : FixedLagRefiner) (m : Memory) (ks fs : List Call) (s : Session c r m (ks ++ fs)) where
  sent-then : All (λ k. Sent k.sent) fs
  sent-then = All-right (λ k. Sent k.sent) ks fs s.bytes

  pub finished : Finish fs → Finished c r m ks fs
  finished f =
      let a = at_first c r m ks fs s in
      let z = known c (is_legal c r m (ks ++ fs) s) in
      let u = left r m ks in
      let v = left r m (ks ++ fs) in
      let d = delivered c r m (ks ++ fs) s in
      let q = run c (operations (ks ++ fs)) in
      let cs = calls_then Keeps r m ks fs s.calls in
      let e : (state_of v.0 v.1).scans ≡ [] =
      ap (λ v. (state_of v.0 v.1).scans) (left-append r m ks fs)
      ∙ none_left frame_in (reply c) new written state_of (λ t. t.scans) (λ t. finish c t t.scans) (takes_one c) z fs (operations ks) u.0 u.1 a sent-then cs f in
      let n : q.state.scans ≡ [] = sym (ap (λ t. t.scans) (at_last c r m (ks ++ fs) s).state) ∙ e in
      record {
        frames =
            frames-given frame_in (reply c) new written state_of (λ t. t.scans) (λ t. finish c t t.scans) (takes_one c) z fs (operations ks) u.0 u.1 a sent-then cs f;
        none = sym (held_is v.0 v.1) ∙ ap length e;
        all =
            sym (append-nil (map (λ e. e.scan.frame) q.emitted))
            ∙ ap (λ l. map (λ e. e.scan.frame) q.emitted ++ map (λ s. s.frame) l) (sym n)
            ∙ d.history.in_order
            ∙ sym d.delivered.taken_in;
      }

  pub ends : Ending (left r m ks).0.held fs → Finish fs
  ends n =
      let a = at_first c r m ks fs s in
      let u = left r m ks in
      comes_to_end frame_in (reply c) new written state_of (λ t. t.scans) (λ t. finish c t t.scans) (takes_one c) (known c (is_legal c r m (ks ++ fs) s)) fs
      (operations ks) u.0 u.1 a sent-then (calls_then Keeps r m ks fs s.calls) n.taking (run c (operations ks)).state.scans refl
      (n.once_more ∙ ap suc (sym (held_is u.0 u.1) ∙ ap (λ t. length t.scans) a.state))
