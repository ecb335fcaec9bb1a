-- A push and a take of the refiner with output buffers that are long enough: where it leads, what can be told of its
-- answer, and that a take leaves one frame fewer. Assumes nothing.
use Prim.Native.Nat.{ℕ, zero, suc, ◌<◌}
use native.Mathlib.Omega.{arith}
use mathlib.Core.Path.{◌≡◌, refl, sym, ap, ◌∙◌, subst}
use mathlib.Core.Bool.{Bool, true, false, cond}
use mathlib.Core.List.{List, [], ◌∷◌, ◌++◌}
use lib.ListN.{length, take, drop}
use lib.Ieee.{Float}
use Rattle.bounds.specs.Bounds.{WORDS, NUMBERS}
use Rattle.buffers.specs.Answer.{Op, pushed, taken, Reply, refused, waits, gives, roomy, checked, answer_of, words_after, Answer}
use Rattle.engine.specs.declared.config.FgoConfig.{FgoConfig}
use Rattle.engine.specs.declared.types.BodyKind.TheVariants.{Narrow}
use Rattle.engine.specs.Body.{Body, body}
use Rattle.fgo_spec.specs.Windows.{Scan}
use Rattle.fgo_spec.specs.Emitting.{Emitted, words_of, written}
use Rattle.fgo_spec.specs.Refiner.{State, leave, freeze_oldest, takes, reply}
use Rattle.fgo_spec.specs.Rule.{Bytes}
use Rattle.fgo_spec.specs.History.{Sent, run}
use Rattle.recording.specs.Recording.{offset, size, holds, recorded_body}
use Rattle.fgo_state.specs.declared.state.FixedLagRefiner.{FixedLagRefiner}
use Rattle.fgo_state.specs.declared.state.Memory.{Memory}
use Rattle.fgo_state.specs.Memory.{state_of, scan_in}
use Rattle.fgo.specs.Promise.{due, Sized, GivenSized, Promised}
use Rattle.smoother_frame.specs.Frame.{Counts}
use Rattle.print.specs.Printed.{Counted}
use Rattle.print.proofs.Showing.{front}
use Rattle.histories.specs.Refined.{Call, Same, Reached}
use Rattle.histories.proofs.CallsLaw.{more}
use Rattle.histories.proofs.FinishLaw.{held_is}
use Rattle.histories.proofs.RefinedLaw.{known}
use Rattle.playback.specs.Played.{Leads, Fewer}

-- ---- what can be told

-- the counts of a frame that is sized so are in bounds
counts : (e : Emitted) → Sized e → Counts (words_of e)
unfolding words_of
counts e h = record { long = omega arith; tracks = h.tracks; associations = h.associations; sensors = h.sensors }

counted : (a : Reply Emitted) (ws : List ℕ) → GivenSized a → Counted (answer_of written a) (words_after written a ws)
counted (refused n) ws h = tt
counted waits ws h = tt
counted (gives e) ws h = subst Counts (sym (front (words_of e) ws)) (counts e h)

-- ---- a recording's bytes

bytes_drop : (n : ℕ) (s : List ℕ) → Bytes s → Bytes (drop n s)
bytes_drop zero s h = h
bytes_drop (suc n) [] h = tt
bytes_drop (suc n) (b ∷ s) h = bytes_drop n s h.1

bytes_take : (n : ℕ) (s : List ℕ) → Bytes s → Bytes (take n s)
bytes_take zero s h = tt
bytes_take (suc n) [] h = tt
bytes_take (suc n) (b ∷ s) h = (h.0, bytes_take n s h.1)

recorded_bytes : (s : List ℕ) (i : ℕ) → Bytes s → Bytes (recorded_body s i)
unfolding recorded_body
recorded_bytes s i h = go (holds s i)
  where
    go : (b : Bool) → Bytes (cond b (take (size s i) (drop (offset s i) s)) [])
    go true = bytes_take (size s i) (drop (offset s i) s) (bytes_drop (offset s i) s h)
    go false = tt

-- ---- where it leads

-- memory stands for the same as itself
same : (r : FixedLagRefiner) (m : Memory) → Same r m m
same r m = record { bodies = λ i h. refl; state = refl }

enough : {a b : ℕ} → a ≡ WORDS → b ≡ NUMBERS → roomy a b ≡ true
enough a b = λ i. roomy (a i) (b i)

-- a take leaves one frame fewer, if one is held
take-fewer : (c : FgoConfig) (t : State) (l : List Scan) → 0 < length l → length l ≡ suc (length (freeze_oldest c t l).1.scans)
unfolding freeze_oldest leave
take-fewer c t [] h = absurd (omega arith)
take-fewer c t (s ∷ ss) h = refl

module _ (op : Op Body) (r : FixedLagRefiner) (m : Memory) {ws : List ℕ} {ns : List Float} {g : Answer} {u : FixedLagRefiner} {m' : Memory} {ws' : List ℕ} {ns' : List Float}
    (h : Promised op r m ws ns g u m' ws' ns') where
  -- the call
  abbrev call : Call
  call =
      record {
        sent = op;
        lent = m;
        words = ws;
        numbers = ns;
        answer = g;
        value = u;
        memory = m';
        words_back = ws';
        numbers_back = ns';
      }

  -- the counts of the frame that it gives are in bounds
  pub given_counted : Counted g ws'
  given_counted = rw (h.ends.answered, h.ends.words) (counted (due r m op ws ns).0 ws h.sized)

  leads : length ws ≡ WORDS → length ns ≡ NUMBERS → Sent op → Leads (op ∷ []) r m u m'
  leads a b sent ok ops reached =
      subst (λ b. Reached r.config (ops ++ more b op) u m') (enough a b)
      ((known r.config ok).next ops r m reached call sent (same r m, h))

-- a push of frame i of the recording s, given as b
pub push_leads :
    (r : FixedLagRefiner) (m : Memory) (s : List ℕ) (i : ℕ) {b : List ℕ} {ws : List ℕ} {ns : List Float} {g : Answer} {u : FixedLagRefiner} {m' : Memory} {ws' : List ℕ} {ns' : List Float} →
    Bytes s → b ≡ recorded_body s i → length ws ≡ WORDS → length ns ≡ NUMBERS → Promised (pushed (body Narrow b)) r m ws ns g u m' ws' ns' →
    Leads (pushed (body Narrow (recorded_body s i)) ∷ []) r m u m'
push_leads r m s i {u = u} {m'} h e words numbers k =
    subst (λ b. Leads (pushed (body Narrow b) ∷ []) r m u m') e
    (leads (pushed (body Narrow _)) r m k words numbers (subst Bytes (sym e) (recorded_bytes s i h)))

-- a take
module _ (r : FixedLagRefiner) (m : Memory) {ws : List ℕ} {ns : List Float} {g : Answer} {u : FixedLagRefiner} {m' : Memory} {ws' : List ℕ} {ns' : List Float}
    (words : length ws ≡ WORDS) (numbers : length ns ≡ NUMBERS) (h : Promised taken r m ws ns g u m' ws' ns') where
  pub take_leads : Leads (taken ∷ []) r m u m'
  take_leads = leads taken r m h words numbers tt

  pub fewer : Fewer r m u
  unfolding takes
  fewer l some =
      let c = r.config in
      let t = (run c l.calls).state in
      let e = l.reached.state in
      let n = ((known c l.settings).ends l.calls r m l.reached (call taken r m h) tt (same r m, h)).state in
      let held : length t.scans ≡ r.held = sym (ap (λ t. length t.scans) e) ∙ held_is r m in
      let after : u.held ≡ length (freeze_oldest c t t.scans).1.scans =
      sym (held_is u m') ∙ ap (λ t. length t.scans) (n ∙ ap (λ b. (checked (cond b 0 4) t (reply c t taken)).1) (enough words numbers)) in
      sym held ∙ take-fewer c t t.scans (omega arith) ∙ ap suc (sym after)
