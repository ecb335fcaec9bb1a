-- From an opening on the refiner's memory is a function of the state and of the bodies held. Assumes nothing but that
-- the opening, and each call, is as its contract says.
use Prim.Native.Nat.{ℕ, zero, suc, ◌+◌, ◌≤◌, ◌<◌}
use native.Mathlib.Omega.{arith}
use mathlib.Core.Path.{◌≡◌, refl, sym, ap, ◌∙◌, subst}
use mathlib.Core.Bool.{true}
use mathlib.Core.List.{List, [], ◌∷◌, ◌++◌}
use lib.ListN.{length, length-append}
use Rattle.bounds.specs.Bounds.{SCANS}
use Rattle.buffers.specs.Answer.{Op, pushed, taken, Reply, checked}
use Rattle.engine.specs.declared.config.FgoConfig.{FgoConfig}
use Rattle.engine.specs.Config.{legal}
use Rattle.engine.specs.Body.{Body, frame_in, body_refusal, rows}
use Rattle.engine.proofs.Passing.{length-rows}
use Rattle.engine.proofs.Settings.{legal_tells}
use Rattle.fgo_spec.specs.Windows.{Scan}
use Rattle.fgo_spec.specs.Emitting.{Emitted}
use Rattle.fgo_spec.specs.Refiner.{State, arrive, leave, push, takes, reply}
use Rattle.fgo_spec.specs.Rule.{All, ColumnRule, Rule}
use Rattle.fgo_spec.specs.History.{Sent}
use Rattle.fgo_spec.proofs.All.{All_weaken}
use Rattle.fgo_spec.proofs.Rows.{rows_all, map_rows}
use Rattle.fgo_spec.proofs.Doing.{Does, refuses, holds, leaves, Passes, take_does, push_does}
use Rattle.fgo_spec.proofs.HistoryLaw.{history}
use Rattle.fgo_state.specs.declared.state.FixedLagRefiner.{FixedLagRefiner}
use Rattle.fgo_state.specs.declared.state.Memory.{Memory}
use Rattle.fgo_state.specs.Memory.{no_memory, body_at, scan_in, state_of}
use Rattle.fgo_state.specs.Contents.{memory_after, arrived, departed, settled, held_bodies, laid}
use Rattle.fgo_state.proofs.Bodies.{body-passes}
use Rattle.fgo.specs.Promise.{new_by, later_refusal, due}
use Rattle.fgo.proofs.Opening.{opened_new}
use Rattle.histories.specs.Calls.{Calls, left, enough}
use Rattle.histories.proofs.CallsLaw.{more}
use Rattle.histories.specs.Refined.{Call, Meets, Same, Reached}
use Rattle.histories.specs.Kept.{Returned, Own, Kept, Alike}
use Rattle.histories.proofs.RefinedLaw.{known, at_new}
use Rattle.histories.proofs.FinishLaw.{held_is}
use Rattle.histories.proofs.HeldBodies.{Complete, Bodied, bodied_many, bodied_rest}
use Rattle.histories.proofs.StateRoom.{Fits, rule_fits, arrived_fits}
use Rattle.histories.proofs.Laying.{new_laid, arrived_bodied, arrived_laid, departed_laid, held_laid}

-- the memory m is that of the state t and of the bodies of its scans
pub record Lies (t : State) (m : Memory) : Type 0 where
  pub bodies : List Body
  pub bodied : Bodied bodies t.scans
  pub few : length bodies ≤ SCANS
  pub is : m ≡ laid t bodies

-- ---- a push or a take

module _ (c : FgoConfig) where
  -- the oldest scan leaves
  settled_lies :
      (t : State) (s : Scan) (ss : List Scan) → t.scans ≡ s ∷ ss → Fits t → (m : Memory) → Lies t m →
      Lies (leave c t s ss) (settled c t t.scans m)
  unfolding leave
  settled_lies t s ss q f m l = go l.bodies (subst (Bodied l.bodies) q l.bodied) l.few l.is
    where
      go : (bs : List Body) → Bodied bs (s ∷ ss) → length bs ≤ SCANS → m ≡ laid t bs → Lies (leave c t s ss) (settled c t t.scans m)
      go [] h few e = absurd (omega (arith, bodied_many [] (s ∷ ss) h))
      go (b ∷ bs) h few e =
          record {
            bodies = bs;
            bodied = bodied_rest b bs s ss h;
            few = omega arith;
            is = ap (λ l. settled c t l m) q ∙ ap (departed c t s ss) e ∙ departed_laid c t s ss q f b bs h (omega arith);
          }

  module _ (t : State) (rule : Rule c t) (m : Memory) (l : Lies t m) where
    -- a frame arrives
    arrived_lies : (b : Body) → Passes c t b → Lies (arrive c t (frame_in b)) (arrived c t b m)
    arrived_lies b k =
        let few : length l.bodies < SCANS = omega (arith, bodied_many l.bodies t.scans l.bodied, rule.lagged, (legal_tells c rule.settings).lag) in
        record {
          bodies = l.bodies ++ (b ∷ []);
          bodied = arrived_bodied c t b rule k.1 k.0 l.bodies l.bodied;
          few = omega (arith, length-append l.bodies (b ∷ []));
          is = ap (arrived c t b) l.is ∙ arrived_laid c t b rule k.1 k.0 l.bodies l.bodied few;
        }

    -- what a reply, and the state after it, leave
    abbrev After : Op Body → Reply Emitted × State → Type 0
    After o a = Lies a.1 (memory_after c t o a.0 m)

    reply-lies : (o : Op Body) → After o (reply c t o)
    reply-lies taken = go (take_does c t)
      where
        go : Does c t t (Unit {0}) (takes c t) → After taken (takes c t)
        go (refuses n q) = subst (After taken) (sym q) l
        go (holds k h q) = subst (After taken) (sym q) l
        go (leaves k s ss p q) = subst (After taken) (sym q) (settled_lies t s ss p (rule_fits c t rule) m l)
    reply-lies (pushed b) = go (push_does c t b)
      where
        u : State
        u = arrive c t (frame_in b)

        go : Does c t u (Passes c t b) (push c t b) → After (pushed b) (push c t b)
        go (refuses n q) = subst (After (pushed b)) (sym q) l
        go (holds k h q) = subst (After (pushed b)) (sym q) (arrived_lies b k)
        go (leaves k s ss p q) =
            subst (After (pushed b)) (sym q)
            (settled_lies u s ss p (arrived_fits c t (frame_in b) rule k.1) (arrived c t b m) (arrived_lies b k))

    -- by a refusal that comes before
    pub checked_lies : (n : ℕ) (o : Op Body) → After o (checked n t (reply c t o))
    checked_lies zero o = reply-lies o
    checked_lies (suc n) o = l

-- ---- a refiner and its memory

module _ (r : FixedLagRefiner) (m : Memory) where
  -- the bodies that it lies with are those that are read
  lies_kept : Lies (state_of r m) m → Kept r m
  lies_kept l =
      l.is ∙ ap (laid (state_of r m)) (sym (ap (held_bodies r) l.is ∙ held_laid r (state_of r m) l.bodies first held l.bodied l.few))
    where
      first : r.first.0 ≡ (state_of r m).first
      first = unfold state_of in refl

      held : r.held ≡ length l.bodies
      held = sym (bodied_many l.bodies (state_of r m).scans l.bodied ∙ held_is r m)

  -- after the pushes and takes ops
  module _ (c : FgoConfig) (ok : legal c ≡ true) (ops : List (Op Body)) (a : Reached c ops r m) where
    ruled : Rule r.config (state_of r m)
    ruled = subst (λ c. Rule c (state_of r m)) (sym a.settings) (subst (Rule c) (sym a.state) ((history c ops).ruled ok a.bytes))

    held_bodied : Bodied (held_bodies r m) (state_of r m).scans
    unfolding state_of scan_in
    held_bodied =
        let bodies = m.scans.bodies in
        let columns = m.scans.columns in
        record {
          frames =
              map_rows frame_in (body_at bodies columns) r.first.0 r.held ∙ sym (map_rows (λ s. s.frame) (scan_in bodies columns) r.first.0 r.held);
          passes =
              rows_all (λ b. body_refusal b ≡ 0) (body_at bodies columns) r.first.0 r.held (body-passes bodies columns r.first.0 r.held a.bodies);
          complete = All_weaken (ColumnRule r.next_id.0) Complete (state_of r m).scans (λ s k. k.complete) ruled.columns;
        }

    kept_lies : Kept r m → Lies (state_of r m) m
    kept_lies k =
        let many = length-rows (body_at m.scans.bodies m.scans.columns) r.first.0 r.held in
        record {
          bodies = held_bodies r m;
          bodied = held_bodied;
          few = omega (arith, many, held_is r m, ruled.lagged, (legal_tells r.config ruled.settings).lag);
          is = k;
        }

-- an opened one's
new_kept : (c : FgoConfig) → Kept (new_by c) no_memory
unfolding state_of rows
new_kept c = new_laid

-- ---- calls

module _ (c : FgoConfig) (ok : legal c ≡ true) where
  one_kept : (ops : List (Op Body)) (r : FixedLagRefiner) (m : Memory) (k : Call) → Reached c ops r m → Kept r m → Meets r m k → Kept k.value k.memory
  unfolding due
  one_kept ops r m k a h e =
      let n = later_refusal r m (length k.words) (length k.numbers) in
      let l = checked_lies r.config (state_of r m) (ruled r m c ok ops a) m (kept_lies r m c ok ops a h) n k.sent in
      lies_kept k.value k.memory
      (subst (λ u. Lies u k.memory) (sym e.ends.state) (subst (Lies (due r m k.sent k.words k.numbers).1) (sym e.memory) l))

  all_kept :
      (ks : List Call) (ops : List (Op Body)) (r : FixedLagRefiner) (m : Memory) → Reached c ops r m → Kept r m →
      All (λ k. Sent k.sent) ks → Calls Returned r m ks → Kept (left r m ks).0 (left r m ks).1
  unfolding Calls left
  all_kept [] ops r m a h b cs = h
  all_kept (k ∷ ks) ops r m a h b cs =
      let lent = cs.0.0 in
      let stands : Same r m k.lent =
      record { bodies = λ i l. ap (λ n. body_at n.scans.bodies n.scans.columns (r.first.0 + i)) lent; state = ap (state_of r) lent } in
      let next = (known c ok).next ops r m a k b.0 (stands, subst (λ n. Meets r n k) (sym lent) cs.0.1) in
      all_kept ks (ops ++ more (enough k) k.sent) k.value k.memory next (one_kept ops r m k a h cs.0.1) b.1 cs.1

-- ---- the theorems

pub kept : (c : FgoConfig) (r : FixedLagRefiner) (ks : List Call) → Own c r ks → let e = left r no_memory ks in Kept e.0 e.1
kept c r ks o =
    let p = opened_new c r o.opening in
    all_kept c p.0 ks [] r no_memory
    (subst (λ r. Reached c [] r no_memory) p.1 (at_new c no_memory)) (subst (λ r. Kept r no_memory) p.1 (new_kept c)) o.bytes o.calls

pub same :
    (c d : FgoConfig) (r q : FixedLagRefiner) (ks ls : List Call) → Own c r ks → Own d q ls →
    let e = left r no_memory ks in let f = left q no_memory ls in Alike e.0 e.1 f.0 f.1 → e.1 ≡ f.1
same c d r q ks ls o p a = kept c r ks o ∙ (λ i. laid (a.state i) (a.bodies i)) ∙ sym (kept d q ls p)
