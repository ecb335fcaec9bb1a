-- A push, by what its steps answer: a refusal, a frame that is held, or a frame that is held while the oldest leaves.
-- Assumes nothing.
use Prim.Native.Nat.{ℕ, zero, suc, ◌≤◌, ◌<◌}
use native.Mathlib.Omega.{arith}
use mathlib.Core.Path.{◌≡◌, refl, sym, ap, subst, ◌∙◌}
use mathlib.Core.Bool.{true}
use mathlib.Core.List.{List, [], ◌∷◌}
use lib.ListN.{length}
use lib.Dec.{ltb}
use lib.Ieee.{Float}
use borrow.Author.Tests.{lt-ltb, le-ltb, eq-eqb}
use Rattle.buffers.specs.Answer.{pushed, taken, Reply, refused, waits, gives, Unchanged, Answer, Held}
use Rattle.engine.specs.Config.{lag}
use Rattle.engine.specs.Body.{Body, frame_in}
use Rattle.engine.proofs.Every.{all_true}
use Rattle.engine.proofs.Passing.{length-rows}
use Rattle.fgo_spec.specs.Windows.{Scan}
use Rattle.fgo_spec.specs.Emitting.{Emitted}
use Rattle.fgo_spec.specs.Refiner.{State, emit, arrive, freeze_oldest, settle, takes}
use Rattle.fgo_state.specs.declared.state.FixedLagRefiner.{FixedLagRefiner}
use Rattle.fgo_state.specs.declared.state.Memory.{Memory}
use Rattle.fgo_state.specs.Memory.{scan_in, state_of}
use Rattle.fgo_state.specs.Contents.{arrived, settled, memory_after}
use Rattle.fgo_state.specs.Sound.{bodies_ok, sound_ok}
use Rattle.fgo_state.specs.declared.gather.Gathered.{Gathered}
use Rattle.fgo_state.specs.Gathered.{GatheredOf}
use Rattle.fgo_state.proofs.GatheringHeld.{found_count}
use Rattle.fgo_refuse.specs.Refusing.{Refuses, push_refusal}
use Rattle.fgo_refuse.proofs.Refusals.{detections, push_refused, push-accepted}
use Rattle.fgo_arrive.specs.Arriving.{Arrived}
use Rattle.fgo_arrive.proofs.ReadyLaw.{sound_tells, sound_ready}
use Rattle.fgo.specs.Promise.{later_refusal, due, Carried, Promised}
use Rattle.fgo.proofs.Answering.{due_passed}

-- counts that are few
pub refuses : (r : FixedLagRefiner) (m : Memory) → sound_ok r m ≡ true → Refuses r (detections r m)
refuses r m h =
    let z = sound_ready r m h in
    let k = (sound_tells r m h).room in
    record { few = z.few; early = z.early; frozen = omega arith; owned = z.owners; room = omega arith }

-- as many were gathered
pub as_gathered : (r : FixedLagRefiner) (m : Memory) {es es' : List ℕ} {g : Gathered} → GatheredOf m.scans r.first.0 r.held es g es' → g.count ≡ detections r m
as_gathered r m g = omega (arith, g.all.scans.count, found_count m.scans.bodies m.scans.columns r.first.0 r.held)

-- so it is refused as by that many
pub as_many_refused : (r : FixedLagRefiner) (m : Memory) (b : Body) {es es' : List ℕ} {g : Gathered} {k : ℕ} → GatheredOf m.scans r.first.0 r.held es g es' →
    k ≡ push_refusal r g.count m.owners b → k ≡ push_refusal r (detections r m) m.owners b
as_many_refused r m b g h = h ∙ ap (λ (n : ℕ). push_refusal r n m.owners b) (as_gathered r m g)

module _ (r : FixedLagRefiner) (m : Memory) (b : Body) (ws : List ℕ) (ns : List Float) (none : later_refusal r m (length ws) (length ns) ≡ 0) where
  abbrev t : State
  t = state_of r m

  abbrev replied : Reply Emitted × State
  replied = due r m (pushed b) ws ns

  -- 5 to 10
  pub push_numbered : (k : ℕ) → k ≡ push_refusal r (detections r m) m.owners b → (k ≡ 0 → ⊥) → replied ≡ (refused k, t)
  push_numbered zero h n = absurd (n refl)
  push_numbered (suc k) h n = due_passed r m ws ns (pushed b) none ∙ push_refused r m b k (sym h)

  -- ---- a frame that is accepted

  module _ (accepted : push_refusal r (detections r m) m.owners b ≡ 0) (u : FixedLagRefiner) (m' : Memory) (a : Arrived r m b u m') where
    push-settles : replied ≡ settle r.config (state_of u m') (ltb (lag r.config) u.held)
    unfolding state_of
    push-settles =
        due_passed r m ws ns (pushed b) none ∙ push-accepted r m b accepted
        ∙ ap (λ x. settle r.config x (ltb (lag r.config) (length x.scans))) (sym a.state)
        ∙ ap (λ (n : ℕ). settle r.config (state_of u m') (ltb (lag r.config) n)) (length-rows (scan_in m'.scans.bodies m'.scans.columns) u.first.0 u.held)

    bodies-pass : bodies_ok m'.scans.bodies m'.scans.columns u.first.0 u.held ≡ true
    unfolding bodies_ok
    bodies-pass = all_true _ u.held (λ i l. eq-eqb _ 0 (a.ready.passes i l))

    -- no more are held than the lag
    pub push-held : u.held ≤ lag u.config → Promised (pushed b) r m ws ns Held u m' ws ns
    unfolding settle
    push-held h =
        let e : replied ≡ (waits, state_of u m') = push-settles ∙ ap (settle r.config (state_of u m')) (le-ltb _ _ (subst (λ c. u.held ≤ lag c) a.settings h)) in
        subst (λ x. Carried (pushed b) x r m ws ns Held u m' ws ns) (sym e)
        (record {
          ends = record { answered = refl; state = refl; words = refl; numbers = refl; small = tt; unchanged = tt };
          memory = a.memory;
          settings = a.settings;
          bodies = λ h. bodies-pass;
          sized = tt;
        })

    -- the oldest leaves, and a frame is given
    oldest-gives : (P : Reply Emitted → Type 0) → ((e : Emitted) → P (gives e)) → (x : State) (ss : List Scan) → 1 ≤ length ss → P (freeze_oldest u.config x ss).0
    unfolding freeze_oldest
    oldest-gives P p x [] h = absurd (omega arith)
    oldest-gives P p x (z ∷ ss) h = p (emit u.config x.first x.prefixes z)

    -- what that makes of the memory, as of what it was before the frame arrived
    settled-as : settled u.config (state_of u m') (state_of u m').scans m' ≡ (let x = arrive r.config t (frame_in b) in settled r.config x x.scans (arrived r.config t b m))
    settled-as =
        ap (λ c. settled c (state_of u m') (state_of u m').scans m') a.settings
        ∙ ap (λ x. settled r.config x x.scans m') a.state
        ∙ ap (settled r.config (arrive r.config t (frame_in b)) (arrive r.config t (frame_in b)).scans) a.memory

    pub push_leaves :
        lag u.config < u.held → {g : Answer} {v : FixedLagRefiner} {n : Memory} {ws' : List ℕ} {ns' : List Float} →
        Carried taken (takes u.config (state_of u m')) u m' ws ns g v n ws' ns' → Promised (pushed b) r m ws ns g v n ws' ns'
    unfolding settle state_of takes
    push_leaves h {g} {v} {n} {ws'} {ns'} k =
        let x : State = state_of u m' in
        let e : replied ≡ takes u.config x =
        push-settles ∙ ap (settle r.config x) (lt-ltb _ _ (subst (λ c. lag c < u.held) a.settings h)) ∙ ap (λ c. freeze_oldest c x x.scans) (sym a.settings) in
        let some : 1 ≤ length x.scans = omega (arith, length-rows (scan_in m'.scans.bodies m'.scans.columns) u.first.0 u.held) in
        subst (λ y. Carried (pushed b) y r m ws ns g v n ws' ns') (sym e)
        (record {
          ends =
              record {
                answered = k.ends.answered;
                state = k.ends.state;
                words = k.ends.words;
                numbers = k.ends.numbers;
                small = k.ends.small;
                unchanged = oldest-gives (λ y. Unchanged y r m v n) (λ e. tt) x x.scans some;
              };
          memory = k.memory ∙ oldest-gives (λ y. memory_after u.config x taken y m' ≡ memory_after r.config t (pushed b) y m) (λ e. settled-as) x x.scans some;
          settings = k.settings ∙ a.settings;
          bodies = λ h. k.bodies bodies-pass;
          sized = k.sized;
        })
