-- The run of a recording: pushes one after another, takes one after another, and both from an opened refiner on.
-- Assumes nothing.
use Prim.Native.Nat.{ℕ, suc, ◌+◌, ◌≤◌, ◌<◌}
use native.Mathlib.Omega.{arith}
use mathlib.Core.Path.{◌≡◌, refl, sym, ap, ◌∙◌, subst}
use mathlib.Core.List.{List, [], ◌∷◌, ◌++◌, append-nil, append_assoc}
use lib.ListN.{length, replicate-append-replicate}
use lib.Dec.{leb}
use borrow.Author.Tests.{leb-true}
use Rattle.bounds.specs.Bounds.{LAG}
use Rattle.buffers.specs.Answer.{opened_by, Op, pushed, taken, opening_of}
use Rattle.engine.specs.declared.config.FgoConfig.{FgoConfig}
use Rattle.engine.specs.declared.types.BodyKind.TheVariants.{Narrow}
use Rattle.engine.specs.Config.{legal}
use Rattle.engine.specs.Body.{Body, body, rows}
use Rattle.engine.proofs.Every.{both}
use Rattle.recording.specs.Recording.{recorded_body}
use Rattle.fgo_spec.proofs.Rows.{front_more}
use Rattle.fgo_state.specs.declared.state.FixedLagRefiner.{FixedLagRefiner}
use Rattle.fgo_state.specs.declared.state.Memory.{Memory}
use Rattle.std.specs.Prelude.{Result, Ok}
use Rattle.refusals.specs.declared.Refusal.{Refusal}
use Rattle.fgo.specs.Promise.{new_by, open_refusal}
use Rattle.fgo.proofs.Opening.{opened_new}
use Rattle.smoother_window.specs.declared.FixedLagSmoother.{FixedLagSmoother}
use Rattle.smoother_window.specs.declared.SmootherConfig.{SmootherConfig}
use Rattle.smoother_window.specs.Config as Config
use Rattle.smoother.specs.Smoother.{opens}
use Rattle.smoother.specs.Promise.{Window, opening_of as opening_in}
use Rattle.histories.specs.Calls.{Calls}
use Rattle.histories.specs.Refined.{Reached}
use Rattle.histories.specs.Joined as Joined
use Rattle.histories.proofs.RefinedLaw.{at_new}
use Rattle.histories.proofs.JoinedLaw.{settings, fine, at_opened}
use Rattle.playback.specs.declared.steps.Player.{Player}
use Rattle.playback.specs.Smoothed.{Smoothed}
use Rattle.playback.specs.Played.{pushes, takes, Fresh, Led, Leads, Fewer, TakesAll, Played}

-- ---- where calls lead

-- no calls lead nowhere else
leads_none : (r : FixedLagRefiner) (m : Memory) → Leads [] r m r m
leads_none r m ok ops a = subst (λ l. Reached r.config l r m) (sym (append-nil ops)) a

-- some, then others
leads_then :
    {a b : List (Op Body)} {r : FixedLagRefiner} {m : Memory} {r' : FixedLagRefiner} {m' : Memory} {r'' : FixedLagRefiner} {m'' : Memory} →
    Leads a r m r' m' → Leads b r' m' r'' m'' → Leads (a ++ b) r m r'' m''
leads_then {a} {b} {r} {m} {r'} {m'} {r''} {m''} f g ok ops z =
    let x = f ok ops z in
    let e : r'.config ≡ r.config = x.settings in
    let y = g (ap legal e ∙ ok) (ops ++ a) (subst (λ c. Reached c (ops ++ a) r' m') (sym e) x) in
    subst (λ l. Reached r.config l r'' m'') (append_assoc ops a b) (subst (λ c. Reached c ((ops ++ a) ++ b) r'' m'') e y)

-- after calls have led on
led_on : {more : List (Op Body)} {r : FixedLagRefiner} {m : Memory} {r' : FixedLagRefiner} {m' : Memory} → Led r m → Leads more r m r' m' → Led r' m'
led_on {more} {r} {m} {r'} {m'} l f =
    let x = f l.settings l.calls l.reached in
    let e : r'.config ≡ r.config = x.settings in
    record { settings = ap legal e ∙ l.settings; calls = l.calls ++ more; reached = subst (λ c. Reached c (l.calls ++ more) r' m') (sym e) x }

-- ---- pushes

-- no frame of a recording
pub push_none : (s : List ℕ) (r : FixedLagRefiner) (m : Memory) → Leads (pushes s 0) r m r m
unfolding rows
push_none s r m = leads_none r m

-- one frame more
pub push_more :
    (s : List ℕ) (i : ℕ) (r : FixedLagRefiner) (m : Memory) (r' : FixedLagRefiner) (m' : Memory) (r'' : FixedLagRefiner) (m'' : Memory) →
    Leads (pushes s i) r m r' m' → Leads (pushed (body Narrow (recorded_body s i)) ∷ []) r' m' r'' m'' → Leads (pushes s (i + 1)) r m r'' m''
push_more s i r m r' m' r'' m'' f g =
    subst (λ l. Leads l r m r'' m'') (sym (front_more (λ i. pushed (body Narrow (recorded_body s i))) i)) (leads_then f g)

-- ---- takes

-- after some of the frames that r held were taken
pub record Taking (r : FixedLagRefiner) (m : Memory) (r' : FixedLagRefiner) (m' : Memory) : Type 0 where
  pub done : ℕ
  pub left : done + r'.held ≡ r.held
  pub leads : Leads (takes done) r m r' m'

-- one take more
pub take_more :
    {r : FixedLagRefiner} {m : Memory} {r' : FixedLagRefiner} {m' : Memory} (r'' : FixedLagRefiner) (m'' : Memory) → Led r m → Taking r m r' m' → 0 < r'.held →
    Fewer r' m' r'' → Leads (taken ∷ []) r' m' r'' m'' → Taking r m r'' m''
take_more {r} {m} {r'} r'' m'' l h some g f =
    let fewer : r'.held ≡ suc r''.held = g (led_on l h.leads) some in
    record {
      done = h.done + 1;
      left = omega (arith, h.left, fewer);
      leads = subst (λ l. Leads l r m r'' m'') (replicate-append-replicate h.done 1 taken) (leads_then h.leads f);
    }

-- ---- the run

module _ (r : FixedLagRefiner) (m : Memory) (f : Fresh r) where
  opened : Reached r.config [] r m
  opened = subst (λ q. Reached r.config [] q m) (sym f.new) (at_new r.config m)

  -- the pushes lead on from an opened refiner
  pub fresh_led : {more : List (Op Body)} {r' : FixedLagRefiner} {m' : Memory} → Leads more r m r' m' → Led r' m'
  fresh_led h = led_on (record { settings = f.settings; calls = []; reached = opened }) h

  pub played :
      {K : Type 0} {emptied : K → Type 0} {s : List ℕ} {n : ℕ} {r' : FixedLagRefiner} {m' : Memory} {r'' : FixedLagRefiner} {m'' : Memory} (p : Player K) →
      Leads (pushes s n) r m r' m' → TakesAll r' m' r'' m'' → p.refiner ≡ r'' → p.memory ≡ m'' → emptied p.sink → Played emptied s n r p
  played {s} {n} {r'} p h t e memory rest =
      record {
        held = r'.held;
        reached = rw (e, memory) (leads_then h t.leads f.settings [] opened);
        none = ap (λ (q : FixedLagRefiner). q.held) e ∙ t.none;
        rest = rest;
      }

-- ---- the start of a run

-- an opening that gives a refiner
pub fresh_of : (c : FgoConfig) (r : FixedLagRefiner) {o : Result FixedLagRefiner Refusal} → o ≡ Ok r → opening_of o ≡ opened_by (open_refusal c) (new_by c) → Fresh r
fresh_of c r e h =
    let p = opened_new c r (sym h ∙ ap opening_of e) in
    subst Fresh p.1 (record { settings = p.0; new = refl })

-- its lag is in bounds
pub lag-within : (r : FixedLagRefiner) → Fresh r → r.config.lag_frames ≤ LAG
unfolding legal
lag-within r f = leb-true _ _ (both (leb r.config.lag_frames LAG) _ f.settings).0

-- an opening that gives a smoother, over a window of so many words and numbers
pub opened_serves :
    (d : SmootherConfig) (w : Window) {words numbers : ℕ} {o : Result FixedLagSmoother Refusal} {s : FixedLagSmoother} →
    length w.words ≡ words → length w.numbers ≡ numbers → o ≡ Ok s → opening_in o w ≡ opens d words numbers → Smoothed s w
unfolding Calls
opened_serves d w {s = s} long deep e h =
    let q : Joined.Session d s w [] = record { opening = sym (ap (λ o. opening_in o w) e) ∙ h ∙ (λ i. opens d (sym long i) (sym deep i)); calls = tt } in
    let ok = (fine d s w [] q).0 in
    let a = at_opened d s w [] q in
    let g : s.config ≡ d = settings d ok [] s w a in
    record { settings = ap Config.legal g ∙ ok; calls = []; reached = subst (λ d. Joined.Reached d [] s w) (sym g) a }
