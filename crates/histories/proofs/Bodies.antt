-- Every emitted frame of a run over bytes is in bounds: by the bodies that say it, and by the frames emitted before it.
-- Assumes nothing.
use Prim.Native.Nat.{ℕ, zero, suc, ◌+◌, ◌^◌, ◌≤◌, ◌<◌}
use native.Mathlib.Nat.{le_trans}
use native.Mathlib.Omega.{arith}
use mathlib.Core.Path.{◌≡◌, refl, sym, ap, ◌∙◌, subst}
use mathlib.Core.Bool.{Bool, true, false, cond}
use mathlib.Core.List.{List, [], ◌∷◌, ◌++◌, map-append, append_assoc, Memᴰ}
use mathlib.Core.Option.{some, none-ne-some, some-injective}
use lib.ListN.{length, get_or, length-append}
use lib.Dec.{eqb, lit<}
use mir.Syntax.{w8}
use mir.Val.{Fits}
use Rattle.bounds.specs.Bounds.{ACCEPTED}
use Rattle.buffers.specs.Answer.{Op}
use Rattle.engine.specs.declared.config.FgoConfig.{FgoConfig}
use Rattle.engine.specs.declared.types.EngineTrack.{EngineTrack}
use Rattle.engine.specs.Little.{little}
use Rattle.engine.specs.Frame.{Frame, present, Associated, ClassLabel}
use Rattle.engine.specs.Body.{Body, layout, rows, track_at, frame_of, frame_in, body_refusal, tracks_in, sensors_in}
use Rattle.engine.proofs.Bytes.{little_below}
use Rattle.engine.proofs.Passing.{sized-body, few_sensors, length-rows}
use Rattle.engine.proofs.Layouts.{within}
use Rattle.fgo_spec.specs.Lists.{times}
use Rattle.fgo_spec.specs.Windows.{Scan, Detection, class_among, class_for, detection_of, window}
use Rattle.fgo_spec.specs.Freezing.{newer}
use Rattle.fgo_spec.specs.Emitting.{Listed, Emitted, class_word}
use Rattle.fgo_spec.specs.Rule.{All, Bytes, Spoken}
use Rattle.fgo_spec.specs.History.{Sent, run, scans_of, time_of, seen, class_over, afresh, Told}
use Rattle.fgo_spec.proofs.All.{All_weaken, All-left, All-right}
use Rattle.fgo_spec.proofs.Arrival.{Column}
use Rattle.fgo_spec.proofs.Windows.{window-All, window-length}
use Rattle.fgo_spec.proofs.Ruled.{emitted_spoken}
use Rattle.fgo_spec.proofs.HistoryLaw.{ran, spoken, history}
use Rattle.histories.proofs.Formed.{Bounded, Fine}
use Rattle.std.specs.Prelude.{None, Some}

-- ---- what a body says

module _ (s : List ℕ) (b : Bytes s) where
  byte_fits : (i : ℕ) → Fits w8 (get_or s i 0)
  byte_fits i = record { fits = go s b i }
    where
      go : (s : List ℕ) → Bytes s → (i : ℕ) → get_or s i 0 < 256
      go [] b i = lit< tt
      go (v ∷ s) b zero = b.0
      go (v ∷ s) b (suc i) = go s b.1 i

  -- four bytes
  four : (o : ℕ) → little 4 s o < 2 ^ 32
  four o = little_below 4 s o byte_fits

rows-All : {A : Type 0} (P : A → Type 0) (g : ℕ → A) → ((i : ℕ) → P (g i)) → (i n : ℕ) → All P (rows g i n)
unfolding rows
rows-All P g h i zero = tt
rows-All P g h i (suc n) = (h i, rows-All P g h (suc i) n)

abbrev Classed : ClassLabel → Type 0
Classed k = class_word k ≤ 2 ^ 32

class_bound : (n v : ℕ) → v < 2 ^ 32 → Classed (present n v)
class_bound zero v h = omega arith
class_bound (suc n) v h = omega arith

track_class : (s : List ℕ) → Bytes s → (o : ℕ) → Classed (track_at s o).class
unfolding track_at
track_class s b o = class_bound (get_or s (o + 12) 0) (little 4 s (o + 8)) (four s b (o + 8))

body-bounded : (s : Body) → Bytes s.bytes → body_refusal s ≡ 0 → Bounded (frame_in s)
unfolding frame_of
body-bounded s b z =
    let d = sized-body (layout s) s.bytes z in
    record {
      time = d.time;
      associations = rw length-rows (le_trans d.associations (within s.kind).associations);
      sensors = rw length-rows (few_sensors d);
      small = rows-All (λ v. v < 2 ^ 32) _ (λ i. four s.bytes b _) 0 (sensors_in s);
      classes = rows-All (λ t. Classed t.class) _ (λ i. track_class s.bytes b _) 0 (tracks_in s);
    }

spoken_bounded : (f : Frame) → Spoken f → Bounded f
spoken_bounded f p = subst Bounded p.3 (body-bounded p.0 p.1 p.2)

-- ---- the class of a track

among_bound : (e : ℕ) (k : ClassLabel) (ts : List EngineTrack) → Classed k → All (λ t. Classed t.class) ts → Classed (class_among e k ts)
unfolding class_among
among_bound e k [] h g = h
among_bound e k (t ∷ ts) h g = among_bound e (cond (eqb e t.id.0) t.class k) ts (go (eqb e t.id.0)) g.1
  where
    go : (b : Bool) → Classed (cond b t.class k)
    go true = g.0
    go false = h

for_bound : (a : Associated) (ts : List EngineTrack) → All (λ t. Classed t.class) ts → Classed (class_for a ts)
for_bound None ts g = omega arith
for_bound (Some e) ts g = among_bound e.0 None ts (omega arith) g

over_bound : (k : ClassLabel) (ds : List Detection) → Classed k → All (λ d. Classed d.class) ds → Classed (class_over k ds)
unfolding class_over
over_bound k [] h g = h
over_bound k (d ∷ ds) h g = over_bound (newer d.class k) ds (go d.class g.0) g.1
  where
    go : (l : ClassLabel) → Classed l → Classed (newer l k)
    go None q = h
    go (Some n) q = q

-- ---- a listed track

module _ (c : FgoConfig) (ops : List (Op Body)) (sent : All Sent ops) (past : List Emitted) (e : Emitted) (later : List Emitted) (q : (run c ops).emitted ≡ past ++ (e ∷ later)) where
  abbrev ss : List Scan
  ss = scans_of past ++ (e.scan ∷ [])

  scans-are : scans_of (run c ops).emitted ≡ ss ++ scans_of later
  scans-are =
      ap scans_of q ∙ map-append (λ e. e.scan) past (e ∷ later) ∙ sym (append_assoc (scans_of past) (e.scan ∷ []) (scans_of later))

  bounded-all : All (λ s. Bounded s.frame) ss
  bounded-all =
      let r = run c ops in
      All-left (λ s. Bounded s.frame) ss (scans_of later)
      (subst (All (λ s. Bounded s.frame)) scans-are
      (All_weaken (λ s. Spoken s.frame) (λ s. Bounded s.frame) (scans_of r.emitted) (λ s. spoken_bounded s.frame)
      (emitted_spoken c r.emitted r.accepted r.state (ran c ops).inv (spoken c ops sent))))

  told : Told c past e
  told = (history c ops).every past e later q

  once : (x : ℕ) → 0 < x → All (λ s. times x s.ids ≤ 1) ss
  once x h =
      let r = run c ops in
      All-left (λ s. times x s.ids ≤ 1) ss (scans_of later)
      (subst (All (λ s. times x s.ids ≤ 1)) scans-are
      (All_weaken (Column (λ x. x < r.state.next_id)) (λ s. times x s.ids ≤ 1) (scans_of r.emitted) (λ s k. k.regular.apart x h) (ran c ops).inv.gone))

  few-scans : length ss ≤ ACCEPTED
  few-scans =
      let i = (ran c ops).inv in
      omega (arith, i.room, i.first, ap length scans-are, length-append ss (scans_of later))

  track-bound : (l : Listed) → Memᴰ l e.tracks → Classed l.class × (l.count < 2 ^ 32)
  unfolding afresh
  track-bound l m = go (seen past e l.id) refl (told.listed l m).fresh
    where
      go : (w : List Detection) → window l.id 0 ss ≡ w → afresh c (time_of e) l.id w ≡ some l → Classed l.class × (l.count < 2 ^ 32)
      go [] p h = absurd (none-ne-some _ h)
      go (d ∷ ds) p h =
          let r = some-injective _ _ h in
          let n = window-length l.id 0 ss (once l.id (told.listed l m).id) in
          let k : All (λ d. Classed d.class) (d ∷ ds) =
          subst (All (λ d. Classed d.class)) p
          (window-All (λ d. Classed d.class) Bounded (length ss) (λ n f a g b. unfold detection_of in (for_bound a.track f.tracks b.classes)) l.id 0 ss (omega arith) bounded-all) in (
            subst (λ l. Classed l.class) r (over_bound None (d ∷ ds) (omega arith) k),
            subst (λ l. l.count < 2 ^ 32) r (omega (arith, ap length p, few-scans)),
          )

  pub fine : Fine e
  fine =
      record {
        bounded = (All-right (λ s. Bounded s.frame) (scans_of past) (e.scan ∷ []) bounded-all).0;
        complete = told.complete;
        few = told.few;
        tracks = track-bound;
      }
