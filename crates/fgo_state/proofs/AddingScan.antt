-- One held scan more is added to what was gathered, and what was gathered of scans that are held still. Assumes
-- nothing.
use Prim.Native.Nat.{ℕ, ◌+◌, ◌-◌, ◌≤◌, ◌<◌}
use native.Mathlib.Nat.{eq-or-lt_of_le}
use native.Mathlib.Omega.{arith}
use mathlib.Core.Path.{◌≡◌, sym, ap, ◌∙◌}
use mathlib.Core.List.{List, [], ◌∷◌, ◌++◌, map, append_assoc}
use mathlib.Core.Logic.{⊎_elim}
use lib.ListN.{length, take, get_or, replicate, length-append, length-map}
use lib.Seq.{take_at}
use Rattle.std.proofs.lemmas.List.{length-replicate, get_or-replicate}
use Rattle.bounds.specs.Bounds.{SCANS, STARTS, DETECTIONS}
use Rattle.engine.specs.Body.{Body, rows}
use Rattle.engine.proofs.Passing.{length-rows}
use Rattle.fgo_spec.specs.Windows.{Scan}
use Rattle.fgo_spec.proofs.Rows.{rows_parts}
use Rattle.buffers.specs.Buffers.{over}
use Rattle.buffers.proofs.Over.{length_over, over-before, over_in}
use Rattle.buffers.proofs.Writes.{WrittenOver, written_none}
use Rattle.fgo_state.specs.declared.scans.Scans.{Scans}
use Rattle.fgo_state.specs.declared.gather.Gathered.{Gathered}
use Rattle.fgo_state.specs.Memory.{body_at, scan_in, scans_in}
use Rattle.fgo_state.specs.Gathering.{HeldDetection, gathered, found_in, found_of, HeldScans, GatheredScan}
use Rattle.fgo_state.specs.Gathered.{GatheredOf, AddedScan}
use Rattle.fgo_state.proofs.GatheringHeld.{found_next, found_room}
use Rattle.fgo_state.proofs.GatheringScan.{written-gathered}

-- ---- starts that are filled with p from place k + 1 on

module _ (ts ts' : List ℕ) (k p : ℕ) (few : k < SCANS) (long : length ts ≡ STARTS) (e : ts' ≡ over (k + 1) (replicate (STARTS - (k + 1)) p) ts) where
  pub filled_before : (i : ℕ) → i ≤ k → get_or ts' i 0 ≡ get_or ts i 0
  filled_before i l = let r = length-replicate (STARTS - (k + 1)) p in rw e (over-before (k + 1) (replicate (STARTS - (k + 1)) p) ts (omega arith) i 0 (omega arith))

  pub filled_beyond : (i : ℕ) → k < i → i < STARTS → get_or ts' i 0 ≡ p
  filled_beyond i l m =
      let r = length-replicate (STARTS - (k + 1)) p in
      let at : k + 1 + (i - (k + 1)) ≡ i = omega arith in
      rw e (rw at at (over_in (k + 1) (replicate (STARTS - (k + 1)) p) ts (omega arith) (i - (k + 1)) 0 (omega arith)) ∙ get_or-replicate (STARTS - (k + 1)) (i - (k + 1)) p 0 (omega arith))

  pub filled_long : length ts' ≡ STARTS
  filled_long = let r = length-replicate (STARTS - (k + 1)) p in ap length e ∙ length_over (k + 1) (replicate (STARTS - (k + 1)) p) ts (omega arith) ∙ long

-- ---- one scan more

-- something of each of those gathered, written to a list that is long enough
written : {A : Type 0} (f : HeldDetection → A) (gs : List HeldDetection) {l l' : List A} → length gs ≤ length l → l' ≡ over 0 (map f gs) l → WrittenOver 0 (map f gs) l l'
written f gs {l} {l'} h e = record { long = ap length e ∙ length_over 0 (map f gs) l (omega (arith, length-map gs f)); written = e }

module _ (s : Scans) (first : ℕ) (es : List ℕ) where
  pub none_gathered : (g : Gathered) → g.ids ≡ replicate DETECTIONS 0 → g.starts ≡ replicate STARTS 0 → g.held ≡ 0 → g.count ≡ 0 → GatheredOf s first 0 es g es
  unfolding rows gathered
  none_gathered g is ts held count =
      let none : (k : ℕ) → k < STARTS → get_or g.starts k 0 ≡ 0 = λ k l. ap (λ (t : List ℕ). get_or t k 0) ts ∙ get_or-replicate STARTS k 0 0 l in
      record {
        all =
            record {
              scans = record { count = count; ids = is ∙ (written_none 0 (replicate DETECTIONS 0)).written; engines = (written_none 0 es).written };
              starts =
                  λ k l.
                  let z : k ≡ 0 = omega arith in
                  rw z (none 0 (omega arith));
              beyond = λ k l m. none k m ∙ sym count;
              long = ap length ts ∙ length-replicate {A = ℕ} STARTS 0;
            };
        as_many = held;
      }

  module _ {held k : ℕ} (h : HeldScans s.bodies s.columns first held) (l : k < held) {u : Gathered} {es' : List ℕ} (g : GatheredOf s first k es u es') {b : Body} {cs : List ℕ} {n : ℕ} (a : (cs ≡ s.columns) × (n ≡ first + k) × (b ≡ body_at s.bodies s.columns (first + k))) where
    -- there is room for it
    pub add_fits : (u.held < SCANS) × (u.count + length (found_in cs n b) ≤ DETECTIONS)
    add_fits = (omega (arith, h.few, g.as_many), rw (a.0, a.1, a.2) (omega (arith, found_room s.bodies s.columns first k h l, g.all.scans.count)))

    pub added : length es ≡ DETECTIONS → {v : Gathered} {es'' : List ℕ} → AddedScan (found_in cs n b) u es' v es'' → GatheredOf s first (k + 1) es v es''
    added le {v} {es''} x =
        let w : GatheredScan (found_in s.columns (first + k) b) u.count v.count u.ids es' v.ids es'' = rw (a.0, a.1) at x.scan in
        let e = a.2 in
        let few : k < SCANS = omega (arith, h.few) in
        let f = found_of s.bodies s.columns first k in
        let z = found_in s.columns (first + k) b in
        let m : f ++ z ≡ found_of s.bodies s.columns first (k + 1) = rw e (sym (found_next s.bodies s.columns first k)) in
        let r : length f + length z ≤ DETECTIONS = rw e (found_room s.bodies s.columns first k h l) in
        let o : u.count ≡ 0 + length f = g.all.scans.count in
        let c : v.count ≡ length (found_of s.bodies s.columns first (k + 1)) = omega (arith, w.count, o, length-append f z, ap length m) in
        let li = length-replicate {A = ℕ} DETECTIONS 0 in
        let filled : v.starts ≡ over (k + 1) (replicate (STARTS - (k + 1)) v.count) u.starts = rw g.as_many at x.starts in
        record {
          all =
              record {
                scans =
                    record {
                      count = c ∙ (omega arith);
                      ids = (written-gathered (λ x. x.id) 0 (replicate DETECTIONS 0) f z (written (λ x. x.id) f (omega arith) g.all.scans.ids) m o (omega arith) w.ids).written;
                      engines = (written-gathered (λ x. x.engine) 0 es f z (written (λ x. x.engine) f (omega arith) g.all.scans.engines) m o (omega arith) w.engines).written;
                    };
                starts =
                    λ i j.
                    ⊎_elim
                    (λ (d : i ≡ k + 1). filled_beyond u.starts v.starts k v.count few g.all.long filled i (omega arith) (omega arith) ∙ c ∙ ap (λ (x : ℕ). length (found_of s.bodies s.columns first x)) (sym d))
                    (λ (d : i < k + 1). filled_before u.starts v.starts k v.count few g.all.long filled i (omega arith) ∙ g.all.starts i (omega arith))
                    (eq-or-lt_of_le j);
                beyond = λ i j q. filled_beyond u.starts v.starts k v.count few g.all.long filled i (omega arith) q;
                long = filled_long u.starts v.starts k v.count few g.all.long filled;
              };
          as_many = x.held ∙ ap (λ (i : ℕ). i + 1) g.as_many;
        }

-- ---- scans that are held still

-- rows that go on alike begin alike
rows_begin : {A : Type 0} (f g : ℕ → A) (o n : ℕ) (x : A) → rows f o (n + 1) ≡ rows g o n ++ (x ∷ []) → (k : ℕ) → k ≤ n → rows f o k ≡ rows g o k
rows_begin f g o n x e k l =
    let i : ℕ = n - k in
    let a : k + (i + 1) ≡ n + 1 = omega arith in
    let b : k + i ≡ n = omega arith in
    sym (take_at (rows f o k) (rows f (o + k) (i + 1)) k (length-rows f o k))
    ∙ ap (take k) (sym (rows_parts f o k (i + 1)) ∙ ap (rows f o) a ∙ e ∙ ap (λ (m : ℕ). rows g o m ++ (x ∷ [])) (sym b) ∙ ap (λ m. m ++ (x ∷ [])) (rows_parts g o k i) ∙ append_assoc (rows g o k) (rows g (o + k) i) (x ∷ []))
    ∙ take_at (rows g o k) (rows g (o + k) i ++ (x ∷ [])) k (length-rows g o k)

-- what was gathered of scans after which another one is held now
pub still_gathered : (s s' : Scans) (first held : ℕ) (x : Scan) → scans_in s'.bodies s'.columns first (held + 1) ≡ scans_in s.bodies s.columns first held ++ (x ∷ []) → {es es' : List ℕ} {g : Gathered} → GatheredOf s first held es g es' → GatheredOf s' first held es g es'
still_gathered s s' first held x e {es} {es'} {g} w =
    let same : (k : ℕ) → k ≤ held → found_of s.bodies s.columns first k ≡ found_of s'.bodies s'.columns first k = λ k l. ap (gathered first) (sym (rows_begin (scan_in s'.bodies s'.columns) (scan_in s.bodies s.columns) first held x e k l)) in
    let all : found_of s.bodies s.columns first held ≡ found_of s'.bodies s'.columns first held = same held (omega arith) in
    record {
      all =
          record {
            scans = rw all at w.all.scans;
            starts = λ k l. w.all.starts k l ∙ ap length (same k l);
            beyond = w.all.beyond;
            long = w.all.long;
          };
      as_many = w.as_many;
    }
