-- The detections in windows of a scan, gathered association by association: their ids, their engine ids and their dots.
-- Assumes nothing.
use Prim.Native.Nat.{ℕ, zero, suc, ◌+◌, ◌≤◌, ◌<◌}
use native.Mathlib.Numerals.{add-one}
use native.Mathlib.Omega.{arith}
use mathlib.Core.Path.{◌≡◌, refl, sym, ap, ◌∙◌}
use mathlib.Core.List.{List, [], ◌∷◌, ◌++◌, map, append-nil, map-append}
use lib.ListN.{length, take, drop, get_or, set, length-append, length-map}
use lib.Seq.{take_all, set_split}
use Rattle.bounds.specs.Bounds.{DETECTIONS}
use Rattle.kf.specs.declared.filter.Dot.{Dot}
use Rattle.engine.specs.declared.config.FgoConfig.{FgoConfig}
use Rattle.engine.specs.declared.types.Association.{Association}
use Rattle.engine.specs.Frame.{Frame, no_association, engine_of}
use Rattle.engine.specs.Body.{Body, rows, frame_in, associations_in}
use Rattle.engine.proofs.Passing.{row_at, length-rows}
use Rattle.fgo_spec.specs.Windows.{detection_of}
use Rattle.buffers.specs.Buffers.{over}
use Rattle.fgo_state.specs.Memory.{id_at, association_in}
use Rattle.fgo_state.specs.Gathering.{HeldDetection, gathered_in, ids_of, engines_of, held_dot, dots_of, dot_in, found_in, GathersScan, GatheredScan}
use Rattle.fgo_state.proofs.Counts.{associations_long}
use Rattle.buffers.proofs.Writes.{WrittenOver, written_none, written-more, written_same}

-- ---- something of each of those gathered, written from place o on

module _ {A : Type 0} (f : HeldDetection → A) (o : ℕ) (l : List A) where
  -- and of more of them
  pub written-gathered : (gs hs : List HeldDetection) {ks : List HeldDetection} {p : ℕ} {l' l'' : List A} → WrittenOver o (map f gs) l l' → gs ++ hs ≡ ks → p ≡ o + length gs → p + length hs ≤ length l → l'' ≡ over p (map f hs) l' → WrittenOver o (map f ks) l l''
  written-gathered gs hs {ks} {p} {l'} {l''} w e q h r =
      let a : length (map f gs) ≡ length gs = length-map gs f in
      let b : length (map f hs) ≡ length hs = length-map hs f in
      let n : p ≡ o + length (map f gs) = omega arith in
      written_same o l (written-more o l (map f gs) (map f hs) w (omega arith) (r ∙ ap (λ (i : ℕ). over i (map f hs) l') n)) (sym (map-append f gs hs) ∙ ap (map f) e) refl

  -- and of one more
  written_one : (gs : List HeldDetection) (z : HeldDetection) {ks : List HeldDetection} {p : ℕ} {l' l'' : List A} → WrittenOver o (map f gs) l l' → gs ++ (z ∷ []) ≡ ks → p ≡ o + length gs → p < length l → l'' ≡ set l' p (f z) → WrittenOver o (map f ks) l l''
  unfolding over
  written_one gs z {ks} {p} {l'} {l''} w e q h r =
      let a : length l' ≡ length l = w.long in
      let n : suc p ≡ p + 1 = omega arith in
      written-gathered gs (z ∷ []) w e q (omega arith) (r ∙ set_split l' p (f z) (omega arith) ∙ ap (λ (k : ℕ). take p l' ++ (f z ∷ drop k l')) n)

-- ---- of any associations and ids

module _ (n : ℕ) (f : Frame) where
  gathered-more : (l : List Association) (is : List ℕ) (j : ℕ) (d : Association) (e : ℕ) → j < length l → j < length is → gathered_in n f (take (suc j) l) (take (suc j) is) ≡ gathered_in n f (take j l) (take j is) ++ gathered_in n f (get_or l j d ∷ []) (get_or is j e ∷ [])
  unfolding gathered_in
  gathered-more [] is j d e h k = absurd (omega arith)
  gathered-more (a ∷ l) [] j d e h k = absurd (omega arith)
  gathered-more (a ∷ l) (zero ∷ is) zero d e h k = refl
  gathered-more (a ∷ l) (suc i ∷ is) zero d e h k = refl
  gathered-more (a ∷ l) (zero ∷ is) (suc j) d e h k = gathered-more l is j d e (omega arith) (omega arith)
  gathered-more (a ∷ l) (suc i ∷ is) (suc j) d e h k = ap (λ r. record { engine = engine_of a.track; id = suc i; dot = detection_of n f a } ∷ r) (gathered-more l is j d e (omega arith) (omega arith))

  gathered_few : (l : List Association) (is : List ℕ) (j : ℕ) → length (gathered_in n f (take j l) (take j is)) ≤ length (gathered_in n f l is)
  unfolding gathered_in
  gathered_few l is zero = omega arith
  gathered_few [] is (suc j) = omega arith
  gathered_few (a ∷ l) [] (suc j) = omega arith
  gathered_few (a ∷ l) (zero ∷ is) (suc j) = gathered_few l is j
  gathered_few (a ∷ l) (suc i ∷ is) (suc j) = omega (arith, gathered_few l is j)

  one-held : (a : Association) (i : ℕ) → 0 < i → gathered_in n f (a ∷ []) (i ∷ []) ≡ record { engine = engine_of a.track; id = i; dot = detection_of n f a } ∷ []
  unfolding gathered_in
  one-held a zero h = absurd (omega arith)
  one-held a (suc i) h = refl

  one-clutter : (a : Association) (i : ℕ) → i ≤ 0 → gathered_in n f (a ∷ []) (i ∷ []) ≡ []
  unfolding gathered_in
  one-clutter a zero h = refl
  one-clutter a (suc i) h = absurd (omega arith)

-- ---- of the body of a scan

module _ (columns : List ℕ) (n : ℕ) (s : Body) where
  -- those among its first j associations
  abbrev pub found_by : ℕ → List HeldDetection
  found_by j = gathered_in n (frame_in s) (take j (frame_in s).associations) (take j (rows (id_at columns n) 0 (associations_in s)))

  -- association j
  abbrev pub found_at : ℕ → HeldDetection
  found_at j = record { engine = engine_of (association_in s j).track; id = id_at columns n j; dot = detection_of n (frame_in s) (association_in s j) }

  by-more : (j : ℕ) → j < associations_in s → found_by (j + 1) ≡ found_by j ++ gathered_in n (frame_in s) (association_in s j ∷ []) (id_at columns n j ∷ [])
  by-more j h =
      let l = (frame_in s).associations in
      let is = rows (id_at columns n) 0 (associations_in s) in
      let a = associations_long s in
      let b = length-rows (id_at columns n) 0 (associations_in s) in
      ap found_by (add-one j)
      ∙ gathered-more n (frame_in s) l is j no_association 0 (omega arith) (omega arith)
      ∙ ap (λ (i : ℕ). found_by j ++ gathered_in n (frame_in s) (association_in s j ∷ []) (i ∷ [])) (row_at (id_at columns n) (associations_in s) j 0 h)

  by-held : (j : ℕ) → j < associations_in s → 0 < id_at columns n j → found_by (j + 1) ≡ found_by j ++ (found_at j ∷ [])
  by-held j h k = by-more j h ∙ ap (λ r. found_by j ++ r) (one-held n (frame_in s) (association_in s j) (id_at columns n j) k)

  by-clutter : (j : ℕ) → j < associations_in s → id_at columns n j ≤ 0 → found_by (j + 1) ≡ found_by j
  by-clutter j h k = by-more j h ∙ ap (λ r. found_by j ++ r) (one-clutter n (frame_in s) (association_in s j) (id_at columns n j) k) ∙ append-nil (found_by j)

  by_all : (j : ℕ) → associations_in s ≤ j → found_by j ≡ found_in columns n s
  by_all j h =
      let a = associations_long s in
      let b = length-rows (id_at columns n) 0 (associations_in s) in
      ap (λ l. gathered_in n (frame_in s) l (take j (rows (id_at columns n) 0 (associations_in s)))) (take_all j (frame_in s).associations (omega arith))
      ∙ ap (gathered_in n (frame_in s) (frame_in s).associations) (take_all j (rows (id_at columns n) 0 (associations_in s)) (omega arith))

  by-few : (j : ℕ) → length (found_by j) ≤ length (found_in columns n s)
  by-few j = gathered_few n (frame_in s) (frame_in s).associations (rows (id_at columns n) 0 (associations_in s)) j

  -- one more, and there is room for it
  by-room : (j : ℕ) → j < associations_in s → 0 < id_at columns n j → length (found_by j) < length (found_in columns n s)
  by-room j h k = omega (arith, by-few (j + 1), ap length (by-held j h k), length-append (found_by j) (found_at j ∷ []))

-- ---- a loop that gathers ids and engine ids stands at association j

pub record Gathers (columns : List ℕ) (n : ℕ) (s : Body) (o j p : ℕ) (is es is' es' : List ℕ) : Type 0 where
  pub some : j ≤ associations_in s
  pub place : p ≡ o + length (found_by columns n s j)
  pub ids : WrittenOver o (ids_of (found_by columns n s j)) is is'
  pub engines : WrittenOver o (engines_of (found_by columns n s j)) es es'

module _ (columns : List ℕ) (n : ℕ) (s : Body) (o : ℕ) (is es : List ℕ) where
  pub gathers_none : Gathers columns n s o 0 o is es is es
  unfolding gathered_in
  gathers_none = record { some = omega arith; place = omega arith; ids = written_none o is; engines = written_none o es }

  module _ (fits : GathersScan s columns n o is es) {j p : ℕ} {is' es' : List ℕ} (g : Gathers columns n s o j p is es is' es') where
    pub gathers_room : j < associations_in s → 0 < id_at columns n j → (p < length is') × (p < length es')
    gathers_room h k =
        let r = by-room columns n s j h k in
        let q = g.place in
        let a = fits.room in
        let b = fits.beside in
        let d = g.ids.long in
        let e = g.engines.long in
        (omega arith, omega arith)

    pub gathers_held : {x y q : ℕ} {is'' es'' : List ℕ} → j < associations_in s → x ≡ id_at columns n j → 0 < x → y ≡ engine_of (association_in s j).track → is'' ≡ set is' p x → es'' ≡ set es' p y → q ≡ p + 1 → Gathers columns n s o (j + 1) q is es is'' es''
    gathers_held {x} {y} {q} {is''} {es''} h ex k ey ei ee eq =
        let held : 0 < id_at columns n j = omega arith in
        let r = gathers_room h held in
        let b = fits.beside in
        let d = g.ids.long in
        let e = g.engines.long in
        let f = found_by columns n s j in
        let z = found_at columns n s j in
        let m : f ++ (z ∷ []) ≡ found_by columns n s (j + 1) = sym (by-held columns n s j h held) in
        record {
          some = omega arith;
          place = omega (arith, g.place, ap length m, length-append f (z ∷ []));
          ids = written_one (λ a. a.id) o is f z g.ids m g.place (omega arith) (ei ∙ ap (set is' p) ex);
          engines = written_one (λ a. a.engine) o es f z g.engines m g.place (omega arith) (ee ∙ ap (set es' p) ey);
        }

    pub gathers_clutter : {x q : ℕ} {is'' es'' : List ℕ} → j < associations_in s → x ≡ id_at columns n j → x ≤ 0 → is'' ≡ is' → es'' ≡ es' → q ≡ p → Gathers columns n s o (j + 1) q is es is'' es''
    gathers_clutter h ex k ei ee eq =
        let m : found_by columns n s j ≡ found_by columns n s (j + 1) = sym (by-clutter columns n s j h (omega arith)) in
        record {
          some = omega arith;
          place = omega (arith, g.place, ap length m);
          ids = written_same o is g.ids (ap ids_of m) ei;
          engines = written_same o es g.engines (ap engines_of m) ee;
        }

    pub gathers_all : associations_in s ≤ j → GatheredScan (found_in columns n s) o p is es is' es'
    gathers_all h =
        let m = by_all columns n s j h in
        record {
          count = g.place ∙ ap (λ l. o + length l) m;
          ids = g.ids.written ∙ ap (λ l. over o (ids_of l) is) m;
          engines = g.engines.written ∙ ap (λ l. over o (engines_of l) es) m;
        }

-- ---- a loop that writes their dots stands at association j

pub record Dots (c : FgoConfig) (columns : List ℕ) (n : ℕ) (s : Body) (o j p : ℕ) (ds ds' : List Dot) : Type 0 where
  pub some : j ≤ associations_in s
  pub place : p ≡ o + length (found_by columns n s j)
  pub dots : WrittenOver o (dots_of c (found_by columns n s j)) ds ds'

module _ (c : FgoConfig) (columns : List ℕ) (n : ℕ) (s : Body) (o : ℕ) (ds : List Dot) where
  -- that of association j
  dot_found : (j : ℕ) → held_dot c (found_at columns n s j) ≡ dot_in c s j
  unfolding detection_of
  dot_found j = refl

  pub dots_none : Dots c columns n s o 0 o ds ds
  unfolding gathered_in
  dots_none = record { some = omega arith; place = omega arith; dots = written_none o ds }

  module _ (long : length ds ≡ DETECTIONS) (fits : o + length (found_in columns n s) ≤ DETECTIONS) {j p : ℕ} {ds' : List Dot} (g : Dots c columns n s o j p ds ds') where
    pub dots_room : j < associations_in s → 0 < id_at columns n j → p < DETECTIONS
    dots_room h k = omega (arith, by-room columns n s j h k, g.place)

    pub dots_held : {x q : ℕ} {ds'' : List Dot} → j < associations_in s → x ≡ id_at columns n j → 0 < x → ds'' ≡ set ds' p (dot_in c s j) → q ≡ p + 1 → Dots c columns n s o (j + 1) q ds ds''
    dots_held {x} {q} {ds''} h ex k ed eq =
        let held : 0 < id_at columns n j = omega arith in
        let f = found_by columns n s j in
        let z = found_at columns n s j in
        let m : f ++ (z ∷ []) ≡ found_by columns n s (j + 1) = sym (by-held columns n s j h held) in
        record {
          some = omega arith;
          place = omega (arith, g.place, ap length m, length-append f (z ∷ []));
          dots = written_one (held_dot c) o ds f z g.dots m g.place (omega (arith, dots_room h held)) (ed ∙ ap (set ds' p) (sym (dot_found j)));
        }

    pub dots_clutter : {x q : ℕ} {ds'' : List Dot} → j < associations_in s → x ≡ id_at columns n j → x ≤ 0 → ds'' ≡ ds' → q ≡ p → Dots c columns n s o (j + 1) q ds ds''
    dots_clutter h ex k ed eq =
        let m : found_by columns n s j ≡ found_by columns n s (j + 1) = sym (by-clutter columns n s j h (omega arith)) in
        record { some = omega arith; place = omega (arith, g.place, ap length m); dots = written_same o ds g.dots (ap (dots_of c) m) ed }

    pub dots_all : associations_in s ≤ j → (p ≡ o + length (found_in columns n s)) × (ds' ≡ over o (dots_of c (found_in columns n s)) ds)
    dots_all h =
        let m = by_all columns n s j h in
        (g.place ∙ ap (λ l. o + length l) m, g.dots.written ∙ ap (λ l. over o (dots_of c l) ds) m)
