-- The oldest scan leaves: what is told of the frame that is emitted, and the invariant of the state that is left.
-- Assumes nothing.
use Prim.Native.Nat.{ℕ, suc, ◌+◌, ◌≤◌, ◌<◌}
use native.Mathlib.Nat.{le_trans, lt_irrefl, eq-zero-or-pos}
use native.Mathlib.Omega.{arith}
use mathlib.Core.Path.{◌≡◌, refl, sym, ap, ◌∙◌, subst}
use mathlib.Core.Logic.{inl, inr}
use mathlib.Core.List.Memᴰ
use mathlib.Core.List.{List, [], ◌∷◌, ◌++◌, map, append-nil, append_assoc, map-append, Memᴰ}
use mathlib.Core.Option.{Option, none, some, none-ne-some, some-injective}
use lib.ListN.{length, length-append, length-map}
use lib.Dec.{T}
use lib.IntN.{ℤ, ◌-ℤ◌}
use lib.Signed.{le_z, ◌≤ℤ◌, ≤ℤ_refl}
use lib.Ieee.Bits.{is_true}
use Rattle.engine.specs.declared.config.FgoConfig.{FgoConfig}
use Rattle.engine.specs.Config.{coast, forget_after}
use Rattle.engine.specs.Frame.{Frame}
use Rattle.engine.specs.Body.{NamedOnce}
use Rattle.fgo_spec.specs.Lists.{keep, has, times, find}
use Rattle.fgo_spec.specs.Windows.{Scan, Prefix, in_scan, window, present, in_windows, window_count}
use Rattle.fgo_spec.specs.Freezing.{freeze_scan, listable, kept, remember}
use Rattle.fgo_spec.specs.Emitting.{Listed, Emitted, report, listing}
use Rattle.fgo_spec.specs.Refiner.{State, emit, leave}
use Rattle.fgo_spec.specs.Rule.{All}
use Rattle.fgo_spec.specs.History.{scans_of, time_of, NeverBack, Rising, afresh, ToList, Told}
use Rattle.fgo_spec.proofs.All.{All-append, All-right, All_mem, mem_All}
use Rattle.fgo_spec.proofs.Counting.{or_right, count-le}
use Rattle.fgo_spec.proofs.Tables.{Up, up_keep, up_distinct, up_found, only, only_some, find-keep, find_mem, mem_find}
use Rattle.fgo_spec.proofs.Presence.{stands_present}
use Rattle.fgo_spec.proofs.Windows.{under_absent, window_snoc, detections_cons}
use Rattle.fgo_spec.proofs.Growing.{grown, grown-append, grown_none, freeze-all, freeze_up, freeze-length, report_of, grown-afresh}
use Rattle.fgo_spec.proofs.Ages.{age_mono, ≤ℤ_trans}
use Rattle.fgo_spec.proofs.Owners.{Owned, owned_leave}
use Rattle.fgo_spec.proofs.Arrival.{Column, column_weaken}
use Rattle.fgo_spec.proofs.Invariant.{LastBy, True, Good, Inv}

-- ---- times of emitted frames

never_snoc : (ts : List ℤ) (t : ℤ) → NeverBack (ts ++ (t ∷ [])) → NeverBack ts × LastBy ts t
unfolding NeverBack LastBy
never_snoc [] t h = (tt, tt)
never_snoc (r ∷ []) t h = (tt, h.0)
never_snoc (r ∷ s ∷ ts) t h = let k = never_snoc (s ∷ ts) t h.1 in ((h.0, k.0), k.1)

last_later : (ts : List ℤ) (a b : ℤ) → a ≤ℤ b → LastBy ts a → LastBy ts b
unfolding LastBy
last_later [] a b h l = tt
last_later (t ∷ []) a b h l = ≤ℤ_trans l h
last_later (s ∷ t ∷ ts) a b h l = last_later (t ∷ ts) a b h l

last_snoc : (ts : List ℤ) (t now : ℤ) → LastBy (ts ++ (t ∷ [])) now → t ≤ℤ now
unfolding LastBy
last_snoc [] t now l = l
last_snoc (s ∷ []) t now l = l
last_snoc (r ∷ s ∷ ts) t now l = last_snoc (s ∷ ts) t now l

-- ---- the frame and the state

module _ (c : FgoConfig) (es : List Emitted) (acc : List Frame) (t : State) (s : Scan) (ss : List Scan) (q : t.scans ≡ s ∷ ss) (i : Inv c es acc t) where
  abbrev past : List Scan
  past = scans_of es ++ (s ∷ [])

  abbrev now : ℤ
  now = s.frame.time

  -- the frozen parts with this scan's, and those that are kept
  abbrev froze : List (ℕ × Prefix)
  froze = freeze_scan c t.first s t.prefixes

  abbrev left : List (ℕ × Prefix)
  left = remember c now ss froze

  abbrev G : ℕ → Type 0
  G x = Good c (scans_of es) t.prefixes t.next_id x

  columns : All (Column G) (s ∷ ss)
  columns = subst (All (Column G)) q i.held

  froze-is : (x : ℕ) → 0 < x → find x froze ≡ grown c (find x t.prefixes) (in_scan x t.first s)
  froze-is x h = freeze-all c t.first s.frame x h s.frame.associations s.ids t.prefixes

  window_is : (x : ℕ) → window x 0 past ≡ window x 0 (scans_of es) ++ in_scan x t.first s
  window_is x = window_snoc x t.first (scans_of es) s i.first

  -- a frozen part that was true is true with this scan's observations
  true-froze : (x : ℕ) → 0 < x → True c (scans_of es) t.prefixes x → True c past froze x
  true-froze x h r =
      froze-is x h
      ∙ ap (λ p. grown c p (in_scan x t.first s)) r
      ∙ sym (grown-append c none (window x 0 (scans_of es)) (in_scan x t.first s))
      ∙ ap (grown c none) (sym (window_is x))

  -- an id that does not stand in the scan keeps its frozen part
  froze-other : (x : ℕ) → 0 < x → times x s.ids ≡ 0 → find x froze ≡ find x t.prefixes
  unfolding grown
  froze-other x h z = froze-is x h ∙ ap (grown c (find x t.prefixes)) (under_absent t.first s.frame x s.frame.associations s.ids z)

  froze-up : Up 0 froze
  froze-up = freeze_up c t.first s.frame s.frame.associations s.ids t.prefixes i.rise

  froze-good : (x : ℕ) (p : Prefix) → find x froze ≡ some p → (0 < x) × G x
  froze-good x p e =
      let h = up_found 0 x froze froze-up e in
      (h, elim (eq-zero-or-pos (times x s.ids)) [ inl z ↦ i.frozen x p (sym (froze-other x h z) ∙ e) | inr k ↦ columns.0.named x h k ])

  froze-true : (x : ℕ) (p : Prefix) → find x froze ≡ some p → True c past froze x
  froze-true x p e = let g = froze-good x p e in true-froze x g.0 g.1.0

  left_is : (x : ℕ) → find x left ≡ only (kept c now ss) x (find x froze)
  unfolding remember
  left_is x = find-keep (kept c now ss) x froze (up_distinct 0 froze froze-up)

  -- ---- the frame that is emitted

  abbrev em : Emitted
  em = emit c t.first t.prefixes s

  to-list : (x : ℕ) (p : Prefix) → find x froze ≡ some p → T (listable c now (x, p)) → ToList c es em (report c now x p)
  unfolding report emit
  to-list x p e y =
      record {
        id = (froze-good x p e).0;
        fresh = sym (grown-afresh c now x (window x 0 past)) ∙ ap (report_of c now x) (sym (froze-true x p e) ∙ e);
        young = y;
      }

  listed : (l : Listed) → Memᴰ l (listing c now froze) → ToList c es em l
  unfolding listing
  listed l m =
      let k = Memᴰ.of_map (λ e. report c now e.0 e.1) (keep (listable c now) froze) m in
      let e = k.0 in
      let f = mem_find e (keep (listable c now) froze) (up_distinct 0 (keep (listable c now) froze) (up_keep 0 (listable c now) froze froze-up)) k.1 in
      let g = only_some (listable c now) e.0 (find e.0 froze) (sym (find-keep (listable c now) e.0 froze (up_distinct 0 froze froze-up)) ∙ f) in
      subst (ToList c es em) k.2 (to-list e.0 e.1 g.0 g.1)

  -- what was emitted under an id that is not frozen is too old
  too-old :
      NeverBack (map time_of es) → LastBy (map time_of es) now → coast c ≤ℤ forget_after c → (x : ℕ) (p : Prefix) → 0 < x → find x froze ≡ none →
      grown c none (window x 0 past) ≡ some p → (at : ℤ) → now ≤ℤ at → T (le_z (at -ℤ p.last_ns) (coast c)) → ⊥
  too-old nb lb cf x p h e g at b a =
      let n = grown_none c (find x t.prefixes) (in_scan x t.first s) (sym (froze-is x h) ∙ e) in
      let w : window x 0 past ≡ window x 0 (scans_of es) = window_is x ∙ ap (λ l. window x 0 (scans_of es) ++ l) n.1 ∙ append-nil (window x 0 (scans_of es)) in
      i.dead nb cf x p h n.0 (ap (grown c none) (sym w) ∙ g) at (last_later (map time_of es) now at b lb) a

  exact :
      NeverBack (map time_of es) → LastBy (map time_of es) now → coast c ≤ℤ forget_after c → (x : ℕ) (l : Listed) → 0 < x → afresh c now x (window x 0 past) ≡ some l →
      T (le_z l.age (coast c)) → Memᴰ l (listing c now froze)
  unfolding listing report
  exact nb lb cf x l h e a = go (grown c none (window x 0 past)) refl (grown-afresh c now x (window x 0 past) ∙ e)
    where
      in_list : (p : Prefix) → report c now x p ≡ l → T (listable c now (x, p)) → find x froze ≡ some p → Memᴰ l (listing c now froze)
      in_list p r y f =
          Memᴰ.cast (sym r)
          (Memᴰ.map (λ e. report c now e.0 e.1)
          (find_mem x (keep (listable c now) froze) {a = p}
          (find-keep (listable c now) x froze (up_distinct 0 froze froze-up) ∙ ap (only (listable c now) x) f ∙ rw (is_true (listable c now (x, p)) y))))

      frozen? :
          (o : Option Prefix) → find x froze ≡ o → (p : Prefix) → grown c none (window x 0 past) ≡ some p → report c now x p ≡ l →
          T (listable c now (x, p)) → Memᴰ l (listing c now froze)
      frozen? none f p g r y = absurd (too-old nb lb cf x p h f g now (≤ℤ_refl now) y)
      frozen? (some p') f p g r y = in_list p r y (froze-true x p' f ∙ g)

      go : (o : Option Prefix) → grown c none (window x 0 past) ≡ o → report_of c now x o ≡ some l → Memᴰ l (listing c now froze)
      go none g r = absurd (none-ne-some _ r)
      go (some p) g r = frozen? (find x froze) refl p g (some-injective _ _ r) (subst (λ m. T (le_z m.age (coast c))) (sym (some-injective _ _ r)) a)

  rising-table : (k : ℕ) (ps : List (ℕ × Prefix)) → Up k ps → Rising (map (λ l. l.id) (map (λ e. report c now e.0 e.1) ps))
  unfolding Rising report
  rising-table k [] u = tt
  rising-table k (e ∷ []) u = tt
  rising-table k (e ∷ f ∷ ps) u = (u.1.0, rising-table e.0 (f ∷ ps) u.1)

  froze-length : length froze ≤ length t.prefixes + in_windows s.ids
  froze-length = freeze-length c t.first s.frame s.frame.associations s.ids t.prefixes

  held-count : window_count t.scans ≡ in_windows s.ids + window_count ss
  held-count = ap window_count q ∙ detections_cons s ss

  never : NeverBack (map time_of (es ++ (em ∷ []))) → NeverBack (map time_of es) × LastBy (map time_of es) now
  unfolding emit
  never nb = never_snoc (map time_of es) now (subst NeverBack (map-append time_of es (em ∷ [])) nb)

  pub told : All NamedOnce acc → Told c es em
  unfolding emit listing
  told named =
      record {
        named =
            (subst (λ l. All NamedOnce (map (λ r. r.frame) l)) q
            (All-right NamedOnce (map (λ e. e.scan.frame) es) (map (λ r. r.frame) t.scans) (subst (All NamedOnce) (sym i.order) named))).0;
        complete = columns.0.regular.complete;
        apart = columns.0.regular.apart;
        rising = rising-table 0 (keep (listable c now) froze) (up_keep 0 (listable c now) froze froze-up);
        few =
            rw (length-map (keep (listable c now) froze) (λ e. report c now e.0 e.1))
            (omega (arith, froze-length, held-count, i.sum, count-le (listable c now) froze));
        listed = listed;
        exact = λ nb cf l k. let n = never nb in exact n.0 n.1 cf l.id l k.id k.fresh k.young;
      }

  -- ---- the state that is left

  left_none : (x : ℕ) → find x froze ≡ none → find x left ≡ find x froze
  left_none x e = left_is x ∙ ap (only (kept c now ss) x) e ∙ sym e

  left-present : (x : ℕ) → T (has x (present ss)) → find x left ≡ find x froze
  left-present x h = left_is x ∙ go (find x froze)
    where
      go : (o : Option Prefix) → only (kept c now ss) x o ≡ o
      go none = refl
      go (some p) = rw (is_true (has x (present ss)) h)

  abbrev G' : ℕ → Type 0
  G' x = Good c past left t.next_id x

  left-frozen : (x : ℕ) (p : Prefix) → find x left ≡ some p → G' x
  left-frozen x p e =
      let f = only_some (kept c now ss) x (find x froze) (sym (left_is x) ∙ e) in
      (e ∙ sym f.0 ∙ froze-true x p f.0, (froze-good x p f.0).1.1)

  left-held : All (Column G') ss
  left-held =
      mem_All (Column G') ss
      (λ r m.
      let k = All_mem (Column G) ss columns.1 m in
      record {
        regular = k.regular;
        named = λ x h z. (left-present x (stands_present x ss h m z) ∙ true-froze x h (k.named x h z).0, (k.named x h z).1);
      })

  left-fresh : (x : ℕ) → t.next_id ≤ x → True c past left x
  left-fresh x h = left_none x (no (find x froze) refl) ∙ true-froze x (le_trans i.begun h) (i.fresh x h)
    where
      no : (o : Option Prefix) → find x froze ≡ o → find x froze ≡ none
      no none e = e
      no (some p) e = absurd (lt_irrefl x (le_trans (froze-good x p e).1.1 h))

  left-dead :
      NeverBack (map time_of es) → LastBy (map time_of es) now → coast c ≤ℤ forget_after c → (x : ℕ) (p : Prefix) → 0 < x → find x left ≡ none →
      grown c none (window x 0 past) ≡ some p → (at : ℤ) → now ≤ℤ at → T (le_z (at -ℤ p.last_ns) (coast c)) → ⊥
  left-dead nb lb cf x p h e g at b a = go (find x froze) refl
    where
      young : (now -ℤ p.last_ns) ≤ℤ coast c
      young = record { le = age_mono now at p.last_ns (coast c) b a }

      go : (o : Option Prefix) → find x froze ≡ o → ⊥
      go none f = too-old nb lb cf x p h f g at b a
      go (some p') f =
          let z : find x froze ≡ some p = froze-true x p' f ∙ g in
          let k : T (kept c now ss (x, p)) = or_right (has x (present ss)) (le_z (now -ℤ p.last_ns) (forget_after c)) (≤ℤ_trans young cf).le in
          none-ne-some p (sym e ∙ left_is x ∙ ap (only (kept c now ss) x) z ∙ rw (is_true (kept c now ss (x, p)) k))

  pub inv_leave : Inv c (es ++ (em ∷ [])) acc (leave c t s ss)
  unfolding leave emit
  inv_leave =
      record {
        order =
            ap (λ l. l ++ map (λ r. r.frame) ss) (map-append (λ e. e.scan.frame) es (em ∷ []))
            ∙ append_assoc (map (λ e. e.scan.frame) es) (s.frame ∷ []) (map (λ r. r.frame) ss)
            ∙ ap (λ l. map (λ e. e.scan.frame) es ++ map (λ r. r.frame) l) (sym q)
            ∙ i.order;
        first = ap suc i.first ∙ sym (ap length S ∙ length-append (scans_of es) (s ∷ []) ∙ omega arith);
        room = let h = i.room in omega (arith, ap length q);
        begun = i.begun;
        rise = unfold remember in (up_keep 0 (kept c now ss) froze froze-up);
        frozen = λ x p e. subst (λ l. Good c l left t.next_id x) (sym S) (left-frozen x p e);
        held = subst (λ l. All (Column (Good c l left t.next_id)) ss) (sym S) left-held;
        fresh = λ x h. subst (λ l. True c l left x) (sym S) (left-fresh x h);
        dead =
            λ nb cf x p h e g at lb a.
            let n = never nb in
            left-dead n.0 n.1 cf x p h e (subst (λ l. grown c none (window x 0 l) ≡ some p) S g) at (last_snoc (map time_of es) now at (subst (λ l. LastBy l at) (map-append time_of es (em ∷ [])) lb)) a;
        gone =
            subst (All (Column (λ x. x < t.next_id))) (sym S)
            (All-append (Column (λ x. x < t.next_id)) (scans_of es) (s ∷ []) i.gone (column_weaken G (λ x. x < t.next_id) (λ x g. g.1) s columns.0, tt));
        sum = omega (arith, froze-length, held-count, i.sum, left-length);
        owners = owned_leave t.prefixes left s ss t.owners (subst (λ l. Owned t.prefixes l t.owners) q i.owners);
      }
    where
      S : scans_of (es ++ (em ∷ [])) ≡ past
      S = map-append (λ e. e.scan) es (em ∷ [])

      left-length : length left ≤ length froze
      left-length = unfold remember in (count-le (kept c now ss) froze)
