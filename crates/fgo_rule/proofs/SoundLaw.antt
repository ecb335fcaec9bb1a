-- The tests of the state rule that the code makes are the rule, whatever the memory holds. Assumes nothing.
use Prim.Native.Nat.{ℕ, zero, suc, ◌+◌, ◌-◌, ◌<◌}
use native.Mathlib.Nat.{zero-add}
use native.Mathlib.Omega.{arith}
use mathlib.Core.Path.{◌≡◌, refl, sym, ap, ◌∙◌}
use mathlib.Core.Bool.{Bool, true, false, ◌&&◌, ◌||◌, not, and-false, and_assoc}
use mathlib.Core.List.{List, [], ◌∷◌, map}
use lib.ListN.{length, get_or}
use lib.Dec.{leb, ltb, eqb}
use lib.Ieee.{Float, nan}
use borrow.Author.Tests.{leb-true, le-leb, eq-eqb}
use Rattle.bounds.specs.Bounds.{ACCEPTED, DETECTIONS, FROZEN, OWNED, HEIGHTS}
use Rattle.engine.specs.declared.types.Association.{Association}
use Rattle.engine.specs.Body.{Body, all, time_ok, associations_in, frame_of, rows}
use Rattle.engine.specs.Config.{legal, lag}
use Rattle.engine.proofs.Every.{both, all_front}
use Rattle.engine.proofs.Passing.{length-rows}
use Rattle.fgo_spec.specs.Lists.{has}
use Rattle.fgo_spec.specs.Windows.{Scan, live, window_count}
use Rattle.fgo_spec.specs.Rule as rules
use Rattle.fgo_spec.specs.Rule.{all_of, prefix_ok, rises_ok, apart_ok, loose_ok, clutter_ok, column_ok, distinct_ok, rule_ok}
use Rattle.fgo_state.specs.declared.state.FixedLagRefiner.{FixedLagRefiner}
use Rattle.fgo_part.specs.Parts.{heights_in, part_id, part_last_frame, part_last_ns, part_count, part_height_count, part_heights_at, prefix_in, entry_in, table_in}
use Rattle.fgo_state.specs.declared.state.Memory.{Memory}
use Rattle.fgo_state.specs.Memory.{body_at, id_at, scan_in, scans_in, live_in, owner_entry, owners_in, state_of, association_in}
use Rattle.fgo_state.specs.Owners.{engines_in}
use Rattle.fgo_state.specs.Sound.{bodies_ok, sound_ok}
use Rattle.fgo_rule.specs.Tests.{counts_ok, id_ok, column_in, columns_ok, id_before, part_ok, parts_ok, last_at, distinct_in, owned_in, lives_in, sound_in}
use Rattle.fgo_spec.proofs.Rows.{map_rows}
use Rattle.fgo_state.proofs.Columns.{scan_complete}
use Rattle.fgo_state.proofs.Live.{live_rule}
use Rattle.fgo_rule.proofs.Conjunctions.{passed}
use Rattle.fgo_rule.proofs.AllOf.{all_same, all-rows, all-numbers}
use Rattle.fgo_rule.proofs.Scans.{row_in, association_row}

-- ---- frozen parts

-- more than HEIGHTS heights are none
heights_test : (ns : List Float) (o n : ℕ) (x : Bool) → (leb 1 (length (heights_in ns o n)) && (leb (length (heights_in ns o n)) HEIGHTS && x)) ≡ (leb 1 n && (leb n HEIGHTS && x))
heights_test ns o n x = go (leb n HEIGHTS) refl
  where
    go : (b : Bool) → leb n HEIGHTS ≡ b → (leb 1 (length (heights_in ns o n)) && (leb (length (heights_in ns o n)) HEIGHTS && x)) ≡ (leb 1 n && (leb n HEIGHTS && x))
    go true e = let l : length (heights_in ns o n) ≡ n = rw e (length-rows (λ i. get_or ns (o + i) nan) 0 n) in ap (λ (m : ℕ). leb 1 m && (leb m HEIGHTS && x)) l
    go false e = rw e (sym (and-false (leb 1 n)))

module _ (first next : ℕ) (tracks : List ℕ) (filters : List Float) where
  prefix-test :
      (k : ℕ) →
      part_ok first next tracks k ≡ (ltb (id_before tracks k) (part_id tracks k) && (ltb (part_id tracks k) next && prefix_ok first (prefix_in tracks filters k)))
  unfolding part_ok prefix_in
  prefix-test k =
      let n = part_count tracks k in
      let t = ltb (part_last_frame tracks k) first && time_ok (part_last_ns tracks k) in
      ap (λ b. ltb (id_before tracks k) (part_id tracks k) && (ltb (part_id tracks k) next && (leb 1 n && (leb n first && b))))
      (sym (heights_test filters (part_heights_at k) (part_height_count tracks k) t))

  rise-from : (k n : ℕ) → all_of (part_ok first next tracks) (rows (λ i. i) k n) ≡ rises_ok first next (id_before tracks k) (rows (entry_in tracks filters) k n)
  unfolding rows rises_ok
  rise-from k zero = refl
  rise-from k (suc n) =
      ap (λ b. b && all_of (part_ok first next tracks) (rows (λ i. i) (suc k) n)) (prefix-test k)
      ∙ group (ltb (id_before tracks k) (part_id tracks k)) (ltb (part_id tracks k) next) (prefix_ok first (prefix_in tracks filters k)) (all_of (part_ok first next tracks) (rows (λ i. i) (suc k) n))
      ∙ ap (λ b. ltb (id_before tracks k) (part_id tracks k) && (ltb (part_id tracks k) next && (prefix_ok first (prefix_in tracks filters k) && b))) (rise-from (suc k) n)
    where
      group : (a b c d : Bool) → (a && (b && c)) && d ≡ (a && (b && (c && d)))
      group a b c d = and_assoc a (b && c) d ∙ ap (λ x. a && x) (and_assoc b c d)

  pub parts_rule : (n : ℕ) → parts_ok first next tracks n ≡ rises_ok first next 0 (table_in tracks filters n)
  unfolding parts_ok
  parts_rule n = all-numbers (part_ok first next tracks) n ∙ rise-from 0 n

-- ---- columns

module _ (next : ℕ) (columns : List ℕ) (s : Body) (n : ℕ) where
  abbrev count : ℕ
  count = associations_in s

  column-from :
      (o m : ℕ) → o + m ≡ count →
      all_of (id_ok next columns s n) (rows (λ i. i) o m)
      ≡ (apart_ok (rows (id_at columns n) o m) && (all_of (λ i. ltb i next) (rows (id_at columns n) o m) && clutter_ok (rows (row_in s) o m) (rows (id_at columns n) o m)))
  unfolding rows apart_ok clutter_ok id_ok
  column-from o zero e = refl
  column-from o (suc m) e =
      let x = id_at columns n o in
      let is = rows (id_at columns n) (suc o) m in
      let q : count - suc o ≡ m = omega arith in
      let l : o < count = omega arith in
      ap (λ b. ((eqb x 0 || not (has x (rows (id_at columns n) (suc o) (count - suc o)))) && (ltb x next && loose_ok (association_in s o).track x)) && b) (column-from (suc o) m (omega arith))
      ∙ ap (λ (k : ℕ). ((eqb x 0 || not (has x (rows (id_at columns n) (suc o) k))) && (ltb x next && loose_ok (association_in s o).track x)) && (apart_ok is && (all_of (λ i. ltb i next) is && clutter_ok (rows (row_in s) (suc o) m) is))) q
      ∙ ap (λ (a : Association). ((eqb x 0 || not (has x is)) && (ltb x next && loose_ok a.track x)) && (apart_ok is && (all_of (λ i. ltb i next) is && clutter_ok (rows (row_in s) (suc o) m) is))) (association_row s o l)
      ∙ shuffle (eqb x 0 || not (has x is)) (ltb x next) (loose_ok (row_in s o).track x) (apart_ok is) (all_of (λ i. ltb i next) is) (clutter_ok (rows (row_in s) (suc o) m) is)
    where
      shuffle : (a b c d e f : Bool) → (a && (b && c)) && (d && (e && f)) ≡ ((a && d) && ((b && e) && (c && f)))
      shuffle false b c d e f = refl
      shuffle true b c false e f = and-false (b && c)
      shuffle true false c true e f = refl
      shuffle true true c true true f = refl
      shuffle true true c true false f = and-false c

column_rule : (next : ℕ) (bodies columns : List ℕ) (n : ℕ) → column_in next columns (body_at bodies columns n) n ≡ column_ok next (scan_in bodies columns n)
unfolding column_in column_ok scan_in frame_of
column_rule next bodies columns n =
    let s = body_at bodies columns n in
    let m = associations_in s in
    all-numbers (id_ok next columns s n) m ∙ column-from next columns s n 0 m (omega arith)
    ∙ passed (eqb (length (rows (id_at columns n) 0 m)) (length (rows (row_in s) 0 m))) (eq-eqb _ _ (scan_complete bodies columns n)) refl

columns_rule : (next : ℕ) (bodies columns : List ℕ) (first held : ℕ) → columns_ok next bodies columns first held ≡ all_of (column_ok next) (scans_in bodies columns first held)
unfolding columns_ok
columns_rule next bodies columns first held =
    all_same _ (λ i. column_ok next (scan_in bodies columns (first + i))) held (λ i l. column_rule next bodies columns (first + i))
    ∙ all-rows (column_ok next) (scan_in bodies columns) first held

-- ---- owners

distinct_list : (es : List ℕ) → distinct_in es ≡ distinct_ok es
unfolding distinct_in last_at distinct_ok
distinct_list [] = unfold all in refl
distinct_list (e ∷ es) = all_front (last_at (e ∷ es)) (length es) ∙ ap (λ b. not (has e es) && b) (distinct_list es)

distinct_rule : (owners : List ℕ) (owned : ℕ) → distinct_in (engines_in owners owned) ≡ distinct_ok (map (λ o. o.0) (owners_in owners owned))
distinct_rule owners owned = distinct_list (engines_in owners owned) ∙ ap distinct_ok (sym (map_rows (λ o. o.0) (owner_entry owners) 0 owned))

-- ---- the law

-- a test that passes where another does, and no other
same_test : (a b : Bool) → (a ≡ true → true ≡ b) → (b ≡ true → true ≡ a) → a ≡ b
same_test true b f g = f refl
same_test false true f g = sym (g refl)
same_test false false f g = refl

-- the code's order and the rule's; the sum bounds the frozen parts
in_order :
    (l h f n z o b c p s w d v : Bool) → (s ≡ true → z ≡ true) →
    ((l && (h && (f && (n && (z && o))))) && (b && (c && (p && (s && (d && (w && v)))))))
    ≡ (b && (l && (h && (f && (n && (p && (c && (w && (s && (d && (v && o)))))))))))
in_order l h f n z o b c p s w d v few =
    same_test _ _
    (λ t.
    let a = both (l && (h && (f && (n && (z && o))))) (b && (c && (p && (s && (d && (w && v)))))) t in
    let a1 = both l _ a.0 in
    let a2 = both h _ a1.1 in
    let a3 = both f _ a2.1 in
    let a4 = both n _ a3.1 in
    let a5 = both z o a4.1 in
    let b1 = both b _ a.1 in
    let b2 = both c _ b1.1 in
    let b3 = both p _ b2.1 in
    let b4 = both s _ b3.1 in
    let b5 = both d _ b4.1 in
    let b6 = both w v b5.1 in
    passed b b1.0 (passed l a1.0 (passed h a2.0 (passed f a3.0 (passed n a4.0 (passed p b3.0 (passed c b2.0 (passed w b6.0 (passed s b4.0 (passed d b5.0 (passed v b6.1 (sym a5.1))))))))))))
    (λ t.
    let a1 = both b _ t in
    let a2 = both l _ a1.1 in
    let a3 = both h _ a2.1 in
    let a4 = both f _ a3.1 in
    let a5 = both n _ a4.1 in
    let a6 = both p _ a5.1 in
    let a7 = both c _ a6.1 in
    let a8 = both w _ a7.1 in
    let a9 = both s _ a8.1 in
    let a10 = both d _ a9.1 in
    let a11 = both v o a10.1 in
    passed (l && (h && (f && (n && (z && o))))) (sym (passed l a2.0 (passed h a3.0 (passed f a4.0 (passed n a5.0 (passed z (few a9.0) (sym a11.1)))))))
    (passed b a1.0 (passed c a7.0 (passed p a6.0 (passed s a9.0 (passed d a10.0 (passed w a8.0 (sym a11.0))))))))

module _ (r : FixedLagRefiner) (m : Memory) where
  abbrev scans : List Scan
  scans = scans_in m.scans.bodies m.scans.columns r.first.0 r.held

  abbrev lives : ℕ × ℕ → Bool
  lives o = live (table_in m.parts.tracks m.parts.filters r.frozen) scans o.1

  lives-rule :
      lives_in (live_in m.scans.bodies m.scans.columns r.first.0 r.held m.parts.tracks r.frozen) m.owners r.owned ≡ all_of lives (owners_in m.owners r.owned)
  unfolding lives_in
  lives-rule =
      let entry : ℕ → ℕ × ℕ = owner_entry m.owners in
      all_same _ (λ k. lives (entry (0 + k))) r.owned (λ k l. live_rule m.scans.bodies m.scans.columns r.first.0 r.held m.parts.tracks m.parts.filters r.frozen (entry k).1 ∙ ap (λ (j : ℕ). lives (entry j)) (sym (zero-add k)))
      ∙ all-rows lives entry 0 r.owned

  -- the tests that the code makes are the rule
  pub sound_rule : sound_in r m.scans.bodies m.scans.columns m.owners m.parts.tracks ≡ sound_ok r m
  unfolding sound_in counts_ok sound_ok rule_ok state_of owned_in
  sound_rule =
      let os = owners_in m.owners r.owned in
      let held : length scans ≡ r.held = length-rows (scan_in m.scans.bodies m.scans.columns) r.first.0 r.held in
      let frozen : length (table_in m.parts.tracks m.parts.filters r.frozen) ≡ r.frozen = length-rows (entry_in m.parts.tracks m.parts.filters) 0 r.frozen in
      let entries : length os ≡ r.owned = length-rows (owner_entry m.owners) 0 r.owned in
      rw (held, frozen, entries)
      (rw (columns_rule r.next_id.0 m.scans.bodies m.scans.columns r.first.0 r.held, parts_rule r.first.0 r.next_id.0 m.parts.tracks m.parts.filters r.frozen, distinct_rule m.owners r.owned, lives-rule)
      (in_order (legal r.config) (leb r.held (lag r.config)) (leb (r.first.0 + r.held) ACCEPTED) (ltb 0 r.next_id.0) (leb r.frozen FROZEN) (leb r.owned OWNED)
      (bodies_ok m.scans.bodies m.scans.columns r.first.0 r.held) (all_of (column_ok r.next_id.0) scans) (rises_ok r.first.0 r.next_id.0 0 (table_in m.parts.tracks m.parts.filters r.frozen))
      (leb (r.frozen + window_count scans) DETECTIONS) (all_of (λ s. rules.owned_ok os scans s.frame.associations s.ids) scans) (distinct_ok (map (λ o. o.0) os)) (all_of lives os)
      (λ e. le-leb r.frozen FROZEN (omega (arith, leb-true (r.frozen + window_count scans) DETECTIONS e)))))
