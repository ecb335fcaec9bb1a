-- The gathered ids after a move stand for fgo_spec's scans after it. Assumes nothing.
use Rattle.std.specs.Prelude.{Some}
use Prim.Native.Nat.{ℕ, suc, ◌+◌, ◌≤◌, ◌<◌}
use native.Mathlib.Omega.{arith}
use mathlib.Core.Path.{◌≡◌, refl, sym, ap, ◌∙◌}
use mathlib.Core.Logic.{inl, inr}
use mathlib.Core.Bool.{Bool, true, false, cond, ◌||◌}
use mathlib.Core.List.{List, [], ◌∷◌, map, map-map, map-id}
use lib.ListN.{length}
use lib.Dec.{eqb, ltb, leb}
use borrow.Author.Tests.{eqb-true, eq-eqb, ne_eqb}
use Rattle.bounds.specs.Bounds.{SCANS, DETECTIONS}
use Rattle.fgo_spec.specs.declared.moves.PairMove.{PairMove}
use Rattle.fgo_spec.specs.declared.moves.PairMove.TheVariants.{Swap, Merge}
use Rattle.fgo_spec.specs.declared.moves.TrackMove.{TrackMove}
use Rattle.fgo_spec.specs.declared.moves.TrackMove.TheVariants.{Split, Drop}
use Rattle.fgo_spec.specs.Lists.{has, any}
use Rattle.fgo_spec.specs.Windows.{Scan, Prefix}
use Rattle.fgo_spec.specs.Searching.{exchange, clear, recolumn, absorb, swap_column, drop_column, other_of, after_pair, after_track}
use Rattle.fgo_spec.proofs.Renaming.{exchange_other}
use Rattle.search_rows.specs.declared.moves.Targets.{Targets}
use Rattle.fgo_spec.specs.Gathered.{column_at, spread, put_back}
use Rattle.search_rows.specs.Rows.{Starts}
use Rattle.search_rows.specs.Moves.{retarget, become, keeper_target, other_target, pair_targets, track_targets, renamed_from, has_slot, pair_ids, track_ids}
use Rattle.search.specs.Pass.{Scene, row_on}
use Rattle.search_rows.proofs.Renamed.{renamed_column}
use Rattle.search.proofs.Standing.{HeldScan, HeldFrom, scans_now, Standing, Fits, PairIds, TrackIds}
use Rattle.fgo_spec.proofs.Spreads.{spread-map}
use Rattle.search_rows.proofs.RowSlots.{row_at}
use Rattle.search.proofs.WindowRows.{slot_now}

-- ---- one id

stays : (a i : ℕ) → cond (eqb a i) a i ≡ i
stays a i = go (eqb a i) refl
  where
    go : (p : Bool) → eqb a i ≡ p → cond p a i ≡ i
    go true e = eqb-true a i e
    go false e = refl

retarget_same : (a b i : ℕ) → retarget a b (become a b) i ≡ i
retarget_same a b i = ap (cond (eqb a i) a) (stays b i) ∙ stays a i

retarget-zero : (a b : ℕ) → 0 < a → 0 < b → (t : Targets) → retarget a b t 0 ≡ 0
retarget-zero a b ha hb t = rw (ne_eqb a 0 (λ e. omega arith), ne_eqb b 0 (λ e. omega arith))

-- the two may be named in either order
retarget_flip : (a b : ℕ) → (a ≡ b → ⊥) → (t u i : ℕ) → retarget a b (become t u) i ≡ retarget b a (become u t) i
retarget_flip a b d t u i = go (eqb a i) (eqb b i) refl refl
  where
    go : (p q : Bool) → eqb a i ≡ p → eqb b i ≡ q → cond p t (cond q u i) ≡ cond q u (cond p t i)
    go true true e f = absurd (d (eqb-true a i e ∙ sym (eqb-true b i f)))
    go true false e f = refl
    go false q e f = refl

retarget-clear : (a x i : ℕ) → retarget a x (become 0 x) i ≡ clear a i
retarget-clear a x i = ap (cond (eqb a i) 0) (stays x i)

-- ---- a merge, in one scan

-- two renamings that differ at most at an id that does not stand there
map_without : (x : ℕ) (f g : ℕ → ℕ) → ((i : ℕ) → eqb x i ≡ false → f i ≡ g i) → (is : List ℕ) → has x is ≡ false → map f is ≡ map g is
unfolding any
map_without x f g h [] e = refl
map_without x f g h (i ∷ is) e = go (eqb x i) refl e (map_without x f g h is)
  where
    go : (b : Bool) → eqb x i ≡ b → (b || has x is) ≡ false → (has x is ≡ false → map f is ≡ map g is) → map f (i ∷ is) ≡ map g (i ∷ is)
    go true p q r = absurd (let z : ◌≡◌ {A = Bool} true false = q in let w : ◌≡◌ {A = ℕ} 0 1 = cc in omega arith)
    go false p q r = λ j. h i p j ∷ r q j

-- what becomes of the keeper k and of the other; h and g say which have a detection
abbrev keeps : ℕ → Bool → Bool → Bool → Targets
keeps k own h g = become (keeper_target own g k) (other_target own h k)

module _ (k o : ℕ) (hk : 0 < k) (ho : 0 < o) (apart : k ≡ o → ⊥) where
  keeper-clears : (i : ℕ) → retarget k o (become k 0) i ≡ clear o i
  keeper-clears i = go (eqb k i) refl
    where
      go : (p : Bool) → eqb k i ≡ p → cond p k (clear o i) ≡ clear o i
      go true e = eqb-true k i e ∙ sym (rw (ne_eqb o i (λ z. apart (eqb-true k i e ∙ sym z))))
      go false e = refl

  other-clears : (i : ℕ) → retarget k o (become 0 k) i ≡ exchange k o (clear k i)
  other-clears i = go (eqb k i) refl
    where
      go : (p : Bool) → eqb k i ≡ p → cond p 0 (cond (eqb o i) k i) ≡ exchange k o (cond p 0 i)
      go true e = sym (exchange_other k o 0 (λ z. omega arith) (λ z. omega arith))
      go false e = rw e

  absorb-column : (own : Bool) (is : List ℕ) → map (retarget k o (keeps k own (has k is) (has o is))) is ≡ absorb own k o is
  absorb-column true is = go (has k is) refl
    where
      go : (h : Bool) → has k is ≡ h → map (retarget k o (keeps k true h (has o is))) is ≡ cond h (map (clear o) is) (map (exchange k o) is)
      go true e = λ j. map (λ i. keeper-clears i j) is
      go false e = map_without k (retarget k o (keeps k true false (has o is))) (exchange k o) (λ i q. rw q) is e
  absorb-column false is = go (has o is) refl
    where
      go : (h : Bool) → has o is ≡ h → map (retarget k o (keeps k false (has k is) h)) is ≡ cond h (map (exchange k o) (map (clear k) is)) is
      go true e = (λ j. map (λ i. other-clears i j) is) ∙ sym (map-map (exchange k o) (clear k) is)
      go false e =
          map_without o (retarget k o (keeps k false (has k is) false)) (λ i. i) (λ i q. rw q (stays k i)) is e ∙ map-id is

-- ---- a scan after a move

-- what a move of a pair, or of a track, does to a column of ids
abbrev pair_column : ℕ → ℕ → PairMove → ℕ → List ℕ → List ℕ
pair_column a b (Swap f g) n is = swap_column a b f.0 n is
pair_column a b (Merge k own g) n is = absorb own k.0 (other_of a b k.0) is

abbrev track_column : ℕ → ℕ → TrackMove → ℕ → List ℕ → List ℕ
track_column a x (Split f g) n is = swap_column a x f.0 n is
track_column a x (Drop f g) n is = drop_column a f.0 n is

module _ (a b : ℕ) where
  same-column : (is : List ℕ) → map (retarget a b (become a b)) is ≡ is
  same-column is = (λ j. map (λ i. retarget_same a b i j) is) ∙ map-id is

  swap-column : (f n : ℕ) (is : List ℕ) → map (retarget a b (cond (leb f n) (become b a) (become a b))) is ≡ swap_column a b f n is
  swap-column f n is = go (leb f n)
    where
      go : (q : Bool) → map (retarget a b (cond q (become b a) (become a b))) is ≡ cond q (map (exchange a b) is) is
      go true = refl
      go false = same-column is

  track-column : (m : TrackMove) (n : ℕ) (is : List ℕ) → map (retarget a b (track_targets m a b n)) is ≡ track_column a b m n is
  track-column (Split f g) n is = swap-column f.0 n is
  track-column (Drop f g) n is = go (eqb f.0 n)
    where
      go : (q : Bool) → map (retarget a b (cond q (become 0 b) (become a b))) is ≡ cond q (map (clear a) is) is
      go true = λ j. map (λ i. retarget-clear a b i j) is
      go false = same-column is

  pair-column : 0 < a → 0 < b → (a ≡ b → ⊥) → (m : PairMove) → Fits a b (Some m) → (n : ℕ) (is : List ℕ) → map (retarget a b (pair_targets m a b n (has a is) (has b is))) is ≡ pair_column a b m n is
  pair-column ha hb d (Swap f g) h n is = swap-column f.0 n is
  pair-column ha hb d (Merge k own g) (inl e) n is = rw (eq-eqb a k.0 (sym e), e) (absorb-column a b ha hb d own is)
  pair-column ha hb d (Merge k own g) (inr e) n is =
      rw (ne_eqb a k.0 (λ z. d (z ∙ e)), e)
      ((λ j. map (λ i. retarget_flip a b d (other_target own (has b is) b) (keeper_target own (has a is) b) i j) is) ∙ absorb-column b a hb ha (λ z. d (sym z)) own is)

-- ---- all scans

module _ (e : Scene) (ids : List ℕ) (begins : Starts e.starts) (long : length ids ≡ DETECTIONS) (a b : ℕ) (ha : 0 < a) (hb : 0 < b) (t : ℕ → Targets) (g : ℕ → List ℕ → List ℕ) where
  -- the renaming of the gathered ids does to each scan, as it stands, what g does to its column
  abbrev Agrees : Type 0
  Agrees =
      (k : ℕ) (s : Scan) → k < SCANS → HeldScan e k s →
      map (retarget a b (t k)) (spread s.ids (column_at e.starts ids k)) ≡ g (e.hall.first.0 + k) (spread s.ids (column_at e.starts ids k))

  renamed-from :
      Agrees → (ss : List Scan) (k : ℕ) → k + length ss ≤ SCANS → HeldFrom e k ss →
      put_back e.starts (renamed_from e.starts a b t 0 SCANS ids) k ss ≡ recolumn g (e.hall.first.0 + k) (put_back e.starts ids k ss)
  unfolding put_back recolumn
  renamed-from w [] k h d = refl
  renamed-from w (s ∷ ss) k h d =
      let q : e.hall.first.0 + suc k ≡ suc (e.hall.first.0 + k) = omega arith in
      let gs = column_at e.starts ids k in
      let one : spread s.ids (column_at e.starts (renamed_from e.starts a b t 0 SCANS ids) k) ≡ g (e.hall.first.0 + k) (spread s.ids gs) =
      ap (spread s.ids) (renamed_column begins a b t ids long k (omega arith))
      ∙ spread-map (retarget a b (t k)) (retarget-zero a b ha hb (t k)) s.ids gs
      ∙ w k s (omega arith) d.0 in
      let rest : put_back e.starts (renamed_from e.starts a b t 0 SCANS ids) (suc k) ss ≡ recolumn g (suc (e.hall.first.0 + k)) (put_back e.starts ids (suc k) ss) =
      renamed-from w ss (suc k) (omega arith) d.1 ∙ ap (λ (n : ℕ). recolumn g n (put_back e.starts ids (suc k) ss)) q in
      λ i. record { frame = s.frame; ids = one i } ∷ rest i

  renamed-scans :
      Agrees → (ss : List Scan) → length ss ≤ SCANS → HeldFrom e 0 ss →
      scans_now e ss (renamed_from e.starts a b t 0 SCANS ids) ≡ recolumn g e.hall.first.0 (scans_now e ss ids)
  renamed-scans w ss h d =
      let q : e.hall.first.0 + 0 ≡ e.hall.first.0 = omega arith in
      renamed-from w ss 0 (omega arith) d ∙ ap (λ (n : ℕ). recolumn g n (scans_now e ss ids)) q

module _ (e : Scene) (next : ℕ) (ps : List (ℕ × Prefix)) (ss : List Scan) (ids : List ℕ) (s : Standing e next ss ids) where
  pub track_ids_lem : TrackIds e next ps ss ids
  unfolding track_ids
  track_ids_lem a x ha hx m =
      renamed-scans e ids s.held.starts s.long a x ha hx (λ k. track_targets m a x (e.hall.first.0 + k)) (track_column a x m)
      (λ k r h d. track-column a x m (e.hall.first.0 + k) (spread r.ids (column_at e.starts ids k))) ss s.held.few s.held.scans
      ∙ after m
    where
      after : (m : TrackMove) → recolumn (track_column a x m) e.hall.first.0 (scans_now e ss ids) ≡ after_track e.hall.config e.hall.first.0 ps a x (scans_now e ss ids) (Some m)
      after (Split f g) = refl
      after (Drop f g) = refl

  pub pair_ids_lem : PairIds e next ps ss ids
  unfolding pair_ids
  pair_ids_lem a b ha hb d m fit =
      renamed-scans e ids s.held.starts s.long a b ha hb
      (λ k. pair_targets m a b (e.hall.first.0 + k) (has_slot (row_on e ids a) k) (has_slot (row_on e ids b) k)) (pair_column a b m)
      (λ k r h w.
      let is = spread r.ids (column_at e.starts ids k) in
      (λ i. map (retarget a b (pair_targets m a b (e.hall.first.0 + k) (has-now k r h w a ha i) (has-now k r h w b hb i))) is)
      ∙ pair-column a b ha hb d m fit (e.hall.first.0 + k) is)
      ss s.held.few s.held.scans
      ∙ after m
    where
      has-now : (k : ℕ) (r : Scan) → k < SCANS → HeldScan e k r → (x : ℕ) → 0 < x → has_slot (row_on e ids x) k ≡ has x (spread r.ids (column_at e.starts ids k))
      has-now k r h w x hx = ap (ltb 0) (row_at e.starts ids x k h) ∙ slot_now s.held.starts w ids s.long h x hx

      after : (m : PairMove) → recolumn (pair_column a b m) e.hall.first.0 (scans_now e ss ids) ≡ after_pair e.hall.config e.hall.first.0 ps a b (scans_now e ss ids) (Some m)
      after (Swap f g) = refl
      after (Merge k own g) = refl
