-- The pairs and the tracks of a pass, over the gathered ids and in fgo_spec. Assumes nothing.
use Prim.Native.Nat.{ℕ, suc, ◌+◌, ◌*◌, ◌≤◌, ◌<◌}
use native.Mathlib.Omega.{arith}
use mathlib.Core.Path.{◌≡◌, refl, sym, ◌∙◌, subst}
use mathlib.Core.Bool.{Bool, true, false, cond}
use mathlib.Core.List.{List, [], ◌∷◌, map, foldl, foldl-append}
use lib.ListN.{length}
use Rattle.bounds.specs.Bounds.{DETECTIONS}
use Rattle.fgo_spec.specs.Lists.{keep, cons_if}
use Rattle.fgo_spec.specs.Windows.{Scan, Prefix}
use Rattle.fgo_spec.specs.Searching.{Search as Model, Pair, cons_pair, cuts, neighbours_of, neighbours, pair_step as on_pair, track_step as on_track}
use Rattle.fgo_spec.specs.Rule.{All}
use Rattle.search_neighbours.specs.Near.{any_close}
use Rattle.search_pair.specs.Pair.{cuts_of}
use Rattle.search.specs.Pass.{Scene, Progress, row_on, radius2_on, close_on, pair_if, pair_step_on, track_step_on, sweep_one, sweep, visit}
use Rattle.search.proofs.Standing.{Standing, scans_now}
use Rattle.search_rows.specs.Rows.{Ascends}
use Rattle.search_rows.proofs.IdsAscend.{ascends_lower}
use Rattle.search.proofs.CloseCuts.{filled, filled_map, filled_cuts, close_long}
use Rattle.search.proofs.PassLaws.{PassLaws}
use Rattle.search.proofs.Tying.{Tied, tied_less, pair_tied, track_tied, absent_tied}

-- a pair without cuts is not listed
fold_pair :
    (f : Model → Pair → Model) (q : Model) (a b : ℕ) (cs : List ℕ) (l : List Pair) →
    foldl f q (cons_pair a b cs l) ≡ foldl f (cond (filled cs) (f q (record { a = a; b = b; cuts = cs })) q) l
fold_pair f q a b [] l = refl
fold_pair f q a b (c ∷ cs) l = refl

module _ (e : Scene) (ps : List (ℕ × Prefix)) (ss : List Scan) (laws : PassLaws e ps ss) (low p : ℕ) where
  -- ---- the pairs: ids of Out stand nowhere, and are not paired; the pairs were listed when the ids were those of is

  module _ (Out : ℕ → Type 0) (next : ℕ) (is : List ℕ) (st : Standing e next ss is) where
    abbrev Usable : ℕ → Type 0
    Usable b = (b < low) × (Out b → ⊥)

    if-tied :
        (a b : ℕ) → 0 < a → a < b → Usable a → Usable b → (n : ℕ) (s : Progress) (q : Model) → Tied e ss Out low p (suc n) s q →
        Tied e ss Out low p n (pair_if e (close_on e (row_on e is a) (row_on e is b)) a b s)
        (cond (filled (cuts e.hall.config e.hall.first.0 ps (scans_now e ss is) a b))
        (on_pair e.hall.config e.hall.first.0 ps q (record { a = a; b = b; cuts = cuts e.hall.config e.hall.first.0 ps (scans_now e ss is) a b })) q)
    if-tied a b ha h ua ub n s q t =
        subst (λ (cs : List ℕ). Tied e ss Out low p n (pair_if e close a b s) (cond (filled cs) (moved cs) q)) (sym listed)
        (subst (λ (d : Bool). Tied e ss Out low p n (pair_if e close a b s) (cond d (moved those) q)) (sym noted) (go (any_close close)))
      where
        close : List Bool
        close = close_on e (row_on e is a) (row_on e is b)

        those : List ℕ
        those = map (λ (k : ℕ). e.hall.first.0 + k) (cuts_of close)

        moved : List ℕ → Model
        moved cs = on_pair e.hall.config e.hall.first.0 ps q (record { a = a; b = b; cuts = cs })

        listed : cuts e.hall.config e.hall.first.0 ps (scans_now e ss is) a b ≡ those
        listed = laws.cut_rows next is st a b ha (omega arith)

        noted : filled those ≡ any_close close
        noted = filled_map (λ (k : ℕ). e.hall.first.0 + k) (cuts_of close) ∙ filled_cuts close (omega (arith, close_long (radius2_on e) e.dots (row_on e is a) (row_on e is b)))

        go : (d : Bool) → Tied e ss Out low p n (cond d (pair_step_on e close a b s) s) (cond d (moved those) q)
        go true = pair_tied e ps ss laws Out low p a b ha (omega arith) (λ d. omega arith) ua.0 ub.0 ua.1 ub.1 close n s q t
        go false = tied_less e ss Out low p (suc n) n (omega arith) t

    sweep-one-tied :
        (a : ℕ) → 0 < a → Usable a → (l : List ℕ) → Ascends a l → All Usable l → (n : ℕ) (s : Progress) (q : Model) → Tied e ss Out low p (length l + n) s q →
        Tied e ss Out low p n (sweep_one e is a l s)
        (foldl (on_pair e.hall.config e.hall.first.0 ps) q (neighbours_of e.hall.config e.hall.first.0 ps (scans_now e ss is) a l))
    unfolding sweep_one neighbours_of
    sweep-one-tied a ha ua [] up us n s q t = tied_less e ss Out low p (0 + n) n (omega arith) t
    sweep-one-tied a ha ua (b ∷ l) up us n s q t =
        subst (Tied e ss Out low p n (sweep_one e is a (b ∷ l) s)) (sym (fold_pair (on_pair e.hall.config e.hall.first.0 ps) q a b cs rest))
        (sweep-one-tied a ha ua l (ascends_lower a b l (let h = up.0 in omega arith) up.1) us.1 n (pair_if e (close_on e (row_on e is a) (row_on e is b)) a b s) _
        (if-tied a b ha up.0 ua us.0 (length l + n) s q (tied_less e ss Out low p (suc (length l) + n) (suc (length l + n)) (omega arith) t)))
      where
        cs : List ℕ
        cs = cuts e.hall.config e.hall.first.0 ps (scans_now e ss is) a b

        rest : List Pair
        rest = neighbours_of e.hall.config e.hall.first.0 ps (scans_now e ss is) a l

    pub sweep_tied :
        (k : ℕ) (l : List ℕ) → Ascends k l → All Usable l → length l ≤ DETECTIONS → (n : ℕ) (s : Progress) (q : Model) → Tied e ss Out low p (length l * DETECTIONS + n) s q →
        Tied e ss Out low p n (sweep e is l s)
        (foldl (on_pair e.hall.config e.hall.first.0 ps) q (neighbours e.hall.config e.hall.first.0 ps (scans_now e ss is) l))
    unfolding sweep neighbours
    sweep_tied k [] up us few n s q t = tied_less e ss Out low p (0 * DETECTIONS + n) n (omega arith) t
    sweep_tied k (a ∷ l) up us few n s q t =
        subst (Tied e ss Out low p n (sweep e is (a ∷ l) s)) (sym (foldl-append (on_pair e.hall.config e.hall.first.0 ps) q ones rest))
        (sweep_tied a l up.1 us.1 (omega arith) n (sweep_one e is a l s) _
        (sweep-one-tied a (let h = up.0 in omega arith) us.0 l up.1 us.1 (length l * DETECTIONS + n) s q
        (tied_less e ss Out low p (suc (length l) * DETECTIONS + n) (length l + (length l * DETECTIONS + n)) (omega arith) t)))
      where
        ones : List Pair
        ones = neighbours_of e.hall.config e.hall.first.0 ps (scans_now e ss is) a l

        rest : List Pair
        rest = neighbours e.hall.config e.hall.first.0 ps (scans_now e ss is) l

  -- ---- the tracks: those that pass the test f are visited, the others stand nowhere

  module _ (f : ℕ → Bool) where
    abbrev pub Gone : ℕ → Type 0
    Gone x = (x < low) × (f x ≡ false)

    pub visit_tied :
        (l : List ℕ) → All (λ x. (0 < x) × (x < low)) l → (n : ℕ) (s : Progress) (q : Model) → Tied e ss Gone low p (length l + n) s q →
        Tied e ss Gone low p n (visit e l s) (foldl (on_track e.hall.config e.hall.first.0 ps) q (keep f l))
    unfolding visit keep
    visit_tied [] us n s q t = tied_less e ss Gone low p (0 + n) n (omega arith) t
    visit_tied (a ∷ l) us n s q t = go (f a) refl (visit_tied l us.1 n)
      where
        t' : Tied e ss Gone low p (suc (length l + n)) s q
        t' = tied_less e ss Gone low p (suc (length l) + n) (suc (length l + n)) (omega arith) t

        go :
            (d : Bool) → f a ≡ d →
            ((s : Progress) (q : Model) → Tied e ss Gone low p (length l + n) s q → Tied e ss Gone low p n (visit e l s) (foldl (on_track e.hall.config e.hall.first.0 ps) q (keep f l))) →
            Tied e ss Gone low p n (visit e l (track_step_on e a s)) (foldl (on_track e.hall.config e.hall.first.0 ps) q (cons_if d a (keep f l)))
        go true h r =
            r (track_step_on e a s) (on_track e.hall.config e.hall.first.0 ps q a)
            (track_tied e ps ss laws Gone low p a us.0.0 us.0.1 (λ o. let z : ◌≡◌ {A = ℕ} 0 1 = cc (h, o.1) in omega arith) (λ x o. o.0) (length l + n) s q t')
        go false h r =
            subst (λ s. Tied e ss Gone low p n (visit e l s) (foldl (on_track e.hall.config e.hall.first.0 ps) q (keep f l)))
            (sym (absent_tied e ps ss laws Gone low p a us.0.0 us.0.1 (us.0.1, h) (suc (length l + n)) s q t'))
            (r s q (tied_less e ss Gone low p (suc (length l + n)) (length l + n) (omega arith) t'))
