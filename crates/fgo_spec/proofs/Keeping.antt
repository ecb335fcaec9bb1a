-- The one general fact about the search. Whatever it chooses, each of its moves exchanges two ids above 0 or clears
-- one, in some scans. So whatever those two keep of a scan, beside what the scan was, the whole search keeps; and each
-- id that it leaves in the scans was there before or is a new one. Assumes nothing.
use Prim.Native.Nat.{ℕ, zero, suc, ◌≤◌, ◌<◌}
use native.Mathlib.Nat.{le_refl, le_trans}
use native.Mathlib.Decide.{ℕ_discrete}
use native.Mathlib.Omega.{arith}
use mathlib.Core.Path.{◌≡◌, refl, sym, ◌∙◌, subst}
use mathlib.Core.Logic.{◌⊎◌, inl, inr}
use mathlib.Core.Bool.{Bool, true, false, cond}
use mathlib.Core.List.{List, [], ◌∷◌, map, foldl}
use lib.ListN.{length-map}
use lib.Dec.{eqb, leb}
use Rattle.engine.specs.declared.config.FgoConfig.{FgoConfig}
use Rattle.engine.specs.Config.{max_passes_of}
use Rattle.std.specs.Prelude.{Option, Some, None}
use Rattle.fgo_spec.specs.declared.moves.PairMove.{PairMove}
use Rattle.fgo_spec.specs.declared.moves.PairMove.TheVariants.{Swap, Merge}
use Rattle.fgo_spec.specs.declared.moves.TrackMove.{TrackMove}
use Rattle.fgo_spec.specs.declared.moves.TrackMove.TheVariants.{Split, Drop}
use Rattle.fgo_spec.specs.declared.moves.FgoCounters.{FgoCounters}
use Rattle.fgo_spec.specs.Lists.{has, times}
use Rattle.fgo_spec.specs.Windows.{Scan, Prefix, present}
use Rattle.fgo_spec.specs.Searching.{exchange, clear, recolumn, absorb, swap_column, drop_column, other_of, wins, pair_gain, best_gain, better_pair, next_after, Search, Pair, cons_pair, after_pair, after_track, cuts, neighbours_of, neighbours, try_swap, try_merge, pair_candidates, best_of_pair, best_of_track, pair_step, track_step, pass, passes, improve}
use Rattle.fgo_spec.specs.Rule.{All}
use Rattle.fgo_spec.specs.Faithful.{Regular}
use Rattle.fgo_spec.proofs.All.{All-append, All-map, mem_All, foldl_keeps}
use Rattle.fgo_spec.proofs.Counting.{has-All}
use Rattle.fgo_spec.proofs.Renaming.{exchange_is, exchange_other, times-exchange, times-clear}
use Rattle.fgo_spec.proofs.Presence.{Names, present_is}

abbrev pub with_ids : Scan → List ℕ → Scan
with_ids s is = record { frame = s.frame; ids = is }

-- an exchange of two ids and the clearing of one leave a regular scan regular
pub regular_exchange : (s : Scan) (a b : ℕ) → 0 < a → 0 < b → Regular s → Regular (with_ids s (map (exchange a b) s.ids))
regular_exchange s a b ha hb h =
    record {
      complete = length-map s.ids (exchange a b) ∙ h.complete;
      apart = λ x z. rw (times-exchange a b x s.ids) (h.apart (exchange a b x) (exchange_is (λ y. 0 < y) a b x ha hb z));
    }

pub regular_clear : (s : Scan) (a : ℕ) → Regular s → Regular (with_ids s (map (clear a) s.ids))
regular_clear s a h = record { complete = length-map s.ids (clear a) ∙ h.complete; apart = λ x z. le_trans (times-clear a x s.ids z) (h.apart x z) }

-- two lists of scans, scan beside scan
module _ (P : Scan → Scan → Type 0) where
  abbrev pub Beside : List Scan → List Scan → Type 0
  Beside [] [] = Unit {0}
  Beside [] (t ∷ ts) = ⊥
  Beside (s ∷ ss) [] = ⊥
  Beside (s ∷ ss) (t ∷ ts) = P s t × Beside ss ts

  pub beside-recolumn :
      (g : ℕ → List ℕ → List ℕ) → ((n : ℕ) (s t : Scan) → P s t → P s (with_ids t (g n t.ids))) →
      (n : ℕ) (ss ts : List Scan) → Beside ss ts → Beside ss (recolumn g n ts)
  unfolding recolumn
  beside-recolumn g k n [] [] h = tt
  beside-recolumn g k n [] (t ∷ ts) h = absurd h
  beside-recolumn g k n (s ∷ ss) [] h = absurd h
  beside-recolumn g k n (s ∷ ss) (t ∷ ts) h = (k n s t h.0, beside-recolumn g k (suc n) ss ts h.1)

  pub beside-All : (Q : Scan → Type 0) → ((s t : Scan) → P s t → Q t) → (ss ts : List Scan) → Beside ss ts → All Q ts
  beside-All Q f [] [] h = tt
  beside-All Q f [] (t ∷ ts) h = absurd h
  beside-All Q f (s ∷ ss) [] h = absurd h
  beside-All Q f (s ∷ ss) (t ∷ ts) h = (f s t h.0, beside-All Q f ss ts h.1)

  -- scans beside themselves
  pub beside_same : (Q : Scan → Type 0) → ((s : Scan) → Q s → P s s) → (ss : List Scan) → All Q ss → Beside ss ss
  beside_same Q f [] h = tt
  beside_same Q f (s ∷ ss) h = (f s h.0, beside_same Q f ss h.1)

pub beside_weaken : (P Q : Scan → Scan → Type 0) → ((s t : Scan) → P s t → Q s t) → (ss ts : List Scan) → Beside P ss ts → Beside Q ss ts
beside_weaken P Q f [] [] h = tt
beside_weaken P Q f [] (t ∷ ts) h = absurd h
beside_weaken P Q f (s ∷ ss) [] h = absurd h
beside_weaken P Q f (s ∷ ss) (t ∷ ts) h = (f s t h.0, beside_weaken P Q f ss ts h.1)

-- ---- moves that the search can choose: the keeper of a merge is one of the two

abbrev Fit : ℕ → ℕ → PairMove → Type 0
Fit a b (Swap f g) = Unit {0}
Fit a b (Merge k own g) = (k.0 ≡ a) ⊎ (k.0 ≡ b)

abbrev BestFit : ℕ → ℕ → Option PairMove → Type 0
BestFit a b None = Unit {0}
BestFit a b (Some m) = Fit a b m

abbrev Both : (ℕ → Type 0) → Pair → Type 0
Both Q p = Q p.a × Q p.b

next_up : (m : Option TrackMove) (n : ℕ) → n ≤ next_after m n
next_up None n = le_refl n
next_up (Some (Split f g)) n = omega arith
next_up (Some (Drop f g)) n = le_refl n

module _ (c : FgoConfig) (first : ℕ) (ps : List (ℕ × Prefix)) where
  best-fit : (ss : List Scan) (p : Pair) → BestFit p.a p.b (best_of_pair c first ps ss p)
  unfolding best_of_pair pair_candidates try_swap try_merge
  best-fit ss p =
      foldl_keeps (BestFit a b) (Fit a b) better_pair (λ m n h k. pick (wins (pair_gain n) (best_gain pair_gain m)) m n h k) None (pair_candidates c first ps ss p) tt
      (All-append (Fit a b) (map (try_swap c first ps a b ss _) p.cuts) _ (All-map (Fit a b) (try_swap c first ps a b ss _) p.cuts (mem_All (λ f. Unit {0}) p.cuts (λ f m. tt)))
      (inl refl, (inl refl, (inr refl, (inr refl, tt)))))
    where
      a : ℕ
      a = p.a

      b : ℕ
      b = p.b

      pick : (d : Bool) (m : Option PairMove) (n : PairMove) → BestFit a b m → Fit a b n → BestFit a b (cond d (Some n) m)
      pick true m n h k = k
      pick false m n h k = h

  -- the pairs that the search goes through are of ids that it was given
  module _ (Q : ℕ → Type 0) where
    all-cons_pair : (a b : ℕ) (gs : List ℕ) (l : List Pair) → Q a → Q b → All (Both Q) l → All (Both Q) (cons_pair a b gs l)
    all-cons_pair a b [] l p q h = h
    all-cons_pair a b (g ∷ gs) l p q h = ((p, q), h)

    all-pairs_with : (ss : List Scan) (a : ℕ) (l : List ℕ) → Q a → All Q l → All (Both Q) (neighbours_of c first ps ss a l)
    unfolding neighbours_of
    all-pairs_with ss a [] p h = tt
    all-pairs_with ss a (b ∷ bs) p h = all-cons_pair a b (cuts c first ps ss a b) (neighbours_of c first ps ss a bs) p h.0 (all-pairs_with ss a bs p h.1)

    all-pairs : (ss : List Scan) (l : List ℕ) → All Q l → All (Both Q) (neighbours c first ps ss l)
    unfolding neighbours
    all-pairs ss [] h = tt
    all-pairs ss (a ∷ l) h = All-append (Both Q) (neighbours_of c first ps ss a l) (neighbours c first ps ss l) (all-pairs_with ss a l h.0 h.1) (all-pairs ss l h.1)

-- ---- what the search keeps

-- an id is an old one, or a new one: from the id on that was next at first, and below the next
module _ (Old : ℕ → Type 0) (start : ℕ) where
  abbrev pub Known : ℕ → ℕ → Type 0
  Known n x = Old x ⊎ ((start ≤ x) × (x < n))

  pub known_up : (m n x : ℕ) → m ≤ n → Known m x → Known n x
  known_up m n x h (inl o) = inl o
  known_up m n x h (inr k) = inr (k.0, le_trans k.1 h)

-- a scan of which P holds, beside what it was, with ids that are known
module _ (Old : ℕ → Type 0) (start : ℕ) (P : Scan → Scan → Type 0) where
  pub record Kept (n : ℕ) (s t : Scan) : Type 0 where
    pub holds : P s t
    pub named : Names (Known Old start n) t

  kept-up : (m n : ℕ) → m ≤ n → (s t : Scan) → Kept m s t → Kept n s t
  kept-up m n h s t k = record { holds = k.holds; named = λ x p q. known_up Old start m n x h (k.named x p q) }

module _ (Old : ℕ → Type 0) (start : ℕ) (begun : 0 < start) (P : Scan → Scan → Type 0)
    (on_exchange : (s t : Scan) (a b : ℕ) → 0 < a → 0 < b → P s t → P s (with_ids t (map (exchange a b) t.ids)))
    (on_clear : (s t : Scan) (a : ℕ) → P s t → P s (with_ids t (map (clear a) t.ids))) where
  abbrev Kept' : ℕ → Scan → Scan → Type 0
  Kept' = Kept Old start P

  abbrev Use : ℕ → ℕ → Type 0
  Use n x = (0 < x) × Known Old start n x

  kept-exchange : (n a b : ℕ) → Use n a → Use n b → (s t : Scan) → Kept' n s t → Kept' n s (with_ids t (map (exchange a b) t.ids))
  kept-exchange n a b u v s t k = record { holds = on_exchange s t a b u.0 v.0 k.holds; named = λ x p q. go x p q (ℕ_discrete a x) (ℕ_discrete b x) }
    where
      go : (x : ℕ) → 0 < x → 0 < times x (map (exchange a b) t.ids) → Dec (a ≡ x) → Dec (b ≡ x) → Known Old start n x
      go x p q (yes e) d = subst (Known Old start n) e u.1
      go x p q (no f) (yes e) = subst (Known Old start n) e v.1
      go x p q (no f) (no g) = k.named x p (rw (times-exchange a b x t.ids, exchange_other a b x f g) at q)

  kept-clear : (n a : ℕ) (s t : Scan) → Kept' n s t → Kept' n s (with_ids t (map (clear a) t.ids))
  kept-clear n a s t k = record { holds = on_clear s t a k.holds; named = λ x p q. k.named x p (le_trans q (times-clear a x t.ids p)) }

  kept-cond : (n : ℕ) (s t : Scan) (b : Bool) (k l : List ℕ) → Kept' n s (with_ids t k) → Kept' n s (with_ids t l) → Kept' n s (with_ids t (cond b k l))
  kept-cond n s t true k l h g = h
  kept-cond n s t false k l h g = g

  kept-absorb : (n k o : ℕ) → Use n k → Use n o → (own : Bool) (s t : Scan) → Kept' n s t → Kept' n s (with_ids t (absorb own k o t.ids))
  kept-absorb n k o u v true s t h =
      kept-cond n s t (has k t.ids) (map (clear o) t.ids) (map (exchange k o) t.ids) (kept-clear n o s t h) (kept-exchange n k o u v s t h)
  kept-absorb n k o u v false s t h =
      kept-cond n s t (has o t.ids) (map (exchange k o) (map (clear k) t.ids)) t.ids
      (kept-exchange n k o u v s (with_ids t (map (clear k) t.ids)) (kept-clear n k s t h)) h

  module _ (c : FgoConfig) (first : ℕ) (ps : List (ℕ × Prefix)) (ss : List Scan) where
    kept-swapped : (n a b f : ℕ) → Use n a → Use n b → (ts : List Scan) → Beside (Kept' n) ss ts → Beside (Kept' n) ss (recolumn (swap_column a b f) first ts)
    kept-swapped n a b f u v ts h =
        beside-recolumn (Kept' n) (swap_column a b f)
        (λ i s t k. kept-cond n s t (leb f i) (map (exchange a b) t.ids) t.ids (kept-exchange n a b u v s t k) k) first ss ts h

    pub kept_pair :
        (n a b : ℕ) → Use n a → Use n b → (m : Option PairMove) → BestFit a b m → (ts : List Scan) → Beside (Kept' n) ss ts →
        Beside (Kept' n) ss (after_pair c first ps a b ts m)
    kept_pair n a b u v None h ts k = k
    kept_pair n a b u v (Some (Swap f g)) h ts k = kept-swapped n a b f.0 u v ts k
    kept_pair n a b u v (Some (Merge i own g)) h ts k =
        beside-recolumn (Kept' n) (λ j. absorb own i.0 (other_of a b i.0))
        (λ j s t. kept-absorb n i.0 (other_of a b i.0) (keeper h) (other (eqb a i.0)) own s t) first ss ts k
      where
        keeper : (i.0 ≡ a) ⊎ (i.0 ≡ b) → Use n i.0
        keeper (inl e) = subst (Use n) (sym e) u
        keeper (inr e) = subst (Use n) (sym e) v

        other : (d : Bool) → Use n (cond d b a)
        other true = v
        other false = u

    pub kept_track :
        (n a : ℕ) → start ≤ n → Use n a → (m : Option TrackMove) (ts : List Scan) → Beside (Kept' n) ss ts →
        Beside (Kept' (next_after m n)) ss (after_track c first ps a n ts m)
    kept_track n a h u None ts k = k
    kept_track n a h u (Some (Split f g)) ts k =
        kept-swapped (suc n) a n f.0 (u.0, known_up Old start n (suc n) a (omega arith) u.1) (le_trans begun h, inr (h, le_refl (suc n))) ts
        (beside_weaken (Kept' n) (Kept' (suc n)) (kept-up Old start P n (suc n) (omega arith)) ss ts k)
    kept_track n a h u (Some (Drop f g)) ts k =
        beside-recolumn (Kept' n) (drop_column a f.0)
        (λ i s t k. kept-cond n s t (eqb f.0 i) (map (clear a) t.ids) t.ids (kept-clear n a s t k) k) first ss ts k

    -- from a next id on
    record From (n : ℕ) (r : Search) : Type 0 where
      low : n ≤ r.next_id
      all : Beside (Kept' r.next_id) ss r.scans

    present-use : (n : ℕ) (ts : List Scan) → Beside (Kept' n) ss ts → All (Use n) (present ts)
    present-use n ts h = has-All (Use n) (present ts) (present_is (Known Old start n) ts (beside-All (Kept' n) (Names (Known Old start n)) (λ s t k. k.named) ss ts h))

    use-up : (m n x : ℕ) → m ≤ n → Use m x → Use n x
    use-up m n x h u = (u.0, known_up Old start m n x h u.1)

    from-pair : (n : ℕ) (r : Search) (p : Pair) → From n r → Both (Use n) p → From n (pair_step c first ps r p)
    unfolding pair_step
    from-pair n r p i u =
        record {
          low = i.low;
          all =
              kept_pair r.next_id p.a p.b (use-up n r.next_id p.a i.low u.0) (use-up n r.next_id p.b i.low u.1)
              (best_of_pair c first ps r.scans p) (best-fit c first ps r.scans p) r.scans i.all;
        }

    from-track : (n : ℕ) → start ≤ n → (r : Search) (a : ℕ) → From n r → Use n a → From n (track_step c first ps r a)
    unfolding track_step
    from-track n h r a i u =
        let m = best_of_track c first ps r.scans r.next_id a in
        record {
          low = le_trans i.low (next_up m r.next_id);
          all = kept_track r.next_id a (le_trans h i.low) (use-up n r.next_id a i.low u) m r.scans i.all;
        }

    from-pass : (r : Search) → From start r → From start (pass c first ps r)
    unfolding pass
    from-pass r i =
        let r0 : Search = record { scans = r.scans; next_id = r.next_id; counters = r.counters; moved = false } in
        let t = foldl (pair_step c first ps) r0 (neighbours c first ps r.scans (present r.scans)) in
        let it : From r.next_id t =
        foldl_keeps (From r.next_id) (Both (Use r.next_id)) (pair_step c first ps) (from-pair r.next_id) r0 (neighbours c first ps r.scans (present r.scans))
        (record { low = le_refl r.next_id; all = i.all })
        (all-pairs c first ps (Use r.next_id) r.scans (present r.scans) (present-use r.next_id r.scans i.all)) in
        let h : start ≤ t.next_id = le_trans i.low it.low in
        let u : From t.next_id (foldl (track_step c first ps) t (present t.scans)) =
        foldl_keeps (From t.next_id) (Use t.next_id) (track_step c first ps) (from-track t.next_id h) t (present t.scans)
        (record { low = le_refl t.next_id; all = it.all }) (present-use t.next_id t.scans it.all) in
        record { low = le_trans h u.low; all = u.all }

    from-passes : (k ran : ℕ) (r : Search) (moved : Bool) → From start r → From start (passes c first ps k ran r moved).search
    unfolding passes
    from-passes zero ran r moved i = i
    from-passes (suc k) ran r false i = i
    from-passes (suc k) ran r true i = from-passes k (suc ran) (pass c first ps r) (pass c first ps r).moved (from-pass r i)

    pub search_keeps :
        (k : FgoCounters) → Beside (Kept' start) ss ss →
        (let r = (improve c first ps ss start k).search in (start ≤ r.next_id) × Beside (Kept' r.next_id) ss r.scans)
    unfolding improve
    search_keeps k h =
        let i = from-passes (max_passes_of c) 0 (record { scans = ss; next_id = start; counters = k; moved = true }) true (record { low = le_refl start; all = h }) in
        (i.low, i.all)
