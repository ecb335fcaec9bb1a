-- The renamings do to windows what document 01 says of swap, split and drop. Assumes nothing.
use Prim.Native.Nat.{ℕ, suc, ◌≤◌, ◌<◌}
use native.Mathlib.Nat.{le_refl}
use native.Mathlib.Omega.{arith}
use mathlib.Core.Path.{◌≡◌, refl, sym, ap, ◌∙◌, subst}
use mathlib.Core.Bool.{Bool, true, false, cond, not}
use mathlib.Core.List.{List, [], ◌∷◌, ◌++◌, map, append_assoc, append-nil}
use lib.Ieee.{Float}
use lib.Dec.{eqb, ltb, leb}
use borrow.Author.Tests.{leb-true, leb-false, eq-eqb, ne_eqb, lt-ltb, le-ltb, le-leb, lt-leb}
use Rattle.engine.specs.declared.config.FgoConfig.{FgoConfig}
use Rattle.std.specs.Prelude.{Some}
use Rattle.fgo_spec.specs.declared.moves.PairMove.TheVariants.{Swap}
use Rattle.fgo_spec.specs.declared.moves.TrackMove.TheVariants.{Split, Drop}
use Rattle.fgo_spec.specs.Lists.{keep}
use Rattle.fgo_spec.specs.Windows.{Scan, Detection, Prefix, under, in_scan, window}
use Rattle.fgo_spec.specs.Searching.{recolumn, exchange, clear, swap_column, drop_column, after_pair, after_track}
use Rattle.fgo_spec.specs.History.{Rising}
use Rattle.fgo_spec.specs.Rule.{All}
use Rattle.fgo_spec.specs.Faithful.{before, from, Swapped, Halved, Dropped, Regular}
use Rattle.fgo_spec.proofs.All.{All_weaken, All-right}
use Rattle.fgo_spec.proofs.Counting.{keep_append, keep_const}
use Rattle.fgo_spec.proofs.Renaming.{exchange-left, exchange-right, exchange_other, renames_exchange, renames_clear, times_cleared}
use Rattle.fgo_spec.proofs.Windows.{under_renames, under_absent, window-from, keep-window, scans, window_rises}

-- ---- parts of a window

-- from the cut on: nothing is before it, and all is from it on
module _ (f x n : ℕ) (ss : List Scan) (h : f ≤ n) where
  none_before : before f (window x n ss) ≡ []
  none_before =
      keep_const false (λ d. ltb d.scan f) (window x n ss)
      (All_weaken (λ d. n ≤ d.scan) (λ d. ltb d.scan f ≡ false) (window x n ss) (λ d k. le-ltb d.scan f (omega arith)) (window-from x n ss))

  all_from : from f (window x n ss) ≡ window x n ss
  all_from =
      keep_const true (λ d. leb f d.scan) (window x n ss)
      (All_weaken (λ d. n ≤ d.scan) (λ d. leb f d.scan ≡ true) (window x n ss) (λ d k. le-leb f d.scan (omega arith)) (window-from x n ss))

-- before the cut: all of a scan is before it
module _ (f x n : ℕ) (s : Scan) (ss : List Scan) (h : n < f) where
  one-before : before f (window x n (s ∷ ss)) ≡ in_scan x n s ++ before f (window x (suc n) ss)
  one-before = keep-window (λ k. ltb k f) x n s ss ∙ rw (lt-ltb n f h)

  none_from : from f (window x n (s ∷ ss)) ≡ from f (window x (suc n) ss)
  none_from = keep-window (λ k. leb f k) x n s ss ∙ rw (lt-leb f n h)

-- a window is its part before a cut and its part from it on
pub parts : (f x n : ℕ) (ss : List Scan) → before f (window x n ss) ++ from f (window x n ss) ≡ window x n ss
unfolding window
parts f x n [] = unfold keep in refl
parts f x n (s ∷ ss) = go (leb f n) refl (parts f x (suc n) ss)
  where
    go : (b : Bool) → leb f n ≡ b → before f (window x (suc n) ss) ++ from f (window x (suc n) ss) ≡ window x (suc n) ss → before f (window x n (s ∷ ss)) ++ from f (window x n (s ∷ ss)) ≡ window x n (s ∷ ss)
    go true q r = let h = leb-true f n q in (λ i. none_before f x n (s ∷ ss) h i ++ all_from f x n (s ∷ ss) h i)
    go false q r =
        let h = leb-false f n q in
        (λ i. one-before f x n s ss h i ++ none_from f x n s ss h i)
        ∙ append_assoc (in_scan x n s) (before f (window x (suc n) ss)) (from f (window x (suc n) ss))
        ∙ ap (λ w. in_scan x n s ++ w) r

-- ---- swap

module _ (a b f x : ℕ) where
  -- from the cut on, x's window is that of the id it is exchanged with
  swap-late : (n : ℕ) (ss : List Scan) → f ≤ n → window x n (recolumn (swap_column a b f) n ss) ≡ window (exchange a b x) n ss
  unfolding window recolumn
  swap-late n [] h = refl
  swap-late n (s ∷ ss) h =
      rw (le-leb f n h)
      (λ i. under_renames n s.frame (exchange a b) x (exchange a b x) (renames_exchange a b x) s.frame.associations s.ids i ++ swap-late (suc n) ss (omega arith) i)

  swap-window : (n : ℕ) (ss : List Scan) → window x n (recolumn (swap_column a b f) n ss) ≡ before f (window x n ss) ++ from f (window (exchange a b x) n ss)
  unfolding window recolumn
  swap-window n [] = unfold keep in refl
  swap-window n (s ∷ ss) = go (leb f n) refl (swap-window (suc n) ss)
    where
      y : ℕ
      y = exchange a b x

      go : (c : Bool) → leb f n ≡ c → window x (suc n) (recolumn (swap_column a b f) (suc n) ss) ≡ before f (window x (suc n) ss) ++ from f (window y (suc n) ss) → window x n (recolumn (swap_column a b f) n (s ∷ ss)) ≡ before f (window x n (s ∷ ss)) ++ from f (window y n (s ∷ ss))
      go true q r =
          let h = leb-true f n q in
          swap-late n (s ∷ ss) h ∙ sym (λ i. none_before f x n (s ∷ ss) h i ++ all_from f y n (s ∷ ss) h i)
      go false q r =
          let h = leb-false f n q in
          rw q
          (ap (λ w. in_scan x n s ++ w) r
          ∙ sym (append_assoc (in_scan x n s) (before f (window x (suc n) ss)) (from f (window y (suc n) ss)))
          ∙ sym (λ i. one-before f x n s ss h i ++ none_from f y n s ss h i))

pub swap_says : (c : FgoConfig) (n : ℕ) (ps : List (ℕ × Prefix)) (a b f : ℕ) (g : Float) (ss : List Scan) → (a ≡ b → ⊥) → Swapped a b f n ss (after_pair c n ps a b ss (Some (Swap (record { 0 = f }) g)))
swap_says c n ps a b f g ss d =
    record {
      first = swap-window a b f a n ss ∙ ap (λ y. before f (window a n ss) ++ from f (window y n ss)) (exchange-left a b a refl);
      second = swap-window a b f b n ss ∙ ap (λ y. before f (window b n ss) ++ from f (window y n ss)) (exchange-right a b b d refl);
      others = λ x p q. swap-window a b f x n ss ∙ ap (λ y. before f (window x n ss) ++ from f (window y n ss)) (exchange_other a b x p q) ∙ parts f x n ss;
    }

-- ---- a detection in a window

-- what stands before it is in earlier scans, what stands after it in later ones
later : (d : Detection) (u : List Detection) → Rising (scans (d ∷ u)) → All (λ e. d.scan < e.scan) u
unfolding Rising
later d [] r = tt
later d (e ∷ u) r = let k = r.0 in (k, All_weaken (λ g. e.scan < g.scan) (λ g. d.scan < g.scan) u (λ g h. omega arith) (later e u r.1))

rising_tail : (d : Detection) (w : List Detection) → Rising (scans (d ∷ w)) → Rising (scans w)
unfolding Rising
rising_tail d [] r = tt
rising_tail d (e ∷ w) r = r.1

earlier : (v : List Detection) (d : Detection) (u : List Detection) → Rising (scans (v ++ (d ∷ u))) → All (λ e. e.scan < d.scan) v × Rising (scans (d ∷ u))
earlier [] d u r = (tt, r)
earlier (e ∷ v) d u r =
    let t = earlier v d u (rising_tail e (v ++ (d ∷ u)) r) in
    (((All-right (λ g. e.scan < g.scan) v (d ∷ u) (later e (v ++ (d ∷ u)) r)).0, t.0), t.1)

-- a test that passes before d and after d, or not
keep_parts :
    (g : ℕ → Bool) (v : List Detection) (d : Detection) (u : List Detection) → Rising (scans (v ++ (d ∷ u))) →
    (p q : Bool) → ((k : ℕ) → k < d.scan → g k ≡ p) → ((k : ℕ) → d.scan < k → g k ≡ q) →
    keep (λ e. g e.scan) (v ++ (d ∷ u)) ≡ cond p v [] ++ (keep (λ e. g e.scan) (d ∷ []) ++ cond q u [])
keep_parts g v d u r p q h k =
    let t = earlier v d u r in
    let test : Detection → Bool = λ e. g e.scan in
    keep_append test v (d ∷ u)
    ∙ (λ i. keep_const p test v (All_weaken (λ e. e.scan < d.scan) (λ e. g e.scan ≡ p) v (λ e. h e.scan) t.0) i ++ keep_append test (d ∷ []) u i)
    ∙ ap (λ w. cond p v [] ++ (keep test (d ∷ []) ++ w)) (keep_const q test u (All_weaken (λ e. d.scan < e.scan) (λ e. g e.scan ≡ q) u (λ e. k e.scan) (later d u t.1)))

-- ---- split

pub split_says : (c : FgoConfig) (n : ℕ) (ps : List (ℕ × Prefix)) (a x : ℕ) (g : Float) (ss : List Scan) → 0 < a → All Regular ss → (a ≡ x → ⊥) → window x n ss ≡ []
    → (v : List Detection) (d : Detection) (u : List Detection) → window a n ss ≡ v ++ (d ∷ u) → Halved a x n v d u ss (after_track c n ps a x ss (Some (Split (record { 0 = d.scan }) g)))
unfolding keep
split_says c n ps a x g ss h r t e v d u w =
    let f = d.scan in
    let s = swap_says c n ps a x f g ss t in
    let z : Rising (scans (v ++ (d ∷ u))) = subst (λ l. Rising (scans l)) w (window_rises a n ss h r) in
    record {
      head =
          s.first
          ∙ (λ i. before f (w i) ++ from f (e i))
          ∙ append-nil (before f (v ++ (d ∷ u)))
          ∙ keep_parts (λ k. ltb k f) v d u z true false (λ k l. lt-ltb k f l) (λ k l. le-ltb k f (omega arith))
          ∙ rw (le-ltb f f (le_refl f)) (append-nil v);
      tail =
          s.second
          ∙ (λ i. before f (e i) ++ from f (w i))
          ∙ keep_parts (λ k. leb f k) v d u z false true (λ k l. lt-leb f k l) (λ k l. le-leb f k (omega arith))
          ∙ rw (le-leb f f (le_refl f));
      others = s.others;
    }

-- ---- drop

-- a window without its detection of scan f
abbrev without : ℕ → List Detection → List Detection
without f w = keep (λ d. not (eqb f d.scan)) w

module _ (a f : ℕ) (h : 0 < a) where
  drop-window : (n : ℕ) (ss : List Scan) → window a n (recolumn (drop_column a f) n ss) ≡ without f (window a n ss)
  unfolding window recolumn
  drop-window n [] = unfold keep in refl
  drop-window n (s ∷ ss) = go (eqb f n) (drop-window (suc n) ss) ∙ sym (keep-window (λ k. not (eqb f k)) a n s ss)
    where
      go : (b : Bool) → window a (suc n) (recolumn (drop_column a f) (suc n) ss) ≡ without f (window a (suc n) ss) → under a n s.frame s.frame.associations (cond b (map (clear a) s.ids) s.ids) ++ window a (suc n) (recolumn (drop_column a f) (suc n) ss) ≡ cond (not b) (in_scan a n s) [] ++ without f (window a (suc n) ss)
      go true u = rw (under_absent n s.frame a s.frame.associations (map (clear a) s.ids) (times_cleared a s.ids h)) u
      go false u = ap (λ w. in_scan a n s ++ w) u

  drop-other : (x n : ℕ) (ss : List Scan) → 0 < x → (a ≡ x → ⊥) → window x n (recolumn (drop_column a f) n ss) ≡ window x n ss
  unfolding window recolumn
  drop-other x n [] k t = refl
  drop-other x n (s ∷ ss) k t = λ i. go (eqb f n) i ++ drop-other x (suc n) ss k t i
    where
      go : (b : Bool) → under x n s.frame s.frame.associations (cond b (map (clear a) s.ids) s.ids) ≡ in_scan x n s
      go true = under_renames n s.frame (clear a) x x (renames_clear a x k t) s.frame.associations s.ids
      go false = refl

pub drop_says : (c : FgoConfig) (n : ℕ) (ps : List (ℕ × Prefix)) (a x : ℕ) (g : Float) (ss : List Scan) → 0 < a → All Regular ss
    → (v : List Detection) (d : Detection) (u : List Detection) → window a n ss ≡ v ++ (d ∷ u) → Dropped a n v d u ss (after_track c n ps a x ss (Some (Drop (record { 0 = d.scan }) g)))
unfolding keep
drop_says c n ps a x g ss h r v d u w =
    let f = d.scan in
    let z : Rising (scans (v ++ (d ∷ u))) = subst (λ l. Rising (scans l)) w (window_rises a n ss h r) in
    record {
      left =
          drop-window a f h n ss
          ∙ ap (without f) w
          ∙ keep_parts (λ k. not (eqb f k)) v d u z true true (λ k l. ap not (ne_eqb f k (λ e. omega arith))) (λ k l. ap not (ne_eqb f k (λ e. omega arith)))
          ∙ rw (eq-eqb f f refl);
      others = λ y k t. drop-other a f h y n ss k t;
    }
