-- The renamings do to windows what document 01 says of both forms of a merge, and the losers are those that it says.
-- Assumes nothing.
use Prim.Native.Nat.{ℕ, suc, ◌+◌, ◌≤◌, ◌<◌}
use native.Mathlib.Nat.{zero-add}
use native.Mathlib.Omega.{arith}
use mathlib.Core.Path.{◌≡◌, refl, sym, ap, ◌∙◌}
use mathlib.Core.Bool.{Bool, true, false, cond, ◌&&◌, and_comm}
use mathlib.Core.List.{List, [], ◌∷◌, ◌++◌, map}
use lib.ListN.{length}
use lib.Ieee.{Float}
use lib.Dec.{eqb}
use borrow.Author.Tests.{eq-eqb, ne_eqb}
use Rattle.engine.specs.declared.config.FgoConfig.{FgoConfig}
use Rattle.engine.specs.declared.types.Association.{Association}
use Rattle.engine.specs.Frame.{Frame}
use Rattle.std.specs.Prelude.{Some}
use Rattle.fgo_spec.specs.declared.moves.PairMove.TheVariants.{Merge}
use Rattle.fgo_spec.specs.Lists.{keep, any, has}
use Rattle.fgo_spec.specs.Windows.{Scan, Detection, Prefix, under, in_scan, window}
use Rattle.fgo_spec.specs.Searching.{recolumn, exchange, clear, absorb, shared, merged, after_pair}
use Rattle.fgo_spec.specs.Rule.{All}
use Rattle.fgo_spec.specs.Faithful.{joined, beside, shares, losers, Merged, Regular}
use Rattle.fgo_spec.proofs.All.{All_weaken}
use Rattle.fgo_spec.proofs.Counting.{any_none, keep_same, eq_compare, lt_compare, gt_compare}
use Rattle.fgo_spec.proofs.Renaming.{exchange-left, exchange_other, renames_exchange, renames_clear, absorb_other}
use Rattle.fgo_spec.proofs.Windows.{under_renames, under_absent, Detected, absent, once, detected, window-from}

-- two windows as one, scan by scan
module _ (own : Bool) (n : ℕ) (d : Detection) (p : d.scan ≡ n) where
  pub join-left : (v w : List Detection) → All (λ e. suc n ≤ e.scan) w → joined own (d ∷ v) w ≡ d ∷ joined own v w
  unfolding joined beside
  join-left v [] h = refl
  join-left v (e ∷ w) h = let k = h.0 in rw (lt_compare d.scan e.scan (omega arith))

  pub join-right : (v w : List Detection) → All (λ e. suc n ≤ e.scan) v → joined own v (d ∷ w) ≡ d ∷ joined own v w
  unfolding joined beside
  join-right [] w h = refl
  join-right (e ∷ v) w h = let k = h.0 in rw (gt_compare e.scan d.scan (omega arith))

  pub join_both : (e : Detection) → e.scan ≡ n → (v w : List Detection) → joined own (d ∷ v) (e ∷ w) ≡ cond own d e ∷ joined own v w
  unfolding joined beside
  join_both e q v w = rw (eq_compare d.scan e.scan (p ∙ sym q))

module _ (k o : ℕ) (hk : 0 < k) (ho : 0 < o) (apart : k ≡ o → ⊥) where
  -- a scan after a merge: what it has of the keeper, of the other and of any other
  module _ (n : ℕ) (f : Frame) (l : List Association) where
    exchanged : (x : ℕ) (is : List ℕ) → under x n f l (map (exchange k o) is) ≡ under (exchange k o x) n f l is
    exchanged x is = under_renames n f (exchange k o) x (exchange k o x) (renames_exchange k o x) l is

    cleared : (a x : ℕ) (is : List ℕ) → 0 < x → (a ≡ x → ⊥) → under x n f l (map (clear a) is) ≡ under x n f l is
    cleared a x is h d = under_renames n f (clear a) x x (renames_clear a x h d) l is

    -- the other's detections stand under the keeper once the keeper's own are cleared
    taken-over : (is : List ℕ) → under k n f l (map (exchange k o) (map (clear k) is)) ≡ under o n f l is
    taken-over is = exchanged k (map (clear k) is) ∙ ap (λ y. under y n f l (map (clear k) is)) (exchange-left k o k refl) ∙ cleared k o is ho apart

    absorb-keeper : (own : Bool) (is : List ℕ) → under k n f l (absorb own k o is) ≡ cond own (cond (has k is) (under k n f l is) (under o n f l is)) (cond (has o is) (under o n f l is) (under k n f l is))
    absorb-keeper true is = go (has k is)
      where
        go : (b : Bool) → under k n f l (cond b (map (clear o) is) (map (exchange k o) is)) ≡ cond b (under k n f l is) (under o n f l is)
        go true = cleared o k is hk (λ e. apart (sym e))
        go false = exchanged k is ∙ ap (λ y. under y n f l is) (exchange-left k o k refl)
    absorb-keeper false is = go (has o is)
      where
        go : (b : Bool) → under k n f l (cond b (map (exchange k o) (map (clear k) is)) is) ≡ cond b (under o n f l is) (under k n f l is)
        go true = taken-over is
        go false = refl

    absorb-others : (own : Bool) (x : ℕ) (is : List ℕ) → 0 < x → (k ≡ x → ⊥) → (o ≡ x → ⊥) → under x n f l (absorb own k o is) ≡ under x n f l is
    absorb-others true x is h p q = go (has k is)
      where
        go : (b : Bool) → under x n f l (cond b (map (clear o) is) (map (exchange k o) is)) ≡ under x n f l is
        go true = cleared o x is h q
        go false = exchanged x is ∙ ap (λ y. under y n f l is) (exchange_other k o x p q)
    absorb-others false x is h p q = go (has o is)
      where
        go : (b : Bool) → under x n f l (cond b (map (exchange k o) (map (clear k) is)) is) ≡ under x n f l is
        go true = exchanged x (map (clear k) is) ∙ ap (λ y. under y n f l (map (clear k) is)) (exchange_other k o x p q) ∙ cleared k x is h p
        go false = refl

  merge-window : (own : Bool) (n : ℕ) (ss : List Scan) → All Regular ss → window k n (recolumn (λ m. absorb own k o) n ss) ≡ joined own (window k n ss) (window o n ss)
  unfolding window recolumn
  merge-window own n [] r = unfold joined in refl
  merge-window own n (s ∷ ss) r =
      (λ i. absorb-keeper n s.frame s.frame.associations own s.ids i ++ merge-window own (suc n) ss r.1 i)
      ∙ go own (detected k n s hk r.0) (detected o n s ho r.0)
    where
      mine : List Detection
      mine = window k (suc n) ss

      theirs : List Detection
      theirs = window o (suc n) ss

      go : (own : Bool) → Detected k n s → Detected o n s → cond own (cond (has k s.ids) (in_scan k n s) (in_scan o n s)) (cond (has o s.ids) (in_scan o n s) (in_scan k n s)) ++ joined own mine theirs ≡ joined own (in_scan k n s ++ mine) (in_scan o n s ++ theirs)
      go true (absent p e) (absent q g) = rw (p, e, g)
      go false (absent p e) (absent q g) = rw (q, e, g)
      go true (once d p e c) (absent q g) = rw (p, e, g) (sym (join-left true n d c mine theirs (window-from o (suc n) ss)))
      go false (once d p e c) (absent q g) = rw (q, e, g) (sym (join-left false n d c mine theirs (window-from o (suc n) ss)))
      go true (absent p e) (once d q g c) = rw (p, e, g) (sym (join-right true n d c mine theirs (window-from k (suc n) ss)))
      go false (absent p e) (once d q g c) = rw (q, e, g) (sym (join-right false n d c mine theirs (window-from k (suc n) ss)))
      go true (once d p e c) (once b q g h) = rw (p, e, g) (sym (join_both true n d c b h mine theirs))
      go false (once d p e c) (once b q g h) = rw (q, e, g) (sym (join_both false n d c b h mine theirs))

  merge-other : (own : Bool) (n : ℕ) (ss : List Scan) → window o n (recolumn (λ m. absorb own k o) n ss) ≡ []
  unfolding window recolumn
  merge-other own n [] = refl
  merge-other own n (s ∷ ss) =
      λ i. under_absent n s.frame o s.frame.associations (absorb own k o s.ids) (absorb_other k o hk ho apart own s.ids) i ++ merge-other own (suc n) ss i

  merge-others : (own : Bool) (x n : ℕ) (ss : List Scan) → 0 < x → (k ≡ x → ⊥) → (o ≡ x → ⊥) → window x n (recolumn (λ m. absorb own k o) n ss) ≡ window x n ss
  unfolding window recolumn
  merge-others own x n [] h p q = refl
  merge-others own x n (s ∷ ss) h p q = λ i. absorb-others n s.frame s.frame.associations own x s.ids h p q i ++ merge-others own x (suc n) ss h p q i

-- ---- the losers

module _ (a b : ℕ) (ha : 0 < a) (hb : 0 < b) where
  shared-losers : (n : ℕ) (ss : List Scan) → All Regular ss → shared a b ss ≡ length (keep (shares (window a n ss)) (window b n ss))
  unfolding window shared
  shared-losers n [] r = unfold keep in refl
  shared-losers n (s ∷ ss) r = go (detected a n s ha r.0) (detected b n s hb r.0) (shared-losers (suc n) ss r.1)
    where
      mine : List Detection
      mine = window a (suc n) ss

      theirs : List Detection
      theirs = window b (suc n) ss

      -- a detection of this scan shares none with later ones, and later ones share none with it
      not-later : (e : Detection) → e.scan ≡ n → shares mine e ≡ false
      not-later e q =
          any_none (λ d. eqb e.scan d.scan) mine
          (All_weaken (λ d. suc n ≤ d.scan) (λ d. eqb e.scan d.scan ≡ false) mine (λ d k. ne_eqb e.scan d.scan (λ z. omega arith)) (window-from a (suc n) ss))

      not-now : (d : Detection) → d.scan ≡ n → keep (shares (d ∷ mine)) theirs ≡ keep (shares mine) theirs
      not-now d q =
          keep_same (shares (d ∷ mine)) (shares mine) theirs
          (All_weaken (λ e. suc n ≤ e.scan) (λ e. shares (d ∷ mine) e ≡ shares mine e) theirs (λ e k. unfold any in rw (ne_eqb e.scan d.scan (λ z. omega arith))) (window-from b (suc n) ss))

      go : Detected a n s → Detected b n s → shared a b ss ≡ length (keep (shares mine) theirs) → cond (has a s.ids && has b s.ids) 1 0 + shared a b ss ≡ length (keep (shares (in_scan a n s ++ mine)) (in_scan b n s ++ theirs))
      go (absent p e) (absent q g) u = rw (p, e, g) (zero-add (shared a b ss) ∙ u)
      go (absent p e) (once d q g c) u = rw (p, e, g) (zero-add (shared a b ss) ∙ u ∙ unfold keep in rw (not-later d c))
      go (once d p e c) (absent q g) u = rw (p, q, e, g) (zero-add (shared a b ss) ∙ u ∙ sym (ap length (not-now d c)))
      go (once d p e c) (once x q g h) u =
          rw (p, q, e, g)
          (ap (λ m. 1 + m) (u ∙ sym (ap length (not-now d c))) ∙ one (length (keep (shares (d ∷ mine)) theirs)) ∙ unfold keep any in rw (eq-eqb x.scan d.scan (h ∙ sym c)))
        where
          one : (m : ℕ) → 1 + m ≡ suc m
          one m = omega arith

-- a pair shares as many scans either way
pub shared-turned : (a b : ℕ) (ss : List Scan) → shared a b ss ≡ shared b a ss
unfolding shared
shared-turned a b [] = refl
shared-turned a b (s ∷ ss) = λ i. cond (and_comm (has a s.ids) (has b s.ids) i) 1 0 + shared-turned a b ss i

-- a merge of a pair, with either as the keeper, and what it says the losers are
module _ (c : FgoConfig) (n : ℕ) (ps : List (ℕ × Prefix)) (a b : ℕ) (ha : 0 < a) (hb : 0 < b) (apart : a ≡ b → ⊥) (ss : List Scan) (r : All Regular ss) where
  merges : (k o : ℕ) → 0 < k → 0 < o → (k ≡ o → ⊥) → (own : Bool) → Merged own k o n ss (merged c n ps own k o ss)
  merges k o hk ho d own =
      record {
        keeper = merge-window k o hk ho d own n ss r;
        other = merge-other k o hk ho d own n ss;
        others = λ x h p q. merge-others k o hk ho d own x n ss h p q;
        lost = lost own;
      }
    where
      lost : (own : Bool) → shared k o ss ≡ length (losers own (window k n ss) (window o n ss))
      lost true = shared-losers k o hk ho n ss r
      lost false = shared-turned k o ss ∙ shared-losers o k ho hk n ss r

  pub merge_first_says : (own : Bool) (g : Float) → Merged own a b n ss (after_pair c n ps a b ss (Some (Merge (record { 0 = a }) own g)))
  merge_first_says own g = rw (eq-eqb a a refl) (merges a b ha hb apart own)

  pub merge_second_says : (own : Bool) (g : Float) → Merged own b a n ss (after_pair c n ps a b ss (Some (Merge (record { 0 = b }) own g)))
  merge_second_says own g = rw (ne_eqb a b apart) (merges b a hb ha (λ e. apart (sym e)) own)
