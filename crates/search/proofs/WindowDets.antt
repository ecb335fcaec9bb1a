-- A window whose detections are a row's: its parts have those of the row's parts, and two joined those of the merged
-- rows. Assumes nothing.
use Prim.Native.Nat.{ℕ, zero, suc, ◌+◌, ◌≤◌}
use native.Mathlib.Nat.{add-suc}
use native.Mathlib.Omega.{arith}
use mathlib.Core.Path.{◌≡◌, refl, sym, ap, ◌∙◌, subst}
use mathlib.Core.Bool.{Bool, true, false, cond}
use mathlib.Core.List.{List, [], ◌∷◌, ◌++◌, map, map-append, head-eq_of_cons-eq, tail-eq_of_cons-eq, nil≢cons, cons≢nil}
use lib.ListN.{length, take, drop}
use lib.Dec.{ltb, leb}
use borrow.Author.Tests.{ne_eqb}
use Rattle.engine.specs.declared.config.FgoConfig.{FgoConfig}
use Rattle.cost.specs.Cost.{Measurement, View, measurement_at, measurements}
use Rattle.fgo_spec.specs.Lists.{keep, cons_if}
use Rattle.fgo_spec.specs.Windows.{Detection, measure}
use Rattle.fgo_spec.specs.Rule.{All}
use Rattle.fgo_spec.specs.Faithful.{before, from, joined}
use Rattle.fgo_spec.proofs.All.{map-All}
use Rattle.fgo_spec.proofs.Merging.{join-left, join-right, join_both}
use Rattle.cost_row.specs.Price.{crossed}
use Rattle.search_merge.specs.Merge.{kept_slot, merged_row}
use Rattle.search.proofs.RowDets.{dets_from, dets_before, dets_onward, dets_cut}

-- ---- lists

module _ {A B : Type 0} (f : A → B) where
  -- a test goes through a map
  pub map-keep : (g : B → Bool) (l : List A) → map f (keep (λ a. g (f a)) l) ≡ keep g (map f l)
  unfolding keep
  map-keep g [] = refl
  map-keep g (a ∷ l) = go (g (f a)) (map-keep g l)
    where
      go : (b : Bool) → map f (keep (λ x. g (f x)) l) ≡ keep g (map f l) → map f (cons_if b a (keep (λ x. g (f x)) l)) ≡ cons_if b (f a) (keep g (map f l))
      go true r = ap (λ (m : List B). f a ∷ m) r
      go false r = r

  -- where what is mapped has parts, the list has them too
  pub record Parts (w : List A) (x : List B) (d : B) (y : List B) : Type 0 where
    pub head : List A
    pub at : A
    pub tail : List A
    pub is : w ≡ head ++ (at ∷ tail)
    pub heads : map f head ≡ x
    pub ats : f at ≡ d
    pub tails : map f tail ≡ y

  pub unmap : (w : List A) (x : List B) (d : B) (y : List B) → map f w ≡ x ++ (d ∷ y) → Parts w x d y
  unmap [] [] d y h = absurd (nil≢cons h)
  unmap [] (e ∷ x) d y h = absurd (nil≢cons h)
  unmap (a ∷ w) [] d y h = record { head = []; at = a; tail = w; is = refl; heads = refl; ats = head-eq_of_cons-eq h; tails = tail-eq_of_cons-eq h }
  unmap (a ∷ w) (e ∷ x) d y h =
      let t = unmap w x d y (tail-eq_of_cons-eq h) in
      record {
        head = a ∷ t.head;
        at = t.at;
        tail = t.tail;
        is = ap (λ (l : List A). a ∷ l) t.is;
        heads = λ i. head-eq_of_cons-eq h i ∷ t.heads i;
        ats = t.ats;
        tails = t.tails;
      }

cond_ap : {A B : Type 0} (f : A → B) (b : Bool) (x y : A) → f (cond b x y) ≡ cond b (f x) (f y)
cond_ap f true x y = refl
cond_ap f false x y = refl

-- ---- of two in one scan the keeper's or the other's

kept-left : (own : Bool) (i : ℕ) → kept_slot own (suc i) 0 ≡ suc i
kept-left own i = rw (ne_eqb (suc i) 0 (λ e. omega arith))

kept_both : (own : Bool) (i j : ℕ) → kept_slot own (suc i) (suc j) ≡ suc (cond own i j)
kept_both own i j = rw (ne_eqb (suc i) 0 (λ e. omega arith), ne_eqb (suc j) 0 (λ e. omega arith)) (sym (cond_ap suc own i j))

-- ---- windows

module _ (c : FgoConfig) (v : View) where
  -- the window's detections are the row's
  abbrev pub Rowed : List Detection → List ℕ → Type 0
  Rowed w r = map (measure c) w ≡ measurements v 0 r

  pub row_before : (n : ℕ) (w : List Detection) (r : List ℕ) → Rowed w r → map (measure c) (before (v.first + n) w) ≡ measurements v 0 (take n r)
  row_before n w r h =
      let g : Measurement → Bool = λ d. ltb d.scan (v.first + n) in
      map-keep (measure c) g w ∙ ap (keep g) h ∙ dets_before v n r

  pub row_from : (n : ℕ) (w : List Detection) (r : List ℕ) → Rowed w r → map (measure c) (from (v.first + n) w) ≡ measurements v n (drop n r)
  row_from n w r h =
      let g : Measurement → Bool = λ d. leb (v.first + n) d.scan in
      map-keep (measure c) g w ∙ ap (keep g) h ∙ dets_onward v n r

  -- one window's part before a cut and another's from it on
  pub row-crossed :
      (n : ℕ) (w u : List Detection) (a b : List ℕ) → length a ≡ length b → Rowed w a → Rowed u b →
      Rowed (before (v.first + n) w ++ from (v.first + n) u) (crossed n a b)
  row-crossed n w u a b e h g =
      map-append (measure c) (before (v.first + n) w) (from (v.first + n) u)
      ∙ (λ i. row_before n w a h i ++ row_from n u b g i)
      ∙ sym (dets_cut v n a b e)

  -- ---- two windows as one

  -- of a row from place k + 1 on, later than scan k
  row-later : (k : ℕ) (r : List ℕ) (w : List Detection) → map (measure c) w ≡ measurements v (suc k) r → All (λ (d : Detection). suc (v.first + k) ≤ d.scan) w
  row-later k r w h =
      map-All Later (measure c) w (subst (All Later) (sym h) (subst (λ (n : ℕ). All (λ (d : Measurement). n ≤ d.scan) (measurements v (suc k) r)) (add-suc v.first k) (dets_from v (suc k) r)))
    where
      Later : Measurement → Type 0
      Later d = suc (v.first + k) ≤ d.scan

  pub row-joined :
      (own : Bool) (k : ℕ) (a b : List ℕ) (w u : List Detection) → length a ≡ length b → map (measure c) w ≡ measurements v k a → map (measure c) u ≡ measurements v k b →
      map (measure c) (joined own w u) ≡ measurements v k (merged_row own a b)
  unfolding measurements merged_row
  row-joined own k [] (y ∷ b) w u e h g = absurd (omega arith)
  row-joined own k (x ∷ a) [] w u e h g = absurd (omega arith)
  row-joined own k [] [] (d ∷ w) u e h g = absurd (cons≢nil h)
  row-joined own k [] [] [] (d ∷ u) e h g = absurd (cons≢nil g)
  row-joined own k [] [] [] [] e h g = unfold joined in refl
  row-joined own k (zero ∷ a) (zero ∷ b) w u e h g = row-joined own (suc k) a b w u (omega arith) h g
  row-joined own k (suc i ∷ a) (zero ∷ b) [] u e h g = absurd (nil≢cons h)
  row-joined own k (suc i ∷ a) (zero ∷ b) (d ∷ w) u e h g =
      ap (map (measure c)) (join-left own (v.first + k) d (ap (λ (d : Measurement). d.scan) (head-eq_of_cons-eq h)) w u (row-later k b u g))
      ∙ (λ z. head-eq_of_cons-eq h z ∷ row-joined own (suc k) a b w u (omega arith) (tail-eq_of_cons-eq h) g z)
      ∙ ap (λ (s : ℕ). measurements v k (s ∷ merged_row own a b)) (sym (kept-left own i))
  row-joined own k (zero ∷ a) (suc j ∷ b) w [] e h g = absurd (nil≢cons g)
  row-joined own k (zero ∷ a) (suc j ∷ b) w (d ∷ u) e h g =
      ap (map (measure c)) (join-right own (v.first + k) d (ap (λ (d : Measurement). d.scan) (head-eq_of_cons-eq g)) w u (row-later k a w h))
      ∙ (λ z. head-eq_of_cons-eq g z ∷ row-joined own (suc k) a b w u (omega arith) h (tail-eq_of_cons-eq g) z)
  row-joined own k (suc i ∷ a) (suc j ∷ b) [] u e h g = absurd (nil≢cons h)
  row-joined own k (suc i ∷ a) (suc j ∷ b) (d ∷ w) [] e h g = absurd (nil≢cons g)
  row-joined own k (suc i ∷ a) (suc j ∷ b) (d ∷ w) (m ∷ u) e h g =
      let p = head-eq_of_cons-eq h in
      let q = head-eq_of_cons-eq g in
      ap (map (measure c)) (join_both own (v.first + k) d (ap (λ (d : Measurement). d.scan) p) m (ap (λ (d : Measurement). d.scan) q) w u)
      ∙ (λ z. (cond_ap (measure c) own d m ∙ (λ y. cond own (p y) (q y)) ∙ sym (cond_ap (measurement_at v k) own i j)) z ∷ row-joined own (suc k) a b w u (omega arith) (tail-eq_of_cons-eq h) (tail-eq_of_cons-eq g) z)
      ∙ ap (λ (s : ℕ). measurements v k (s ∷ merged_row own a b)) (sym (kept_both own i j))
