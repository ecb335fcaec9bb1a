-- A scan is a cut by the detections of two rows just where it is one by the scans noted for the rows. Assumes nothing.
use Prim.Native.Nat.{ℕ, zero, suc, ◌+◌, ◌-◌, ◌≤◌, ◌<◌, min}
use native.Mathlib.Decide.{ℕ_discrete, dec_lt}
use native.Mathlib.Omega.{arith}
use mathlib.Core.Path.{◌≡◌, refl, sym, ap, ◌∙◌, subst}
use mathlib.Core.Logic.{◌⊎◌, inl, inr}
use mathlib.Core.Bool.{Bool, true, false, cond, ◌&&◌, ◌||◌}
use mathlib.Core.List.{List, [], ◌∷◌}
use lib.ListN.{get_or}
use lib.Dec.{T, eqb, leb}
use lib.Ieee.{Float, binary64, add, sub, lt}
use mir.Facts.{and_yes, yes_and, or_yes, eqb_yes, yes_eqb, leb_yes, yes_leb}
use borrow.Author.Tests.{eq-eqb, ne_eqb}
use Rattle.kf.specs.declared.filter.Dot.{Dot}
use Rattle.cost.specs.Cost.{View, Measurement, measurement_at, measurements}
use Rattle.fgo_spec.specs.Lists.{any}
use Rattle.fgo_spec.proofs.Counting.{or_right}
use Rattle.fgo_spec.specs.Searching.{square}
use Rattle.search_neighbours.specs.Near.{apart2, near_slots, close_at}
use Rattle.search_pair.specs.Pair.{cut_at}

pub or_left : (a b : Bool) → T a → T (a || b)
or_left true b t = tt
or_left false b t = absurd t

cond-or : (a b : Bool) → cond a true b ≡ (a || b)
cond-or true b = refl
cond-or false b = refl

pub same_answer : (a b : Bool) → (T a → T b) → (T b → T a) → a ≡ b
same_answer true true f g = refl
same_answer true false f g = absurd (f tt)
same_answer false true f g = absurd (g tt)
same_answer false false f g = refl

-- ---- what some detection of a row has

module _ (p : Measurement → Bool) (v : View) where
  some_in : (k : ℕ) (r : List ℕ) → T (any p (measurements v k r)) → (i : ℕ) × (j : ℕ) × (get_or r i 0 ≡ suc j) × T (p (measurement_at v (k + i) j))
  unfolding any measurements
  some_in k [] t = absurd t
  some_in k (zero ∷ r) t =
      let s = some_in (suc k) r t in
      let e : suc k + s.0 ≡ k + suc s.0 = omega arith in
      (suc s.0, s.1, s.2, subst (λ (n : ℕ). T (p (measurement_at v n s.1))) e s.3)
  some_in k (suc j ∷ r) t = go (or_yes (p (measurement_at v k j)) (any p (measurements v (suc k) r)) t) (some_in (suc k) r)
    where
      go :
          T (p (measurement_at v k j)) ⊎ T (any p (measurements v (suc k) r)) →
          (T (any p (measurements v (suc k) r)) → (i : ℕ) × (j : ℕ) × (get_or r i 0 ≡ suc j) × T (p (measurement_at v (suc k + i) j))) →
          (i : ℕ) × (l : ℕ) × (get_or (suc j ∷ r) i 0 ≡ suc l) × T (p (measurement_at v (k + i) l))
      go (inl h) f = let e : k ≡ k + 0 = omega arith in (0, j, refl, subst (λ (n : ℕ). T (p (measurement_at v n j))) e h)
      go (inr h) f =
          let s = f h in
          let e : suc k + s.0 ≡ k + suc s.0 = omega arith in
          (suc s.0, s.1, s.2, subst (λ (n : ℕ). T (p (measurement_at v n s.1))) e s.3)

  in_some : (k : ℕ) (r : List ℕ) (i j : ℕ) → get_or r i 0 ≡ suc j → T (p (measurement_at v (k + i) j)) → T (any p (measurements v k r))
  unfolding any measurements
  in_some k [] i j e t = absurd (omega arith)
  in_some k (zero ∷ r) zero j e t = absurd (omega arith)
  in_some k (zero ∷ r) (suc i) j e t =
      let q : k + suc i ≡ suc k + i = omega arith in
      in_some (suc k) r i j e (subst (λ (n : ℕ). T (p (measurement_at v n j))) q t)
  in_some k (suc l ∷ r) zero j e t =
      let q : k + 0 ≡ k = omega arith in
      let w : j ≡ l = omega arith in
      or_left (p (measurement_at v k l)) (any p (measurements v (suc k) r)) (subst (λ (m : ℕ). T (p (measurement_at v k m))) w (subst (λ (n : ℕ). T (p (measurement_at v n j))) q t))
  in_some k (suc l ∷ r) (suc i) j e t =
      let q : k + suc i ≡ suc k + i = omega arith in
      or_right (p (measurement_at v k l)) (any p (measurements v (suc k) r)) (in_some (suc k) r i j e (subst (λ (n : ℕ). T (p (measurement_at v n j))) q t))

-- ---- near entries of two rows

-- the squared distance of two detections
abbrev between : Measurement → Measurement → Float
between d e = add binary64 (square (sub binary64 d.x e.x)) (square (sub binary64 d.y e.y))

-- the scan g is a cut by two detections
abbrev pub cut_by : Float → ℕ → Measurement → Measurement → Bool
cut_by radius2 g d e =
    (eqb g (min d.scan e.scan) || eqb g (suc (min d.scan e.scan)))
    && (leb d.scan (suc e.scan) && leb e.scan (suc d.scan) && lt (between d e) radius2)

module _ (radius2 : Float) (dots : List Dot) where
  near_is : (a b : ℕ) → near_slots radius2 dots (suc a) (suc b) ≡ lt (apart2 dots a b) radius2
  unfolding near_slots
  near_is a b =
      let p : suc a - 1 ≡ a = omega arith in
      let r : suc b - 1 ≡ b = omega arith in
      rw (ne_eqb (suc a) 0 (λ e. omega arith), ne_eqb (suc b) 0 (λ e. omega arith), p, r)

  pub near_some : (i j : ℕ) → T (near_slots radius2 dots i j) → (a : ℕ) × (b : ℕ) × (i ≡ suc a) × (j ≡ suc b) × T (lt (apart2 dots a b) radius2)
  unfolding near_slots
  near_some zero j t = absurd t
  near_some (suc a) zero t = absurd (rw (ne_eqb (suc a) 0 (λ e. omega arith)) at t)
  near_some (suc a) (suc b) t = (a, b, refl, refl, subst T (near_is a b) t)

module _ (dots : List Dot) (radius2 : Float) (ra rb : List ℕ) where
  abbrev near : ℕ → ℕ → Bool
  near i j = near_slots radius2 dots (get_or ra i 0) (get_or rb j 0)

  abbrev closes : ℕ → Bool
  closes k = close_at radius2 dots ra rb k

  -- two detections that are near, in one scan or in consecutive ones, of which k is the earlier
  pub record Meet (k : ℕ) : Type 0 where
    pub i : ℕ
    pub j : ℕ
    pub low : min i j ≡ k
    pub left : i ≤ suc j
    pub right : j ≤ suc i
    pub by : T (near i j)

  close-or : (k : ℕ) → closes k ≡ (near k k || (near k (k + 1) || near (k + 1) k))
  unfolding close_at
  close-or k = cond-or (near k k) _ ∙ ap (λ (b : Bool). near k k || b) (cond-or (near k (k + 1)) (near (k + 1) k))

  pub close_meet : (k : ℕ) → T (closes k) → Meet k
  close_meet k t = go (or_yes (near k k) (near k (k + 1) || near (k + 1) k) (subst T (close-or k) t))
    where
      later : T (near k (k + 1)) ⊎ T (near (k + 1) k) → Meet k
      later (inl h) = record { i = k; j = k + 1; low = omega arith; left = omega arith; right = omega arith; by = h }
      later (inr h) = record { i = k + 1; j = k; low = omega arith; left = omega arith; right = omega arith; by = h }

      go : T (near k k) ⊎ T (near k (k + 1) || near (k + 1) k) → Meet k
      go (inl h) = record { i = k; j = k; low = omega arith; left = omega arith; right = omega arith; by = h }
      go (inr h) = later (or_yes (near k (k + 1)) (near (k + 1) k) h)

  meet-close : (k : ℕ) → Meet k → T (closes k)
  meet-close k m = subst T (sym (close-or k)) (go (dec_lt m.i m.j) (dec_lt m.j m.i))
    where
      here : (a b : ℕ) → m.i ≡ a → m.j ≡ b → T (near a b)
      here a b p r = subst T (λ z. near (p z) (r z)) m.by

      go : Dec (m.i < m.j) → Dec (m.j < m.i) → T (near k k || (near k (k + 1) || near (k + 1) k))
      go (yes a) b =
          or_right (near k k) (near k (k + 1) || near (k + 1) k)
          (or_left (near k (k + 1)) (near (k + 1) k) (here k (k + 1) (omega (arith, m.low, m.right)) (omega (arith, m.low, m.right))))
      go (no a) (yes b) =
          or_right (near k k) (near k (k + 1) || near (k + 1) k)
          (or_right (near k (k + 1)) (near (k + 1) k) (here (k + 1) k (omega (arith, m.low, m.left)) (omega (arith, m.low, m.left))))
      go (no a) (no b) = or_left (near k k) (near k (k + 1) || near (k + 1) k) (here k k (omega (arith, m.low)) (omega (arith, m.low)))

  -- g is a cut: the earlier scan of two near detections, or the next
  record Cut (g : ℕ) : Type 0 where
    k : ℕ
    meet : Meet k
    which : (g ≡ k) ⊎ (g ≡ suc k)

  -- ---- by the scans noted

  module _ (close : List Bool) (noted : (k : ℕ) → get_or close k false ≡ closes k) where
    noted-cut : (g : ℕ) → T (cut_at close g) → Cut g
    noted-cut g t = go (or_yes (get_or close g false) (cond (eqb g 0) false (get_or close (g - 1) false)) (subst T (cond-or (get_or close g false) _) t))
      where
        before : Dec (g ≡ 0) → T (cond (eqb g 0) false (get_or close (g - 1) false)) → Cut g
        before (yes e) h = absurd (rw (eq-eqb g 0 e) at h)
        before (no n) h =
            record { k = g - 1; meet = close_meet (g - 1) (subst T (noted (g - 1)) (rw (ne_eqb g 0 n) at h)); which = inr (omega (arith, n)) }

        go : T (get_or close g false) ⊎ T (cond (eqb g 0) false (get_or close (g - 1) false)) → Cut g
        go (inl h) = record { k = g; meet = close_meet g (subst T (noted g) h); which = inl refl }
        go (inr h) = before (ℕ_discrete g 0) h

    cut-noted : (g : ℕ) → Cut g → T (cut_at close g)
    cut-noted g c = subst T (sym (cond-or (get_or close g false) _)) (go c.which)
      where
        found : (k : ℕ) → c.k ≡ k → T (get_or close k false)
        found k e = subst T (ap closes e ∙ sym (noted k)) (meet-close c.k c.meet)

        go : (g ≡ c.k) ⊎ (g ≡ suc c.k) → T (get_or close g false || cond (eqb g 0) false (get_or close (g - 1) false))
        go (inl e) = or_left (get_or close g false) _ (found g (sym e))
        go (inr e) = or_right (get_or close g false) _ (rw (ne_eqb g 0 (λ z. omega arith)) (found (g - 1) (omega arith)))

-- ---- by the detections of the rows

module _ (v : View) (radius2 : Float) (ra rb : List ℕ) where
  abbrev number : ℕ → ℕ
  number i = v.first + (0 + i)

  abbrev early : ℕ → ℕ → ℕ → Bool
  early g i j = eqb (v.first + g) (min (number i) (number j)) || eqb (v.first + g) (suc (min (number i) (number j)))

  seen-cut : (g : ℕ) → T (any (λ d. any (cut_by radius2 (v.first + g) d) (measurements v 0 rb)) (measurements v 0 ra)) → Cut v.dots radius2 ra rb g
  seen-cut g t =
      let s = some_in (λ d. any (cut_by radius2 (v.first + g) d) (measurements v 0 rb)) v 0 ra t in
      let r = some_in (cut_by radius2 (v.first + g) (measurement_at v (0 + s.0) s.1)) v 0 rb s.3 in
      go s.0 s.1 r.0 r.1 s.2 r.2 r.3
    where
      side : (i j : ℕ) → T (eqb (v.first + g) (min (number i) (number j))) ⊎ T (eqb (v.first + g) (suc (min (number i) (number j)))) → (g ≡ min i j) ⊎ (g ≡ suc (min i j))
      side i j (inl h) = inl (let z : v.first + g ≡ min (number i) (number j) = eqb_yes h in omega arith)
      side i j (inr h) = inr (let z : v.first + g ≡ suc (min (number i) (number j)) = eqb_yes h in omega arith)

      go : (i a j b : ℕ) → get_or ra i 0 ≡ suc a → get_or rb j 0 ≡ suc b → T (cut_by radius2 (v.first + g) (measurement_at v (0 + i) a) (measurement_at v (0 + j) b)) → Cut v.dots radius2 ra rb g
      go i a j b e f t =
          let l = leb (number i) (suc (number j)) in
          let r = leb (number j) (suc (number i)) in
          let n = lt (apart2 v.dots a b) radius2 in
          let c = and_yes (early g i j) (l && r && n) t in
          let d = and_yes (l && r) n c.1 in
          let h : number i ≤ suc (number j) = leb_yes (and_yes l r d.0).0 in
          let k : number j ≤ suc (number i) = leb_yes (and_yes l r d.0).1 in
          record {
            k = min i j;
            meet =
                record {
                  i = i;
                  j = j;
                  low = refl;
                  left = omega arith;
                  right = omega arith;
                  by = subst T (sym ((λ z. near_slots radius2 v.dots (e z) (f z)) ∙ near_is radius2 v.dots a b)) d.1;
                };
            which = side i j (or_yes (eqb (v.first + g) (min (number i) (number j))) (eqb (v.first + g) (suc (min (number i) (number j)))) c.0);
          }

  cut-seen : (g : ℕ) → Cut v.dots radius2 ra rb g → T (any (λ d. any (cut_by radius2 (v.first + g) d) (measurements v 0 rb)) (measurements v 0 ra))
  cut-seen g c =
      let i = c.meet.i in
      let j = c.meet.j in
      let s = near_some radius2 v.dots (get_or ra i 0) (get_or rb j 0) c.meet.by in
      let l = leb (number i) (suc (number j)) in
      let r = leb (number j) (suc (number i)) in
      let n = lt (apart2 v.dots s.0 s.1) radius2 in
      let hl : number i ≤ suc (number j) = omega (arith, c.meet.left) in
      let hr : number j ≤ suc (number i) = omega (arith, c.meet.right) in
      in_some (λ d. any (cut_by radius2 (v.first + g) d) (measurements v 0 rb)) v 0 ra i s.0 s.2
      (in_some (cut_by radius2 (v.first + g) (measurement_at v (0 + i) s.0)) v 0 rb j s.1 s.3
      (yes_and (early g i j) (l && r && n) (side i j c.meet.low c.which) (yes_and (l && r) n (yes_and l r (yes_leb hl) (yes_leb hr)) s.4)))
    where
      side : (i j : ℕ) → min i j ≡ c.k → (g ≡ c.k) ⊎ (g ≡ suc c.k) → T (early g i j)
      side i j p (inl e) =
          let z : v.first + g ≡ min (number i) (number j) = omega arith in
          or_left (eqb (v.first + g) (min (number i) (number j))) (eqb (v.first + g) (suc (min (number i) (number j)))) (yes_eqb z)
      side i j p (inr e) =
          let z : v.first + g ≡ suc (min (number i) (number j)) = omega arith in
          or_right (eqb (v.first + g) (min (number i) (number j))) (eqb (v.first + g) (suc (min (number i) (number j)))) (yes_eqb z)

  pub cut_tests : (close : List Bool) → ((k : ℕ) → get_or close k false ≡ close_at radius2 v.dots ra rb k) → (g : ℕ) →
      any (λ d. any (cut_by radius2 (v.first + g) d) (measurements v 0 rb)) (measurements v 0 ra) ≡ cut_at close g
  cut_tests close noted g = same_answer _ (cut_at close g) (λ t. cut-noted v.dots radius2 ra rb close noted g (seen-cut g t)) (λ t. cut-seen g (noted-cut v.dots radius2 ra rb close noted g t))
