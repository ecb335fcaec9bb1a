-- The state rule's test passes just where the rule holds: of a state whose frames some bodies say. Assumes nothing.
use Prim.Native.Nat.{ℕ, zero, suc, ◌+◌, ◌≤◌, ◌<◌, zero-le}
use native.Mathlib.Nat.{le_trans, eq-zero-or-pos}
use native.Mathlib.Decide.{ℕ_discrete}
use native.Mathlib.Omega.{arith}
use mathlib.Core.Path.{◌≡◌, refl, sym, ap, subst}
use mathlib.Core.Logic.{inl, inr}
use mathlib.Core.Bool.{Bool, true, false, ◌&&◌, ◌||◌, not, false≢true, and-eq-true_iff}
use mathlib.Core.List.{List, [], ◌∷◌, map}
use mathlib.Core.Option.{Option, none, some}
use lib.ListN.{length}
use lib.Dec.{T, ltb, eqb, eqb→eq, eqb-suc-zero}
use lib.Ieee.Bits.{is_true}
use borrow.Author.Tests.{leb-true, ltb-true, eqb-true, le-leb, lt-ltb, eq-eqb, ne_eqb, not-true}
use Rattle.bounds.specs.Bounds.{ACCEPTED, DETECTIONS, OWNED}
use Rattle.engine.specs.declared.config.FgoConfig.{FgoConfig}
use Rattle.engine.specs.declared.types.Association.{Association}
use Rattle.engine.specs.Config.{legal, lag}
use Rattle.engine.proofs.Every.{both}
use Rattle.fgo_spec.specs.Lists.{keep, has, times, find}
use Rattle.fgo_spec.specs.Windows.{Scan, Prefix, live, window_count}
use Rattle.fgo_spec.specs.Owning.{latest}
use Rattle.fgo_spec.specs.Refiner.{State}
use Rattle.fgo_spec.specs.Rule.{All, Spoken, PrefixRule, Rise, LooseOne, Loose, ColumnRule, Rule, all_of, prefix_ok, rises_ok, apart_ok, loose_ok, clutter_ok, column_ok, owner_is, owned_by, owned_ok, distinct_ok, rule_ok}
use Rattle.fgo_spec.proofs.All.{All_weaken, All_both}
use Rattle.fgo_spec.proofs.Counting.{count-any, any-count, any-All, has-All, has-not, not-has, times_here, times_past, times_tail}
use Rattle.fgo_spec.proofs.Ties.{Engine, Tied, TiedScan, loose_tied}
use Rattle.fgo_spec.proofs.Latest.{latest_known, tied_latest}
use Rattle.std.specs.Prelude.{None, Some}
use Rattle.engine.specs.Frame.{Associated}

-- ---- tests

-- a test passes, and so do the others
also : {a b : Bool} → a ≡ true → b ≡ true → a && b ≡ true
also {a} {b} h k = (and-eq-true_iff a b).1 (h, k)

-- a test of all of a list, and the fact of all of it
module _ {A : Type 0} (P : A → Type 0) (p : A → Bool) where
  all-of : ((a : A) → p a ≡ true → P a) → (l : List A) → all_of p l ≡ true → All P l
  all-of g [] h = tt
  all-of g (a ∷ l) h = let k = both (p a) (all_of p l) h in (g a k.0, all-of g l k.1)

  of-all : ((a : A) → P a → p a ≡ true) → (l : List A) → All P l → all_of p l ≡ true
  of-all g [] h = refl
  of-all g (a ∷ l) h = also (g a h.0) (of-all g l h.1)

-- ---- frozen parts

module _ (first : ℕ) where
  prefix-of : (p : Prefix) → prefix_ok first p ≡ true → PrefixRule first p
  prefix-of p h =
      let h1 = both _ _ h in
      let h2 = both _ _ h1.1 in
      let h3 = both _ _ h2.1 in
      let h4 = both _ _ h3.1 in
      let h5 = both _ _ h4.1 in
      record {
        some_count = leb-true _ _ h1.0;
        most_count = leb-true _ _ h2.0;
        some_height = leb-true _ _ h3.0;
        most_height = leb-true _ _ h4.0;
        earlier = ltb-true _ _ h5.0;
        bounded = h5.1;
      }

  prefix-ok : (p : Prefix) → PrefixRule first p → prefix_ok first p ≡ true
  prefix-ok p r =
      also (le-leb _ _ r.some_count)
      (also (le-leb _ _ r.most_count)
      (also (le-leb _ _ r.some_height) (also (le-leb _ _ r.most_height) (also (lt-ltb _ _ r.earlier) r.bounded))))

  module _ (next : ℕ) where
    rise-of : (x : ℕ) (ps : List (ℕ × Prefix)) → rises_ok first next x ps ≡ true → Rise first next x ps
    unfolding rises_ok
    rise-of x [] h = tt
    rise-of x (e ∷ ps) h =
        let h1 = both _ _ h in
        let h2 = both _ _ h1.1 in
        let h3 = both (prefix_ok first e.1) _ h2.1 in
        (ltb-true _ _ h1.0, ltb-true _ _ h2.0, prefix-of e.1 h3.0, rise-of e.0 ps h3.1)

    rise-ok : (x : ℕ) (ps : List (ℕ × Prefix)) → Rise first next x ps → rises_ok first next x ps ≡ true
    unfolding rises_ok
    rise-ok x [] r = refl
    rise-ok x (e ∷ ps) r = also (lt-ltb _ _ r.0) (also (lt-ltb _ _ r.1) (also (prefix-ok e.1 r.2) (rise-ok e.0 ps r.3)))

-- ---- columns

-- no number for which P holds stands twice, of a list with one number more in front
module _ (P : ℕ → Type 0) (i : ℕ) (is : List ℕ) where
  once-cons : (P i → has i is ≡ false) → ((x : ℕ) → P x → times x is ≤ 1) → (x : ℕ) → P x → times x (i ∷ is) ≤ 1
  once-cons h k x p = go (ℕ_discrete x i)
    where
      go : Dec (x ≡ i) → times x (i ∷ is) ≤ 1
      go (yes e) = omega (arith, times_here x i is e, has-not x is (subst (λ y. has y is ≡ false) (sym e) (h (subst P e p))))
      go (no n) = rw (times_past x i is n) (k x p)

  once-head : ((x : ℕ) → P x → times x (i ∷ is) ≤ 1) → P i → has i is ≡ false
  once-head h p = not-has i is (omega (arith, times_here i i is refl, h i p))

  once-tail : ((x : ℕ) → P x → times x (i ∷ is) ≤ 1) → (x : ℕ) → P x → times x is ≤ 1
  once-tail h x p = le_trans (times_tail x i is) (h x p)

distinct_of : (es : List ℕ) → distinct_ok es ≡ true → (x : ℕ) → Unit {0} → times x es ≤ 1
unfolding distinct_ok
distinct_of [] h = λ x p. unfold keep in zero-le
distinct_of (e ∷ es) h =
    let k = both (not (has e es)) _ h in
    once-cons (λ x. Unit {0}) e es (λ p. not-true (has e es) k.0) (distinct_of es k.1)

distinct_ok_lem : (es : List ℕ) → ((x : ℕ) → Unit {0} → times x es ≤ 1) → distinct_ok es ≡ true
unfolding distinct_ok
distinct_ok_lem [] h = refl
distinct_ok_lem (e ∷ es) h = also (ap not (once-head (λ x. Unit {0}) e es h tt)) (distinct_ok_lem es (once-tail (λ x. Unit {0}) e es h))

apart_of : (is : List ℕ) → apart_ok is ≡ true → (x : ℕ) → 0 < x → times x is ≤ 1
unfolding apart_ok
apart_of [] h = λ x p. unfold keep in zero-le
apart_of (i ∷ is) h =
    let k = both (eqb i 0 || not (has i is)) _ h in
    once-cons (λ x. 0 < x) i is (λ p. not-true (has i is) (rw (ne_eqb i 0 (λ z. omega arith)) at k.0)) (apart_of is k.1)

apart_ok_lem : (is : List ℕ) → ((x : ℕ) → 0 < x → times x is ≤ 1) → apart_ok is ≡ true
unfolding apart_ok
apart_ok_lem [] h = refl
apart_ok_lem (i ∷ is) h = also (go i (once-head (λ x. 0 < x) i is h)) (apart_ok_lem is (once-tail (λ x. 0 < x) i is h))
  where
    go : (i : ℕ) → (0 < i → has i is ≡ false) → (eqb i 0 || not (has i is)) ≡ true
    go zero k = refl
    go (suc i) k = rw (eqb-suc-zero i, k (omega arith))

module _ (next : ℕ) where
  known_of : (is : List ℕ) → all_of (λ i. ltb i next) is ≡ true → (x : ℕ) → 0 < times x is → x < next
  known_of is h x k =
      any-All (eqb x) (λ i. i < next) (λ i b e. subst (λ y. y < next) (sym (eqb→eq x i e)) b) is
      (all-of (λ i. i < next) (λ i. ltb i next) (λ i. ltb-true i next) is h) (count-any (eqb x) is k)

  known-ok : 0 < next → (is : List ℕ) → ((x : ℕ) → 0 < x → 0 < times x is → x < next) → all_of (λ i. ltb i next) is ≡ true
  known-ok n is h = of-all (λ i. i < next) (λ i. ltb i next) (λ i. lt-ltb i next) is (has-All (λ i. i < next) is (λ x t. below x (any-count (eqb x) is t)))
    where
      below : (x : ℕ) → 0 < times x is → x < next
      below x k = elim (eq-zero-or-pos x) [ inl z ↦ omega arith | inr p ↦ h x p k ]

loose_of : (t : Associated) (i : ℕ) → loose_ok t i ≡ true → LooseOne t i
loose_of None i h = eqb-true i 0 h
loose_of (Some e) i h = tt

loose_ok_lem : (t : Associated) (i : ℕ) → LooseOne t i → loose_ok t i ≡ true
loose_ok_lem None i h = eq-eqb i 0 h
loose_ok_lem (Some e) i h = refl

clutter_of : (l : List Association) (is : List ℕ) → clutter_ok l is ≡ true → Loose l is
unfolding clutter_ok
clutter_of [] is h = tt
clutter_of (a ∷ l) [] h = tt
clutter_of (a ∷ l) (i ∷ is) h = let k = both (loose_ok a.track i) _ h in (loose_of a.track i k.0, clutter_of l is k.1)

clutter_ok_lem : (l : List Association) (is : List ℕ) → Loose l is → clutter_ok l is ≡ true
unfolding clutter_ok
clutter_ok_lem [] is h = refl
clutter_ok_lem (a ∷ l) [] h = refl
clutter_ok_lem (a ∷ l) (i ∷ is) h = also (loose_ok_lem a.track i h.0) (clutter_ok_lem l is h.1)

module _ (next : ℕ) (s : Scan) where
  column-of : column_ok next s ≡ true → Spoken s.frame → ColumnRule next s
  unfolding column_ok
  column-of h k =
      let h1 = both _ _ h in
      let h2 = both _ _ h1.1 in
      let h3 = both (all_of (λ i. ltb i next) s.ids) _ h2.1 in
      record {
        complete = eqb-true _ _ h1.0;
        apart = apart_of s.ids h2.0;
        known = λ x u. known_of next s.ids h3.0 x;
        loose = clutter_of s.frame.associations s.ids h3.1;
        spoken = k;
      }

  column-ok : 0 < next → ColumnRule next s → column_ok next s ≡ true
  unfolding column_ok
  column-ok n r =
      also (eq-eqb _ _ r.complete)
      (also (apart_ok_lem s.ids r.apart) (also (known-ok next n s.ids r.known) (clutter_ok_lem s.frame.associations s.ids r.loose)))

-- ---- owners

module _ (os : List (ℕ × ℕ)) (ss : List Scan) where
  abbrev HolderOwns : ℕ → Type 0
  HolderOwns e = find e os ≡ some (latest e 0 ss)

  owner-is : (o : Option ℕ) (x : ℕ) → owner_is o x ≡ true → o ≡ some x
  owner-is none x h = absurd (false≢true h)
  owner-is (some y) x h = ap some (eqb-true y x h)

  -- the engine ids in windows are owned by the holders of their latest
  tied_of : (l : List Association) (is : List ℕ) → Loose l is → owned_ok os ss l is ≡ true → Tied HolderOwns l is
  unfolding owned_ok Tied
  tied_of [] is h k = tt
  tied_of (a ∷ l) [] h k = tt
  tied_of (a ∷ l) (i ∷ is) h k = let b = both (owned_by os ss a.track i) _ k in (one a.track i h.0 b.0, tied_of l is h.1 b.1)
    where
      one : (o : Associated) (i : ℕ) → LooseOne o i → owned_by os ss o i ≡ true → 0 < i → Engine HolderOwns o
      one None i z h p = omega arith
      one (Some e) zero z h p = absurd (omega arith)
      one (Some e) (suc i) z h p = owner-is (find e.0 os) (latest e.0 0 ss) h

  tied-ok : (l : List Association) (is : List ℕ) → Tied HolderOwns l is → owned_ok os ss l is ≡ true
  unfolding owned_ok Tied
  tied-ok [] is h = refl
  tied-ok (a ∷ l) [] h = refl
  tied-ok (a ∷ l) (i ∷ is) h = also (one a.track i h.0) (tied-ok l is h.1)
    where
      one : (o : Associated) (i : ℕ) → (0 < i → Engine HolderOwns o) → owned_by os ss o i ≡ true
      one None i f = refl
      one (Some e) zero f = refl
      one (Some e) (suc i) f = rw (f (omega arith)) (eq-eqb (latest e.0 0 ss) (latest e.0 0 ss) refl)

-- ---- the law

module _ (c : FgoConfig) (t : State) where
  -- the tests of a list's elements
  abbrev owns : Scan → Bool
  owns s = owned_ok t.owners t.scans s.frame.associations s.ids

  abbrev lives : ℕ × ℕ → Bool
  lives o = live t.prefixes t.scans o.1

  abbrev Tie : Scan → Type 0
  Tie = TiedScan (HolderOwns t.owners t.scans)

  -- what each of the tests says that the state passes, as far as it needs no frame that a body says
  pub record Passed : Type 0 where
    pub settings : legal c ≡ true
    pub lagged : length t.scans ≤ lag c
    pub room : t.first + length t.scans ≤ ACCEPTED
    pub begun : 0 < t.next_id
    pub prefixes : rises_ok t.first t.next_id 0 t.prefixes ≡ true
    pub columns : all_of (column_ok t.next_id) t.scans ≡ true
    pub owned : all_of owns t.scans ≡ true
    pub sum : length t.prefixes + window_count t.scans ≤ DETECTIONS
    pub distinct : distinct_ok (map (λ o. o.0) t.owners) ≡ true
    pub alive : all_of lives t.owners ≡ true
    pub few : length t.owners ≤ OWNED

  pub rule_passed : rule_ok c t ≡ true → Passed
  unfolding rule_ok
  rule_passed h =
      let h1 = both _ _ h in
      let h2 = both _ _ h1.1 in
      let h3 = both _ _ h2.1 in
      let h4 = both _ _ h3.1 in
      let h5 = both _ _ h4.1 in
      let h6 = both _ _ h5.1 in
      let h7 = both _ _ h6.1 in
      let h8 = both _ _ h7.1 in
      let h9 = both _ _ h8.1 in
      let h10 = both _ _ h9.1 in
      record {
        settings = h1.0;
        lagged = leb-true _ _ h2.0;
        room = leb-true _ _ h3.0;
        begun = ltb-true _ _ h4.0;
        prefixes = h5.0;
        columns = h6.0;
        owned = h7.0;
        sum = leb-true _ _ h8.0;
        distinct = h9.0;
        alive = h10.0;
        few = leb-true _ _ h10.1;
      }

  -- a state that passes, with frames that bodies say, meets the rule
  pub rule_of : rule_ok c t ≡ true → All (λ s. Spoken s.frame) t.scans → Rule c t
  rule_of h k =
      let p = rule_passed h in
      let columns : All (ColumnRule t.next_id) t.scans =
      All_both (λ s. column_ok t.next_id s ≡ true) (λ s. Spoken s.frame) (ColumnRule t.next_id) t.scans (λ s. column-of t.next_id s)
      (all-of (λ s. column_ok t.next_id s ≡ true) (column_ok t.next_id) (λ s u. u) t.scans p.columns) k in
      record {
        settings = p.settings;
        lagged = p.lagged;
        room = p.room;
        begun = p.begun;
        prefixes = rise-of t.first t.next_id 0 t.prefixes p.prefixes;
        columns = columns;
        owned =
            λ e.
            latest_known (HolderOwns t.owners t.scans) e t.scans
            (All_both (ColumnRule t.next_id) (λ s. owns s ≡ true) Tie t.scans
            (λ s r u. tied_of t.owners t.scans s.frame.associations s.ids r.loose u) columns
            (all-of (λ s. owns s ≡ true) owns (λ s u. u) t.scans p.owned));
        sum = p.sum;
        distinct = λ e. distinct_of (map (λ o. o.0) t.owners) p.distinct e tt;
        alive = all-of (λ o. T (lives o)) lives (λ o e. subst T (sym e) tt) t.owners p.alive;
        few = p.few;
      }

  -- and no other does
  pub rule_ok_lem : Rule c t → (rule_ok c t ≡ true) × All (λ s. Spoken s.frame) t.scans
  unfolding rule_ok
  rule_ok_lem r = (
    also r.settings
        (also (le-leb _ _ r.lagged)
        (also (le-leb _ _ r.room)
        (also (lt-ltb _ _ r.begun)
        (also (rise-ok t.first t.next_id 0 t.prefixes r.prefixes)
        (also (of-all (ColumnRule t.next_id) (column_ok t.next_id) (λ s. column-ok t.next_id s r.begun) t.scans r.columns)
        (also (of-all Tie owns (λ s. tied-ok t.owners t.scans s.frame.associations s.ids) t.scans tied)
        (also (le-leb _ _ r.sum)
        (also (distinct_ok_lem (map (λ o. o.0) t.owners) (λ x u. r.distinct x))
        (also (of-all (λ o. T (lives o)) lives (λ o. is_true (lives o)) t.owners r.alive) (le-leb _ _ r.few)))))))))),
    All_weaken (ColumnRule t.next_id) (λ s. Spoken s.frame) t.scans (λ s k. k.spoken) r.columns,
  )
    where
      tied : All Tie t.scans
      tied =
          tied_latest (λ e. Unit {0}) (HolderOwns t.owners t.scans) t.scans r.owned
          (All_weaken (ColumnRule t.next_id) (TiedScan (λ e. Unit {0})) t.scans (λ s k. loose_tied s.frame.associations s.ids k.loose) r.columns)
