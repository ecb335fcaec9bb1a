-- A table of the indices seen, of any length, says of each number below that length whether an association before j has
-- it. Assumes nothing.
use Prim.Native.Nat.{ℕ, ◌+◌, ◌<◌, ◌≤◌}
use mathlib.Core.Path.{◌≡◌, refl, sym, ◌∙◌}
use mathlib.Core.List.{List}
use mathlib.Core.Bool.{Bool, true, false, ◌&&◌, not, and-true, and-false, true≢false}
use native.Mathlib.Omega.{arith}
use native.Mathlib.Numerals.{add-one}
use borrow.Author.Tests.{eqb-true, eqb-false, lt-ltb, le-ltb}
use lib.Dec.{eqb}
use lib.ListN.{length, get_or, set, replicate, get_or-replicate, length-replicate, length-set}
use lib.Seq.{get_or-set_same, get_or-set_other}
use Rattle.engine.specs.Body.{all, index_at, index_ok}

fresh_of : (b : Bool) → not b ≡ false → b ≡ true
fresh_of true e = refl
fresh_of false e = absurd (true≢false e)

seen_of : (b : Bool) → not b ≡ true → b ≡ false
seen_of true e = absurd (true≢false (sym e))
seen_of false e = refl

module _ (w : ℕ) (s : List ℕ) (a most : ℕ) where
  -- no association before j has the index v
  abbrev fresh : ℕ → ℕ → Bool
  fresh j v = all (λ i. not (eqb (index_at w s a i) v)) j

  pub record Marks (j : ℕ) (seen : List Bool) : Type 0 where
    pub long : length seen ≡ most
    pub says : (v : ℕ) → v < most → get_or seen v false ≡ not (fresh j v)

  pub marks_none : Marks 0 (replicate most false)
  unfolding all
  marks_none = record { long = length-replicate most false; says = λ v h. get_or-replicate most v false false h }

  -- x is the index of association j
  module _ (j : ℕ) {seen : List Bool} (m : Marks j seen) {x : ℕ} (is : index_at w s a j ≡ x) where
    said : (v : ℕ) (t : Bool) → eqb x v ≡ t → x < most → v < most → get_or (set seen x true) v false ≡ not (fresh j v && not (eqb x v))
    said v true e f h =
        let d = eqb-true x v e in
        let r : fresh j v && not (eqb x v) ≡ false = rw e (and-false (fresh j v)) in
        rw r (rw (← d) (get_or-set_same seen x true false (rw m.long f)))
    said v false e f h =
        let d = eqb-false x v e in
        let r : fresh j v && not (eqb x v) ≡ fresh j v = rw e (and-true (fresh j v)) in
        rw r (get_or-set_other seen x v true false (λ q. d (sym q)) ∙ m.says v h)

    pub marks-more : x < most → Marks (j + 1) (set seen x true)
    unfolding all
    marks-more f = record { long = simp length-set m.long; says = λ v h. rw (add-one, is) (said v (eqb x v) refl f h) }

    module _ (n : ℕ) where
      -- an index that is past the n observations, one that is new, and one that an earlier association has
      pub index_past : n ≤ x → index_ok w s a n j ≡ false
      unfolding index_ok
      index_past h = let t = le-ltb x n h in rw (is, t)

      module _ (h : x < n) (f : n ≤ most) where
        pub index_new : get_or seen x false ≡ false → index_ok w s a n j ≡ true
        unfolding index_ok
        index_new e =
            let t = lt-ltb x n h in
            let r = fresh_of (fresh j x) (sym (m.says x (omega arith)) ∙ e) in
            rw (is, t, r)

        pub index_old : get_or seen x false ≡ true → index_ok w s a n j ≡ false
        unfolding index_ok
        index_old e =
            let t = lt-ltb x n h in
            let r = seen_of (fresh j x) (sym (m.says x (omega arith)) ∙ e) in
            rw (is, t, r)
