use Rattle.std.proofs.Common.{◌≡◌, ℕ, ◌+◌, ◌-◌, ◌<◌, ◌≤◌, List, [], ◌∷◌, length, ap, refl, ◌∙◌, arith, rules, tests}
use Rattle.std.proofs.lemmas.Iterator.{YieldsList-from_slice, IsFirst-from_position, index_from_first}
use Rattle.std.specs.Prelude.{Option, Some, None}
use Rattle.std.specs.Option.{unwrap_or}
use native.Mathlib.Numerals.{add-one}
use borrow.Author.Tests.{lt-ltb, le-ltb}
use Rattle.fgo_spec.specs.Lists.{place_in}
use lib.ListN.{drop, length-drop}
use lib.Seq.{take_all}
use Rattle.search_rows.proofs.rows.place_from.Goals as goal

module _ (x : ℕ) where
  nothing : place_in x [] ≡ 0
  unfolding place_in
  nothing = refl

  here : (y : ℕ) (l : List ℕ) → x ≤ y → place_in x (y ∷ l) ≡ 0
  unfolding place_in
  here y l h = rw (le-ltb y x h)

  past : (y : ℕ) (l : List ℕ) → y < x → place_in x (y ∷ l) ≡ place_in x l + 1
  unfolding place_in
  past y l h = rw (lt-ltb y x h, add-one)

-- counted on from a place
counted_on : (o : Option ℕ) (r from n p : ℕ) → (o ≡ None → r ≡ n) → ((k : ℕ) → o ≡ Some k → r ≡ from + k) → from ≤ n → p ≡ unwrap_or o (n - from) → r ≡ from + p
counted_on None r from n p at_none at_some h e = omega (arith, at_none refl, e)
counted_on (Some k) r from n p at_none at_some h e = omega (arith, at_some k refl, e)

pub returns : goal.returns
returns c =
    let s = c.args in
    let x = s.x.0 in
    let l = drop s.from s.table.now in
    let long : length l ≡ length s.table.now - s.from = length-drop s.from s.table.now in
    let first = IsFirst-from_position _ _ _ (λ y. x ≤ y) (λ y. y < x) c.position.ensures.ran (YieldsList-from_slice l (c.iter.ensures.rest ∙ take_all _ l (omega (arith, long)))) (λ y q k. search (rules, tests)) (λ y q k. search (rules, tests)) in
    let is = index_from_first (place_in x) (λ y. x ≤ y) (λ y. y < x) (nothing x) (here x) (past x) l c.position.result first in
    counted_on c.position.result c.map_or.result s.from (length s.table.now) _ (λ e. search (rules, e)) (λ k e. search (rules, e)) (omega arith) (is ∙ ap (unwrap_or c.position.result) long)
