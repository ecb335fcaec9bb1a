use Prim.Native.Nat.{ℕ, zero, suc, ◌+◌, ◌-◌, max}
use native.Mathlib.Numerals.{add-one}
use native.Mathlib.Nat.{max-zero}
use native.Mathlib.Omega.{arith}
use mathlib.Core.Path.{◌≡◌, refl, sym, ap, ◌∙◌}
use mathlib.Core.Bool.{Bool, true, false, cond}
use mathlib.Core.List.{List, ◌∷◌, foldr}
use lib.Dec.{eqb}
use lib.ListN.{get_or}
use Rattle.std.proofs.Common.{rules, tests}
use Rattle.std.specs.List.{range_with_len, filter, fold}
use Rattle.std.specs.Option.{unwrap_or}
use Rattle.std.specs.Ordering.{max_by_ordering, nat_cmp}
use Rattle.std.proofs.lemmas.List.Folds.{max_of_map}
use Rattle.std.proofs.lemmas.Iterator.{YieldsList-from_range, YieldsList-from_map}
use Rattle.std.proofs.lemmas.Iterator.Consumers.{YieldsList-from_filter, reduce_from_yields_List}
use Rattle.engine.specs.Body.{rows}
use Rattle.fgo_state.specs.Gathering.{holder_of}
use Rattle.fgo_state.specs.Owners.{id_from}
use Rattle.fgo_state.proofs.Tracks.{kept, numbered}
use Rattle.fgo_state.proofs.gather.Gathered.holder_in.Goals as goal

module _ (p : ℕ → Bool) (g : ℕ → ℕ) where
  -- the entry where it passes
  abbrev passing : ℕ → ℕ
  passing i = cond (p i) (g i) 0

  -- the greatest, from m on
  abbrev most : ℕ → List ℕ → ℕ
  most m l = fold (λ a x. max a (g x)) m l

  one : (b : Bool) (o m r : ℕ) (l : List ℕ) → ((k : ℕ) → most k l ≡ max k r) → most m (cond b (o ∷ l) l) ≡ max m (max (cond b (g o) 0) r)
  one true o m r l h = h (max m (g o)) ∙ omega arith
  one false o m r l h = h m ∙ omega arith

  greatest : (o n m : ℕ) → most m (filter p (range_with_len o n)) ≡ max m (foldr max 0 (rows passing o n))
  unfolding rows
  greatest o zero m = sym (max-zero m)
  greatest o (suc n) m =
      let e : o + 1 ≡ suc o = add-one o in
      rw e (one (p o) o m (foldr max 0 (rows passing (suc o) n)) (filter p (range_with_len (suc o) n)) (greatest (suc o) n))

pub returns : goal.returns
unfolding holder_of
returns c =
    let a = c.args in
    let s = a.self.now in
    let p : ℕ → Bool = λ i. eqb a.e.0 (get_or a.engines.now i 0) in
    let g : ℕ → ℕ = λ i. get_or s.ids i 0 in
    let l = range_with_len a.a (a.b - a.a) in
    let found = reduce_from_yields_List (λ x z. max_by_ordering (nat_cmp x z) x z) _ c.max.result c.max.ensures.ran
    (YieldsList-from_map _ g (YieldsList-from_filter _ p (YieldsList-from_range a.a a.b (a.b - a.a) (ap (λ s. s.iter) c.map.ensures.source ∙ c.filter.ensures.source) refl) (ap (λ s. s.p) c.map.ensures.source ∙ c.filter.ensures.closure) (λ j b q t. search (rules, tests))) c.map.ensures.closure (λ i t q k. search (rules, tests))) in
    let most : unwrap_or c.max.result 0 ≡ holder_of a.e.0 s.ids a.engines.now a.a a.b =
    ap (λ o. unwrap_or o 0) found
    ∙ max_of_map g (filter p l)
    ∙ greatest p g a.a (a.b - a.a) 0
    ∙ omega arith in
    kept _ _ c.filter-2.ensures (λ x b q. search (rules, tests)) ∙ ap id_from (numbered c.max.result c.map-2.result c.map-2.ensures.cases (λ x y q. search (rules, tests)) ∙ most)
