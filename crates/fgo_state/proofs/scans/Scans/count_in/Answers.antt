use Prim.Native.Nat.{ℕ, zero, suc, ◌+◌, ◌≤◌}
use native.Mathlib.Numerals.{add-one}
use native.Mathlib.Omega.{arith}
use mathlib.Core.Path.{◌≡◌, refl, ap, ◌∙◌}
use mathlib.Core.Bool.{Bool, true, false, cond}
use mathlib.Core.List.{List, ◌∷◌}
use lib.Dec.{ltb}
use lib.ListN.{length}
use Rattle.std.proofs.Common.{rules, tests}
use Rattle.std.specs.List.{range_with_len, filter}
use Rattle.std.proofs.lemmas.Iterator.{YieldsList-from_range}
use Rattle.std.proofs.lemmas.Iterator.Consumers.{YieldsList-from_filter, count_from_yields_List}
use Rattle.engine.specs.Body.{rows}
use Rattle.fgo_spec.specs.Lists.{keep, cons_if}
use Rattle.fgo_state.specs.Memory.{id_at}
use Rattle.fgo_state.specs.Gathering.{count_in}
use Rattle.fgo_state.proofs.scans.Scans.count_in.Goals as goal

module _ (p : ℕ → Bool) (g : ℕ → ℕ) where
  -- one number more of a range, and one row more
  one : (k : ℕ) (ks l : List ℕ) (b : Bool) → length ks ≡ length l → length (cond b (k ∷ ks) ks) ≡ length (cons_if b (g k) l)
  one k ks l true h = ap suc h
  one k ks l false h = h

  -- those of a range that pass are as many as their rows
  passing : (o n : ℕ) → length (filter (λ k. p (g k)) (range_with_len o n)) ≡ length (keep p (rows g o n))
  unfolding rows keep
  passing o zero = refl
  passing o (suc n) =
      let e : o + 1 ≡ suc o = add-one o in
      rw e (one o (filter (λ k. p (g k)) (range_with_len (suc o) n)) (keep p (rows g (suc o) n)) (p (g o)) (passing (suc o) n))

  few : (o n : ℕ) → length (keep p (rows g o n)) ≤ n
  unfolding rows keep
  few o zero = omega arith
  few o (suc n) = shorter (p (g o)) (few (suc o) n)
    where
      shorter : (b : Bool) → length (keep p (rows g (suc o) n)) ≤ n → length (cons_if b (g o) (keep p (rows g (suc o) n))) ≤ suc n
      shorter true h = omega arith
      shorter false h = omega arith

pub returns : goal.returns
returns c =
    let a = c.args in
    let ids = id_at a.self.now.columns a.n.0 in
    let e : c.count.result ≡ count_in a.self.now.columns a.n.0 a.m =
    count_from_yields_List c.filter.result _ c.count.ensures.ran
    (YieldsList-from_filter _ (λ j. ltb 0 (ids j)) (YieldsList-from_range 0 a.m a.m c.filter.ensures.source (omega arith)) c.filter.ensures.closure (λ j b q t. search (rules, tests)))
    ∙ passing (ltb 0) ids 0 a.m in
    (e, rw e (few (ltb 0) ids 0 a.m))
