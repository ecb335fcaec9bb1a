use Prim.Native.Nat.{ℕ}
use mathlib.Core.Path.{◌≡◌, refl, sym, ap, ◌∙◌}
use mathlib.Core.Bool.{Bool}
use mathlib.Core.List.{List}
use lib.ListN.{take}
use lib.Seq.{take_at}
use Rattle.buffers.specs.Buffers.{over}
use Rattle.engine.proofs.Passing.{length-rows}
use Rattle.fgo_state.specs.Memory.{engine_at}
use Rattle.fgo_state.specs.Owners.{engines_in}
use Rattle.fgo_rule.specs.Tests.{distinct_in}
use Rattle.fgo_rule.proofs.owners_ok.Goals as goal

-- the engine ids that are indexed are the entries'
indexed : (owners l : List ℕ) (n : ℕ) {all ids : List ℕ} → all ≡ over 0 (engines_in owners n) l → ids ≡ take n all → ids ≡ engines_in owners n
unfolding over
indexed owners l n keys of = of ∙ ap (take n) keys ∙ take_at (engines_in owners n) _ n (length-rows (engine_at owners) 0 n)

distinct : (owners l : List ℕ) (n : ℕ) {all ids : List ℕ} {b : Bool} → all ≡ over 0 (engines_in owners n) l → ids ≡ take n all → b ≡ distinct_in ids → distinct_in (engines_in owners n) ≡ b
distinct owners l n keys of d = sym (d ∙ ap distinct_in (indexed owners l n keys of))

pub returns-then-not-are_distinct : goal.returns-then-not-are_distinct
returns-then-not-are_distinct c =
    let d = distinct _ _ _ c.keys.ensures c.of.ensures c.are_distinct.ensures in rw (d, c.if-not-are_distinct.true) refl

pub invariant_of-owned_all : goal.invariant_of-owned_all
invariant_of-owned_all c =
    record { indexed = indexed _ _ _ c.keys.ensures c.of.ensures; distinct = sym c.are_distinct.ensures ∙ c.if-not-are_distinct.false }

pub returns-then-owned_all : goal.returns-then-owned_all
returns-then-owned_all c =
    let d = distinct _ _ _ c.keys.ensures c.of.ensures c.are_distinct.ensures in
    rw (d, c.if-not-are_distinct.false, ← c.owned_all.ensures, c.if-owned_all.true) c.lives_ok.ensures

pub returns-else-owned_all : goal.returns-else-owned_all
returns-else-owned_all c =
    let d = distinct _ _ _ c.keys.ensures c.of.ensures c.are_distinct.ensures in
    rw (d, c.if-not-are_distinct.false, ← c.owned_all.ensures, c.if-owned_all.false) refl
