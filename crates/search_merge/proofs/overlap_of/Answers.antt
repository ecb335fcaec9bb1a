use Rattle.std.proofs.Common.{inl, inr, arith, ◌∙◌}
use Rattle.search_merge.proofs.Merged.{both_le, only_le, count-start, counts, counted}
use Rattle.search_merge.proofs.overlap_of.Goals as goal

pub loop-x-init : goal.loop-x-init
loop-x-init c =
    let z = c.into_iter-x-iterator.ensures.into_iter_gives in
    let p = (λ i. (z i).a.rest.now) ∙ (λ i. (c.zip-x-items.ensures.first i).rest.now) ∙ c.iter.ensures.rest in
    let q = (λ i. (z i).b.rest.now) ∙ c.zip-x-items.ensures.second.0 in
    record { both = count-start c.told-a p q; first = count-start c.told-a p q; second = count-start c.told-b q p }

pub overflow_add-shared : goal.overflow_add-shared
overflow_add-shared c =
    let x = c.in-Some.x.now in
    let y = c.in-Some.y.now in
    omega (arith, c.loop-x.invariant.both.few, c.both_have-shared.ensures, both_le x y)

pub overflow_add-mine : goal.overflow_add-mine
overflow_add-mine c =
    let x = c.in-Some.x.now in
    let y = c.in-Some.y.now in
    omega (arith, c.loop-x.invariant.first.few, c.only_has-mine.ensures, only_le x y)

pub overflow_add-theirs : goal.overflow_add-theirs
overflow_add-theirs c =
    let x = c.in-Some.x.now in
    let y = c.in-Some.y.now in
    omega (arith, c.loop-x.invariant.second.few, c.only_has-theirs.ensures, only_le y x)

pub loop-x-preserved : goal.loop-x-preserved
loop-x-preserved c =
    let o = c.loop-x.invariant in
    let x = c.in-Some.x.now in
    let y = c.in-Some.y.now in
    let e = c.in-Some.ensures.steps in
    record {
      both = counts o.both e.0 e.1 _ c.both_have-shared.ensures (both_le x y);
      first = counts o.first e.0 e.1 _ c.only_has-mine.ensures (only_le x y);
      second = counts o.second e.1 e.0 _ c.only_has-theirs.ensures (only_le y x);
    }

pub returns : goal.returns
returns c =
    let o = c.loop-x.invariant in
    elim c.in-None.ensures.steps [
      | inl u ↦ λ i. record { shared = counted o.both (inl u.1.0) i; mine = counted o.first (inl u.1.0) i; theirs = counted o.second (inr u.1.0) i }
      | inr u ↦ λ i. record { shared = counted o.both (inr u.1.0) i; mine = counted o.first (inr u.1.0) i; theirs = counted o.second (inl u.1.0) i }
    ]
