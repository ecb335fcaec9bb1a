use Rattle.std.proofs.Common.{ℕ, List}
use Rattle.search_merge.specs.Merge.{both_have, only_has}
use Rattle.search_merge.proofs.Merged.{Counting}
use Rattle.search_merge.proofs.overlap_of.Given as goal

-- r and t are left of the rows
pub record Overlaps (a b r t : List ℕ) (shared mine theirs : ℕ) : Type 0 where
  pub both : Counting both_have a b r t shared
  pub first : Counting only_has a b r t mine
  pub second : Counting only_has b a t r theirs

abbrev pub invariant-loop-x : goal.invariant-loop-x
invariant-loop-x l = Overlaps l.a l.b l.x-iterator.a.rest.now l.x-iterator.b.rest.now l.shared l.mine l.theirs
