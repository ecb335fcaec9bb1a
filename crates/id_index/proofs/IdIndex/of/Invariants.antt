use Rattle.std.proofs.Common.{◌≡◌, length}
use Rattle.bounds.specs.Bounds.{OWNED, RESIDUES}
use Rattle.id_index.specs.Index.{Chained}
use Rattle.id_index.proofs.IdIndex.of.Given as goal

abbrev pub invariant-loop-k : goal.invariant-loop-k
invariant-loop-k l = record {
  chained : Chained l.ids l.k l.last l.before;
  last_long : length l.last ≡ RESIDUES;
  before_long : length l.before ≡ OWNED;
}
