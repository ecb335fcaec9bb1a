use Rattle.std.proofs.Common.{ℕ, arith, length-set, ◌∙◌}
use Rattle.std.proofs.lemmas.List.{length-replicate}
use Rattle.bounds.specs.Bounds.{OWNED, RESIDUES}
use Rattle.id_index.proofs.Chains.{chained_none, chained_more}
use Rattle.id_index.proofs.IdIndex.of.Goals as goal

pub loop-k-init : goal.loop-k-init
loop-k-init c = record { chained = chained_none _; last_long = length-replicate {A = ℕ} RESIDUES 0; before_long = length-replicate {A = ℕ} OWNED 0 }

pub loop-k-preserved : goal.loop-k-preserved
loop-k-preserved c =
    let v = c.loop-k.invariant in
    record {
      chained = chained_more v.chained c.residue-r.ensures.0 v.last_long (omega arith);
      last_long = length-set _ _ _ ∙ v.last_long;
      before_long = length-set _ _ _ ∙ v.before_long;
    }
