use Rattle.std.proofs.Common.{◌≡◌, ◌-◌, ◌<◌, length, get_or}
use Rattle.id_index.specs.Index.{residue, StandsBelow}
use Rattle.id_index.proofs.IdIndex.place_of.Given as goal

-- every place with the id lies below p, and p is 0 or tells a place with its residue
abbrev pub invariant-loop-p : goal.invariant-loop-p
invariant-loop-p l =
    let ids = l.self.ids.now in
    record {
      none_past : StandsBelow ids l.x l.p;
      stands : 0 < l.p → (l.p - 1 < length ids) × (residue (get_or ids (l.p - 1) 0) ≡ residue l.x);
    }

abbrev pub decreases-loop-p : goal.decreases-loop-p
decreases-loop-p l = l.p
