use Prim.Native.Nat.{◌+◌, ◌≤◌}
use lib.ListN.{take}
use Rattle.engine.specs.Body.{body_of, frame_in, associations_in}
use Rattle.fgo_place.specs.Placing.{placed_all, Grown, Placed, begins}
use Rattle.fgo_place.proofs.place.place_all.Given as goal

abbrev pub invariant-loop-j : goal.invariant-loop-j
invariant-loop-j l =
    (l.j ≤ associations_in (body_of l.b.body)) × (l.p.next_id.0 ≤ l.begun.next_id.0 + l.j) × Placed l.j (placed_all l.begun.next_id.0 (take l.j (frame_in (body_of l.b.body)).associations) (begins l.initial.owners l.begun.owned l.begun.next_id.0)) l.p l.owners l.ids × Grown l.begun.owned l.p.owned l.initial.owners l.owners
