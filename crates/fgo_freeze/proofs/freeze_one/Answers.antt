use Prim.Native.Nat.{◌+◌, ◌<◌}
use mathlib.Core.Path.{◌≡◌, sym, ◌∙◌}
use mathlib.Core.Option.{none, some}
use native.Mathlib.Numerals.{add-one}
use native.Mathlib.Omega.{arith}
use borrow.Author.Rules.{rules}
use lib.ListN.{length}
use Rattle.bounds.specs.Bounds.{FROZEN, PARTS, FILTERS}
use Rattle.engine.proofs.Ids.{same_id, other_id}
use Rattle.fgo_part.specs.Parts.{part_id, prefix_of}
use Rattle.fgo_freeze.specs.Frozen.{detection_by, Past}
use Rattle.fgo_freeze.proofs.Pasts.{past_then, past_put}
use Rattle.fgo_freeze.proofs.Order.{ordered_rises}
use Rattle.fgo_freeze.proofs.FrozenOne.{can_move, one_moved, one-begun, few_frozen}
use Rattle.fgo_freeze.proofs.freeze_one.Goals as goal
use Rattle.fgo_freeze.proofs.freeze_one.Goals.{else-k-frozen-via-then-k-frozen+else-eq, else-k-frozen-via-else-k-frozen}

pub invariant_of-tracks-clause-rises : goal.invariant_of-tracks-clause-rises
invariant_of-tracks-clause-rises c =
    let a = c.args in
    ordered_rises c.requires.most a.parts.now.tracks a.parts.now.filters a.frozen c.requires.ordered

pub freeze-requires : goal.freeze-requires
freeze-requires c =
    let a = c.args in
    let p = c.requires in
    can_move a.c a.parts.now.tracks a.parts.now.filters a.frozen a.id.0 c.place_of-k.result (detection_by a.d) c.place_of-k.ensures.0 p.most p.small p.ordered c.if-k-frozen.true c.prefix_at-p.result c.prefix_at-p.ensures

pub put-requires : goal.put-requires
put-requires c =
    let a = c.args in
    (omega (arith, c.requires.room), few_frozen a.c (some (prefix_of c.prefix_at-p.result)) (detection_by a.d) c.freeze.result c.freeze.ensures)

pub returns-then-eq : goal.returns-then-eq
returns-then-eq c =
    let a = c.args in
    let wide : length a.parts.now.tracks ≡ PARTS = search rules in
    let deep : length a.parts.now.filters ≡ FILTERS = search rules in
    record {
      past = past_put a.frozen a.parts.now.tracks a.parts.now.filters c.place_of-k.result a.id.0 c.freeze.result c.if-k-frozen.true (omega (arith, c.requires.room)) wide deep c.put.ensures;
      table = one_moved a.c a.parts.now.tracks a.parts.now.filters a.frozen a.id.0 c.place_of-k.result (detection_by a.d) c.place_of-k.ensures.0 c.if-k-frozen.true (sym c.part_id.ensures ∙ (same_id c.eq.ensures c.if-eq.true)) c.prefix_at-p.result c.freeze.result c.prefix_at-p.ensures c.freeze.ensures c.put.ensures;
    }

pub put-requires-2 : goal.put-requires-2
put-requires-2 c =
    let a = c.args in
    (omega (arith, c.requires.room, c.place_of-k.ensures.1), few_frozen a.c none (detection_by a.d) c.fresh.result c.fresh.ensures)

pub returns : goal.returns
returns c =
    let a = c.args in
    let k = c.place_of-k.result in
    let wide : length a.parts.now.tracks ≡ PARTS = search rules in
    let deep : length a.parts.now.filters ≡ FILTERS = search rules in
    let ne : k < a.frozen → part_id a.parts.now.tracks k ≡ a.id.0 → ⊥ =
    elim c.else-k-frozen.branch [
      | else-k-frozen-via-then-k-frozen+else-eq w ↦ λ h e. (other_id w.eq.ensures w.if-eq.false) (w.part_id.ensures ∙ e)
      | else-k-frozen-via-else-k-frozen w ↦ λ h. absurd (omega (arith, w.if-k-frozen.false))
    ] in
    let room : k < FROZEN = omega (arith, c.requires.room, c.place_of-k.ensures.1) in
    let u : k < a.frozen + 1 = omega (arith, c.place_of-k.ensures.1) in
    let first : Past (a.frozen + 1) a.parts.now.tracks a.parts.now.filters c.make_room.new.parts.tracks c.make_room.new.parts.filters = rw add-one c.make_room.ensures.past in
    record {
      past =
          past_then (a.frozen + 1) a.parts.now.tracks a.parts.now.filters first
          (past_put (a.frozen + 1) c.make_room.new.parts.tracks c.make_room.new.parts.filters k a.id.0 c.fresh.result u room (c.make_room.ensures.wide ∙ wide) (c.make_room.ensures.deep ∙ deep) c.put-2.ensures);
      table = one-begun a.c a.parts.now.tracks a.parts.now.filters a.frozen a.id.0 k (detection_by a.d) c.place_of-k.ensures.0 c.requires.most c.requires.ordered ne c.fresh.result c.fresh.ensures c.make_room.ensures c.put-2.ensures;
    }
