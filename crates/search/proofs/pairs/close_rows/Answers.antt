use mathlib.Core.Path.{sym, refl, ◌∙◌}
use native.Mathlib.Omega.{arith}
use Rattle.search_neighbours.specs.Near.{row_at}
use Rattle.search_neighbours.proofs.Enclosing.{far_rows}
use Rattle.search.proofs.Meeting.{rows-within}
use Rattle.search.proofs.pairs.close_rows.Goals as goal
use Rattle.search.proofs.pairs.close_rows.Goals.{then-not-meet-via-then-not-meet, then-not-meet-via-else-not-meet+then-is_far}

pub close_scans-requires : goal.close_scans-requires
close_scans-requires c =
    let p = c.requires in
    rows-within c.args.pass.now.radius2 _ _ _ p.2 p.3 c.close_from.ensures c.close_to.ensures (omega arith)

pub returns-then-not-meet : goal.returns-then-not-meet
returns-then-not-meet c =
    let p = c.args.pass.now in
    let row = row_at p.list.now.rows in
    elim c.then-not-meet.branch [
      | then-not-meet-via-then-not-meet w ↦ rw (sym c.meet.ensures ∙ w.if-not-meet.true) refl
      | then-not-meet-via-else-not-meet+then-is_far w ↦
          let far = rw (w.extent_at.ensures, w.extent_at-else-not-meet.ensures) at (sym w.is_far.ensures ∙ w.if-is_far.true) in
          rw (sym c.meet.ensures ∙ w.if-not-meet.false, far_rows p.radius2 _ (row c.args.i) (row c.args.j) far) refl
    ]
