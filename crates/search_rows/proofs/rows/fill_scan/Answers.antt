use Prim.Native.Nat.{◌+◌}
use native.Mathlib.Omega.{arith}
use Rattle.search_rows.proofs.Joining.{listed_ascends, place_listed, entry-whole, table_stays, table_joins}
use Rattle.search_rows.proofs.Renamed.{starts_within}
use Rattle.search_rows.proofs.rows.fill_scan.Goals as goal
use Rattle.search_rows.proofs.rows.fill_scan.Goals.{then-ids-i-gt0, else-ids-i-gt0}

pub place_near-p-requires : goal.place_near-p-requires
place_near-p-requires c = listed_ascends c.args.starts.now.rise c.args.ids.now (omega arith) c.requires.1

pub offset_bounds-rows-p : goal.offset_bounds-rows-p
offset_bounds-rows-p c =
    let s = c.args in
    let p = c.requires in
    omega (arith, p.1.within, place_listed s.starts.now.rise s.ids.now (omega arith) p.1 p.0 c.loop-i.auto.i c.loop-i-test.true c.if-ids-i-gt0.true c.place_near-p.ensures)

pub bounds-rows-p : goal.bounds-rows-p
bounds-rows-p c =
    let s = c.args in
    let p = c.requires in
    omega (arith, p.1.within, place_listed s.starts.now.rise s.ids.now (omega arith) p.1 p.0 c.loop-i.auto.i c.loop-i-test.true c.if-ids-i-gt0.true c.place_near-p.ensures)

pub join-requires : goal.join-requires
join-requires c =
    let s = c.args in
    let p = c.requires in (
      p.0,
      omega (arith, c.loop-i-test.true, starts_within s.starts.now.rise (s.k + 1) (omega (arith, p.0))),
      entry-whole c.loop-i.invariant _ (place_listed s.starts.now.rise s.ids.now (omega arith) p.1 p.0 c.loop-i.auto.i c.loop-i-test.true c.if-ids-i-gt0.true c.place_near-p.ensures),
    )

pub loop-i-preserved : goal.loop-i-preserved
loop-i-preserved c =
    let s = c.args in
    let p = c.requires in
    let o = c.loop-i in
    elim c.if-ids-i-gt0.branch [
      | then-ids-i-gt0 w ↦ rw w.rows-is
          (table_joins s.starts.now.rise s.ids.now (omega arith) p.1 p.0 o.auto.i c.loop-i-test.true w.if-ids-i-gt0.true w.place_near-p.ensures o.invariant _ w.join.ensures)
      | else-ids-i-gt0 w ↦ rw w.rows-is (table_stays s.starts.now.rise s.ids.now (omega arith) p.1 p.0 o.auto.i c.loop-i-test.true w.if-ids-i-gt0.false o.invariant)
    ]
