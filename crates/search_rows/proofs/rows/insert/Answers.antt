use native.Mathlib.Omega.{arith}
use Rattle.std.proofs.Common.{rules}
use Rattle.search_rows.proofs.Ascending.{place_fits, inserted_old, inserted_new}
use Rattle.search_rows.proofs.rows.insert.Goals as goal
use Rattle.search_rows.proofs.rows.insert.Goals.{else-p-n-via-then-p-n+else-l-p, else-p-n-via-else-p-n}

pub returns-then-l-p : goal.returns-then-l-p
returns-then-l-p c = let s = c.args in
    inserted_old s.x.0 s.n s.p s.l.now c.requires.0 (omega arith) c.requires.1 (omega arith) c.if-l-p.true

pub move_up-requires : goal.move_up-requires
move_up-requires c = let s = c.args in
    (place_fits s.x.0 s.n s.p s.l.now (omega arith) c.requires.1, c.requires.0)

pub offset_bounds-l-p-2 : goal.offset_bounds-l-p-2
offset_bounds-l-p-2 c = let s = c.args in
    omega (arith, c.requires.0, place_fits s.x.0 s.n s.p s.l.now (omega arith) c.requires.1)

pub bounds-l-p-2 : goal.bounds-l-p-2
bounds-l-p-2 c = let s = c.args in
    omega (arith, c.requires.0, place_fits s.x.0 s.n s.p s.l.now (omega arith) c.requires.1)

pub returns : goal.returns
returns c = let s = c.args in
    let m = c.move_up.ensures in
    inserted_new s.x.0 s.n s.p s.l.now _ c.requires.0 (omega arith) c.requires.1
    (elim c.else-p-n.branch [
      | else-p-n-via-then-p-n+else-l-p w ↦ (λ h e. w.if-l-p.false e)
      | else-p-n-via-else-p-n w ↦ (λ h e. absurd (omega (arith, w.if-p-n.false)))
    ])
    (search rules) m.before_stays m.moved_up
