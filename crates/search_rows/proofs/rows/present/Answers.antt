use mathlib.Core.Path.{◌≡◌, refl, sym, ap, subst}
use Prim.Native.Nat.{ℕ, ◌≤◌, ◌<◌}
use mathlib.Core.List.{List}
use native.Mathlib.Omega.{arith}
use lib.ListN.{length, get_or, take}
use lib.Seq.{get_or-take, length-take-le}
use Rattle.fgo_spec.specs.Lists.{keep}
use Rattle.search_rows.specs.Rows.{present_in, Ascends, Begins}
use Rattle.search_rows.proofs.IdsAscend.{present_ascends, present-length, present_same, present_more}
use Rattle.search_rows.proofs.rows.present.Goals as goal
use Rattle.search_rows.proofs.rows.present.Goals.{then-x-gt0, else-x-gt0}

-- no more are listed than were looked at
few : (i m : ℕ) (ids table : List ℕ) → Begins (present_in i ids) m table → m ≤ i
few i m ids table b = omega (arith, ap length b.is, length-take-le m table (omega (arith, b.within, b.long)), present-length i ids)

pub loop-x-init : goal.loop-x-init
unfolding present_in keep
loop-x-init c = record { within = omega arith; long = omega arith; is = refl }

pub shared_ref_as_front-place_near : goal.shared_ref_as_front-place_near
shared_ref_as_front-place_near c = omega (arith, c.loop-x.invariant.within)

pub place_near-p-requires : goal.place_near-p-requires
place_near-p-requires c = subst (Ascends 0) (sym c.loop-x.invariant.is) (present_ascends c.loop-x.x-index c.args.ids.now)

pub insert-m-requires : goal.insert-m-requires
insert-m-requires c =
    let s = c.args in
    let o = c.loop-x.invariant in
    (omega (arith, c.loop-x-test.true, length-take-le s.n s.ids.now (omega arith), few c.loop-x.x-index c.loop-x.m s.ids.now c.loop-x.table o), c.place_near-p.ensures)

pub loop-x-preserved : goal.loop-x-preserved
loop-x-preserved c =
    let s = c.args in
    let i = c.loop-x.x-index in
    let m = length-take-le s.n s.ids.now (omega arith) in
    let h : i < length s.ids.now = omega (arith, c.loop-x-test.true) in
    let x : get_or (take s.n s.ids.now) i 0 ≡ get_or s.ids.now i 0 = get_or-take s.n s.ids.now i 0 (omega (arith, c.loop-x-test.true)) in
    elim c.if-x-gt0.branch [
      | then-x-gt0 w ↦ rw (w.table-is, w.m-is, present_more i s.ids.now h (rw x at w.if-x-gt0.true)) (rw (x, c.loop-x.invariant.is) at w.insert-m.ensures)
      | else-x-gt0 w ↦ rw (w.table-is, w.m-is, present_same i s.ids.now h (rw x at w.if-x-gt0.false)) c.loop-x.invariant
    ]

pub returns : goal.returns
returns c = let s = c.args in
    let q : c.loop-x.x-index ≡ s.n = omega (arith, c.loop-x-test.false, length-take-le s.n s.ids.now (omega arith)) in
    subst (λ (k : ℕ). Begins (present_in k s.ids.now) c.loop-x.m c.loop-x.table) q c.loop-x.invariant
