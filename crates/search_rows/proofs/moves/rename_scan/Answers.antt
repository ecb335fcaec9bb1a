use mathlib.Core.Path.{◌≡◌, sym, ap, ◌∙◌}
use mathlib.Core.List.{List, ◌++◌}
use Prim.Native.Nat.{ℕ, ◌+◌, ◌-◌}
use native.Mathlib.Omega.{arith}
use mathlib.Core.Bool.{false}
use lib.Dec.{eqb}
use lib.ListN.{get_or, take, drop}
use borrow.Author.Tests.{eq-eqb, ne_eqb}
use Rattle.fgo_spec.specs.Lists.{segment}
use Rattle.search_rows.specs.Moves.{retarget}
use Rattle.search_rows.proofs.Segments.{over_turn, over_all, over_part}
use Rattle.search_rows.proofs.Renamed.{starts_ordered}
use Rattle.search_rows.proofs.moves.rename_scan.Goals as goal
use Rattle.search_rows.proofs.moves.rename_scan.Goals.{then-x-a, else-x-a+then-x-b, else-x-a+else-x-b}

pub loop-x-preserved : goal.loop-x-preserved
loop-x-preserved c =
    let s = c.args in
    let l = c.loop-x in
    let a = s.a.0 in
    let b = s.b.0 in
    let x = get_or l.x-items l.x-index 0 in
    let f = retarget a b s.t in
    let m = segment (get_or s.starts.now.places.now s.k 0) (get_or s.starts.now.places.now (s.k + 1) 0) s.ids.now in
    let turn = over_turn f 0 l.x-index m (omega arith) c.loop-x-test.true l.x-items in
    let other : (x ≡ a → ⊥) → eqb a x ≡ false = λ n. ne_eqb a x (λ e. n (sym e)) in
    elim c.if-x-a.branch [
      | then-x-a w ↦ w.x-items-is ∙ turn s.t.a.0 l.invariant (rw (eq-eqb a x (sym w.if-x-a.true)))
      | else-x-a+then-x-b w ↦
          w.x-items-is ∙ turn s.t.b.0 l.invariant (rw (other w.if-x-a.false, eq-eqb b x (sym w.if-x-b.true)))
      | else-x-a+else-x-b w ↦
          w.x-items-is ∙ turn x l.invariant (rw (other w.if-x-a.false, ne_eqb b x (λ e. w.if-x-b.false (sym e))))
    ]

pub returns : goal.returns
returns c =
    let s = c.args in
    let f = retarget s.a.0 s.b.0 s.t in
    let from = get_or s.starts.now.places.now s.k 0 in
    let to = get_or s.starts.now.places.now (s.k + 1) 0 in
    let m = segment from to s.ids.now in
    ap (λ (x : List ℕ). take from s.ids.now ++ (x ++ drop (to - from) (drop from s.ids.now))) (c.loop-x.invariant ∙ over_all f c.loop-x.x-index m c.loop-x-test.false)
    ∙ over_part f from to s.ids.now (starts_ordered s.starts.now.rise s.k (s.k + 1) (omega arith) (omega arith))
