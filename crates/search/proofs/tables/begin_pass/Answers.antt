use mathlib.Core.Path.{◌≡◌, refl}
use Prim.Native.Nat.{ℕ, ◌+◌, ◌≤◌, ◌<◌}
use mathlib.Core.List.{List}
use native.Mathlib.Omega.{arith}
use lib.ListN.{length, take, drop, length-drop}
use lib.Seq.{length-take-le}
use Rattle.std.proofs.Common.{rules}
use Rattle.fgo_spec.specs.Lists.{place_in}
use Rattle.search_rows.proofs.Ascending.{place-within}
use Rattle.search.proofs.Listing.{present_listed, listed-each}
use Rattle.search.proofs.Carrying.{carried-more, due_is}
use Rattle.search.proofs.tables.begin_pass.Goals as goal

-- a place among the first n
place_by : (x k n p : ℕ) (l : List ℕ) → p ≡ k + place_in x (drop k (take n l)) → k ≤ n → n ≤ length l → p ≤ n
place_by x k n p l e h f =
    let t = take n l in
    omega (arith, e, place-within x (drop k t) (place_in x (drop k t)) refl, length-drop k t, length-take-le n l f)

pub loop-i-preserved : goal.loop-i-preserved
loop-i-preserved c =
    let o = c.loop-i.invariant in
    let l = c.requires.0.listed in (
      carried-more (omega (arith, c.present-list.ensures.within)) o.0 c.carry-c.result.cost c.carry-c.result.due (rw o.5 at c.carry-c.ensures.cost) c.carry-c.ensures.due,
      place_by _ _ _ _ _ c.place_from-k.ensures o.1 (omega (arith, l.within, l.long)),
      o.2,
      o.3,
      o.4,
      o.5,
      o.6,
    )

pub returns-clause-due : goal.returns-clause-due
returns-clause-due c =
    let s = c.args in
    let o = c.loop-i.invariant in
    let b = c.present-list.ensures in
    let q : c.loop-i.i ≡ c.present-list.result = omega arith in
    let k = rw (o.3, q) at o.0 in
    rw (o.2, o.3, o.4) (due_is c.requires.0 (present_listed s.scene.now.detections s.state.now.ids c.present-list.result _ b) c.fill_rows.ensures k)

pub returns-clause-swept : goal.returns-clause-swept
returns-clause-swept c =
    let s = c.args in
    let o = c.loop-i.invariant in
    let b = c.present-list.ensures in
    let q : c.loop-i.i ≡ c.present-list.result = omega arith in
    let k = rw (o.3, q) at o.0 in
    rw (o.2, o.3, o.4, o.5, o.6)
    record {
      below = listed-each s.scene.now.detections s.state.now.ids c.present-list.result _ b (λ x. x < s.state.now.tally.next_id.0) c.requires.1;
      costed = k.costed;
      entered = search rules;
      marks = search rules;
      same = search rules;
    }
