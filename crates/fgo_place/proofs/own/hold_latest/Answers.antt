use native.Mathlib.Omega.{arith}
use mathlib.Core.Path.{◌≡◌, sym, ap, ◌∙◌}
use mathlib.Core.List.{flat_map}
use lib.ListN.{length}
use borrow.Author.Rules.{rules}
use Rattle.bounds.specs.Bounds.{OWNERS}
use Rattle.buffers.specs.Buffers.{over}
use Rattle.fgo_state.specs.Memory.{owner_words}
use Rattle.fgo_state.proofs.OwnerCells.{owners_over}
use Rattle.fgo_state.proofs.Tracks.{from_some, from_none}
use Rattle.fgo_place.proofs.Telling.{kept, changed, all_told}
use Rattle.fgo_place.proofs.own.hold_latest.Goals as goal
use Rattle.fgo_place.proofs.own.hold_latest.Goals.{in-Some, in_default}

pub loop-k-preserved : goal.loop-k-preserved
loop-k-preserved c = let f = c.args in
    let l = c.loop-k in
    let v = c.loop-k.invariant in (
      omega arith,
      v.1,
      elim c.match-latest.branch [
        | in-Some w ↦ (let s = from_some _ w.in-Some.x (sym c.latest.ensures ∙ w.in-Some.is) in changed f.gathered.now.ids f.engines.now.ids.now f.gathered.now.starts f.gathered.now.held f.owners.now f.owned l.k l.owners v.2 c.engine_at-e.ensures (sym s.0) c.loop-k-test.true v.1 s.1 (w.owners-is ∙ w.put_owner.ensures))
        | in_default w ↦ (let s = from_none _ (sym c.latest.ensures ∙ w.in_default.is) in rw w.owners-is (kept f.gathered.now.ids f.engines.now.ids.now f.gathered.now.starts f.gathered.now.held f.owners.now f.owned l.k l.owners v.2 c.engine_at-e.ensures (sym s) (omega arith)))
      ],
    )

pub returns : goal.returns
returns c = let f = c.args in
    let l = c.loop-k in
    let v = l.invariant in
    let long : length f.owners.now ≡ OWNERS = search rules in
    owners_over f.owned l.owners f.owners.now (omega (arith, c.requires.0)) (v.2.long ∙ sym long) v.2.rest
    ∙ ap (λ os. over 0 (flat_map owner_words os) f.owners.now) (all_told f.gathered.now.ids f.engines.now.ids.now f.gathered.now.starts f.gathered.now.held f.owners.now f.owned l.k l.owners c.loop-k-test.false v.2)
