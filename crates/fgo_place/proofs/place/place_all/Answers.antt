use Prim.Native.Nat.{ℕ, ◌+◌, ◌≤◌}
use native.Mathlib.Numerals.{add-one}
use native.Mathlib.Omega.{arith}
use mathlib.Core.Path.{◌≡◌, refl, sym, ap, ◌∙◌, subst}
use mathlib.Core.List.{flat_map}
use lib.ListN.{length, take}
use lib.Seq.{take_all}
use borrow.Author.Rules.{rules}
use Rattle.bounds.specs.Bounds.{OWNERS}
use Rattle.buffers.specs.Buffers.{over}
use Rattle.engine.specs.Body.{body_of, frame_in, associations_in}
use Rattle.fgo_place.specs.Placing.{placed_all, Placed, begins}
use Rattle.fgo_state.specs.Memory.{owner_words}
use Rattle.fgo_state.proofs.Counts.{associations_long, associations_few}
use Rattle.fgo_state.proofs.OwnerCells.{owners_over}
use Rattle.fgo_place.proofs.Owners.{grown_none, grown_more}
use Rattle.fgo_place.proofs.PlacingSteps.{placed-more}
use Rattle.fgo_place.proofs.place.place_all.Goals as goal

pub loop-j-init : goal.loop-j-init
loop-j-init c = let f = c.args in
    let h = c.requires in
    let low : f.begun.next_id.0 ≤ f.begun.next_id.0 + 0 = omega arith in (
      omega arith,
      low,
      (unfold placed_all in record { few = f.begun.few; owners_long = search rules; ids_long = search rules; ids_are = refl; owners_are = refl; next_is = refl }),
      grown_none f.begun.owned f.owners.now,
    )

pub place_one-p-requires : goal.place_one-p-requires
place_one-p-requires c = let v = c.loop-j.invariant in
    let h = c.requires in
    let few = associations_few (body_of c.args.b.now.body) c.args.b.now.passes in
    let taken = c.loop-j-test.true in
    let count = c.association_count-j-end.ensures in
    (omega arith, omega arith)

pub loop-j-preserved : goal.loop-j-preserved
loop-j-preserved c = let f = c.args in
    let l = c.loop-j in
    let v = c.loop-j.invariant in
    let few = associations_few (body_of c.args.b.now.body) c.args.b.now.passes in
    let taken = c.loop-j-test.true in
    let count = c.association_count-j-end.ensures in
    let more = c.place_one-p.ensures.next in
    let step =
    ap (λ (k : ℕ). placed_all f.begun.next_id.0 (take k (frame_in (body_of f.b.now.body)).associations) (begins f.owners.now f.begun.owned f.begun.next_id.0)) (add-one l.j)
    ∙ placed-more f.begun.next_id.0 (frame_in (body_of f.b.now.body)).associations l.j (begins f.owners.now f.begun.owned f.begun.next_id.0) (rw (associations_long (body_of f.b.now.body)) (omega arith)) in (
      omega arith,
      omega arith,
      rw (step, ← c.association.ensures) (c.place_one-p.ensures.placed _ v.2),
      grown_more v.3 c.place_one-p.ensures.grown,
    )

pub returns : goal.returns
returns c = let f = c.args in
    let l = c.loop-j in
    let v = c.loop-j.invariant in
    let long : length f.owners.now ≡ OWNERS = search rules in
    let cells = owners_over l.p.owned l.owners f.owners.now (omega (arith, v.2.few)) (v.2.owners_long ∙ sym long) v.3.rest in
    let left = c.loop-j-test.false in
    let count = c.association_count-j-end.ensures in
    let same : c.loop-j.j ≡ associations_in (body_of f.b.now.body) = omega arith in
    let all : take (associations_in (body_of f.b.now.body)) (frame_in (body_of f.b.now.body)).associations ≡ (frame_in (body_of f.b.now.body)).associations =
    take_all (associations_in (body_of f.b.now.body)) (frame_in (body_of f.b.now.body)).associations (rw (associations_long (body_of f.b.now.body)) (omega arith)) in
    let placed = rw all at
    (subst
    (λ (k : ℕ). Placed k (placed_all f.begun.next_id.0 (take k (frame_in (body_of f.b.now.body)).associations) (begins f.owners.now f.begun.owned f.begun.next_id.0)) l.p l.owners l.ids)
    same v.2) in
    (cells ∙ ap (λ os. over 0 (flat_map owner_words os) f.owners.now) placed.owners_are, placed)
