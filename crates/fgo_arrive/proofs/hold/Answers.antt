use Prim.Native.Nat.{ℕ, ◌+◌, ◌*◌, ◌≤◌}
use native.Mathlib.Omega.{arith}
use mathlib.Core.Path.{◌≡◌, refl, sym, ap}
use lib.Seq.{length-take-le}
use mathlib.Core.List.{List, flat_map}
use lib.ListN.{length, take}
use Rattle.bounds.specs.Bounds.{ASSOCIATIONS, BODY, BODIES, COLUMN, COLUMNS}
use Rattle.engine.specs.Body.{Body, associations_in, body_of}
use Rattle.fgo_place.specs.declared.placing.Placing.{Placing}
use Rattle.fgo_state.specs.declared.state.FixedLagRefiner.{FixedLagRefiner}
use Rattle.buffers.specs.Buffers.{over}
use Rattle.fgo_state.specs.Memory.{slot_at, column_words, owner_words}
use Rattle.fgo_place.specs.Placing.{Placed}
use Rattle.fgo_arrive.specs.Arriving.{placed_by, Holds, HeldBy}
use Rattle.fgo_state.proofs.Counts.{associations_few}
use Rattle.fgo_state.proofs.OtherSlots.{body_else}
use Rattle.fgo_arrive.proofs.HeldScans.{body_fits, written, body_here, scans_more}
use Rattle.fgo_arrive.proofs.hold.Goals as goal

-- where the frame was placed, and its slot written
held_by :
    (r : FixedLagRefiner) (s : Body) (bodies columns owners : List ℕ) → Holds r s → length bodies ≡ BODIES → length columns ≡ COLUMNS → (p : Placing) (owners' ids : List ℕ) →
    owners' ≡ over 0 (flat_map owner_words (placed_by r s owners).owners) owners → Placed (associations_in s) (placed_by r s owners) p owners' ids →
    {count : ℕ} {bodies' columns' : List ℕ} → count ≡ associations_in s →
    bodies' ≡ over (BODY * slot_at (r.first.0 + r.held)) s.bytes bodies →
    columns' ≡ over (COLUMN * slot_at (r.first.0 + r.held)) (column_words s.kind (length s.bytes) (take count ids)) columns →
    HeldBy r s bodies columns owners
    (record { config = r.config; first = r.first; held = r.held + 1; frozen = r.frozen; owned = p.owned; next_id = p.next_id; counters = r.counters })
    bodies' columns' owners'
held_by r s bodies columns owners h bodies_long columns_long p owners' ids eo w ec eb ed =
    rw (eb, ed, ec)
    (record {
      settings = refl;
      first = refl;
      held = refl;
      frozen = refl;
      counters = refl;
      next_id = w.next_is;
      owned = w.few;
      owners_are = w.owners_are;
      bodies_put = refl;
      columns_put = ap (λ is. over (COLUMN * slot_at n) (column_words s.kind (length s.bytes) is) columns) w.ids_are;
      owners_put = eo;
      scans = scans_more bodies columns s ids n m fits few enough bodies_long columns_long r.first.0 r.held refl h.few refl w.ids_are;
      older = λ i l. body_else (written bodies columns s ids n m fits few enough bodies_long columns_long) (r.first.0 + i) (λ z. let k = h.few in omega arith);
      newest = body_here bodies columns s ids n m fits few enough bodies_long columns_long;
    })
  where
    n : ℕ
    n = r.first.0 + r.held

    m : ℕ
    m = associations_in s

    fits : length s.bytes ≤ BODY
    fits = body_fits s h.passes

    few : m ≤ ASSOCIATIONS
    few = associations_few s h.passes

    enough : m ≤ length ids
    enough = omega (arith, few, w.ids_long)

pub slice_bounds-ids-end : goal.slice_bounds-ids-end
slice_bounds-ids-end c = let f = c.args in omega (arith, c.association_count.ensures, associations_few (body_of f.b.now.body) c.args.b.now.passes, c.place_all-p.ensures.1.ids_long)

pub slice_bounds-put-end : goal.slice_bounds-put-end
slice_bounds-put-end c =
    let f = c.args in
    sym (length-take-le c.association_count.result c.place_all-p.new.ids (omega (arith, c.association_count.ensures, associations_few (body_of f.b.now.body) c.args.b.now.passes, c.place_all-p.ensures.1.ids_long)))

pub put-requires : goal.put-requires
put-requires c =
    let f = c.args in
    let few = associations_few (body_of f.b.now.body) c.args.b.now.passes in
    let long = length-take-le c.association_count.result c.place_all-p.new.ids (omega (arith, c.association_count.ensures, few, c.place_all-p.ensures.1.ids_long)) in
    (body_fits (body_of f.b.now.body) c.args.b.now.passes, omega (arith, long, c.association_count.ensures, few))

pub returns : goal.returns
returns c = let f = c.args in
    held_by f.r.now (body_of f.b.now.body) f.scans.now.bodies f.scans.now.columns f.owners.now c.requires c.typed.ensures.bodies_long c.typed.ensures.columns_long c.place_all-p.result c.place_all-p.new.owners
    c.place_all-p.new.ids c.place_all-p.ensures.0 c.place_all-p.ensures.1 c.association_count.ensures.count (rw c.later.ensures at c.put.ensures.bodies) (rw c.later.ensures at c.put.ensures.columns)
