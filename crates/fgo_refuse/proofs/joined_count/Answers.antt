use native.Mathlib.Omega.{arith}
use mathlib.Core.Path.{◌≡◌, refl, sym, ap, ◌∙◌}
use lib.ListN.{take}
use lib.Seq.{take_at}
use Rattle.engine.specs.declared.types.Association.{Association}
use Rattle.engine.specs.Body.{body_of}
use Rattle.engine.proofs.Passing.{length-rows}
use Rattle.buffers.specs.Buffers.{over}
use Rattle.fgo_state.specs.Memory.{engine_at}
use Rattle.fgo_state.specs.Owners.{engines_in}
use Rattle.fgo_state.proofs.Counts.{associations_few}
use Rattle.fgo_refuse.proofs.Joining.{joins_none, joins_more, joins_all}
use Rattle.fgo_refuse.proofs.joined_count.Goals as goal

pub loop-j-init : goal.loop-j-init
loop-j-init c = joins_none _ _ (body_of c.args.b.now.body) _ c.association_count-j.ensures.count

pub join-requires : goal.join-requires
join-requires c = omega (arith, c.loop-j.invariant.few, c.loop-j-test.true, associations_few (body_of c.args.b.now.body) c.args.b.now.passes)

pub loop-j-preserved : goal.loop-j-preserved
loop-j-preserved c = joins_more _ _ _ c.loop-j.invariant c.loop-j-test.true (sym c.in_default.is ∙ ap (λ (a : Association). a.track) c.association.ensures) refl (omega arith)

pub loop-j-preserved-in-Some : goal.loop-j-preserved-in-Some
unfolding over
loop-j-preserved-in-Some c =
    let o = c.args.o.now in
    let keys : c.of-owners.result.ids.now ≡ engines_in o.entries.now o.owned =
    c.of-owners.ensures ∙ ap (take o.owned) c.keys.ensures ∙ take_at (engines_in o.entries.now o.owned) _ o.owned (length-rows (engine_at o.entries.now) 0 o.owned) in
    joins_more _ _ _ c.loop-j.invariant c.loop-j-test.true (sym c.in-Some.is ∙ ap (λ (a : Association). a.track) c.association.ensures) (rw keys at c.join.ensures.ids) c.join.ensures.count

pub returns : goal.returns
returns c = joins_all _ _ _ c.loop-j.invariant c.loop-j-test.false
