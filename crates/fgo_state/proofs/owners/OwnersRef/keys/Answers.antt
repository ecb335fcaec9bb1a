use Rattle.std.proofs.Common.{◌≡◌, ℕ, ◌++◌, length, sym, ap, ◌∙◌, arith}
use Rattle.std.proofs.lemmas.List.{same_lists, get_or_default, drop-drop}
use Rattle.buffers.specs.Buffers.{over}
use Rattle.engine.proofs.Passing.{row_at, length-rows}
use Rattle.fgo_state.specs.Memory.{engine_at}
use Rattle.fgo_state.specs.Owners.{engines_in}
use Rattle.fgo_state.proofs.owners.OwnersRef.keys.Goals as goal

pub returns : goal.returns
unfolding over
returns c =
    let o = c.args.self.now in
    let n = o.owned in
    let g : ℕ → ℕ = engine_at o.entries.now in
    let l = c.args.all.now in
    let ks = c.loop-k.id-items in
    let long : length (engines_in o.entries.now n) ≡ n = length-rows g 0 n in
    let many : length ks ≡ n = omega (arith, c.loop-k.auto.id-items) in
    let same : ks ≡ engines_in o.entries.now n = same_lists ks (engines_in o.entries.now n) (many ∙ sym long) (λ j e h. get_or_default ks j e 0 h ∙ c.loop-k.invariant j (omega (arith, c.loop-k-test.false)) ∙ sym (row_at g n j 0 (omega arith)) ∙ get_or_default (engines_in o.entries.now n) j 0 e (omega arith)) in
    rw (same, long) (ap (λ x. engines_in o.entries.now n ++ x) (drop-drop n 0 l))
