use Prim.Native.Nat.{ℕ}
use mathlib.Core.Bool.{Bool}
use Rattle.std.proofs.Common.{refl, rules, tests}
use Rattle.fgo_state.specs.Live.{live_among}
use Rattle.fgo_state.specs.Memory.{owner_at}
use Rattle.fgo_rule.specs.Tests.{lives_in}
use Rattle.engine.proofs.Ranges.{all_of_range}
use Rattle.fgo_rule.proofs.lives_ok.Goals as goal

pub returns : goal.returns
unfolding lives_in
returns c =
    let o = c.args.o.now in
    let test : ℕ → Bool = λ k. live_among c.args.live.now (owner_at o.entries.now k) in
    all_of_range test o.owned refl c.all.ensures.ran (λ i b q t. search (rules, tests))
