use mathlib.Core.Path.{◌≡◌}
use mathlib.Core.Logic.{inl, inr}
use Prim.Native.Nat.{ℕ, suc, ◌+◌, ◌-◌, ◌≤◌, ◌<◌}
use native.Mathlib.Nat.{sub-zero}
use native.Mathlib.Omega.{arith}
use Rattle.std.proofs.Common.{rules}
use Rattle.bounds.specs.Bounds.{DETECTIONS}
use Rattle.engine.specs.Config.{max_passes_of}
use Rattle.search.specs.declared.scene.SceneRef.{SceneRef}
use Rattle.search.proofs.PassFinds.{follows_begins, follows_known, follows_more, follows_ends}
use Rattle.search.proofs.pass.run_passes.Goals as goal

one_less : (most k : ℕ) → k < most → most - k ≡ suc (most - (k + 1))
one_less most k h = omega arith

few : (s : SceneRef) → s.detections ≤ DETECTIONS
few s = omega (arith, s.ends, s.starts.now.rise.ends)

pub loop-init : goal.loop-init
loop-init c =
    let s = c.args in
    let p = c.requires.begins in
    record {
      left = search rules;
      follows = λ ps ss g. rw sub-zero (follows_begins s.state.now.tally s.scene.now.starts.now.rise p.0 p.1 g);
    }

pub run_pass-requires : goal.run_pass-requires
run_pass-requires c =
    let s = c.args.scene.now in
    let o = c.loop in
    let r = c.requires.searchable in
    (o.invariant.left, follows_known r.1.1.parts (few s) (rw (one_less (max_passes_of s.prices.now.config) o.counter (omega arith)) at (o.invariant.follows r.0 r.1.0 r.1.1)))

pub loop-preserved : goal.loop-preserved
loop-preserved c =
    let s = c.args.scene.now in
    let o = c.loop in
    let r = c.run_pass.ensures in
    record {
      left = r.left;
      follows = λ ps ss g. follows_more g.parts (few s) (rw (one_less (max_passes_of s.prices.now.config) o.counter (omega arith)) at (o.invariant.follows ps ss g)) c.if-not-state.false r.passed;
    }

pub returns-then-not-state-clause-found : goal.returns-then-not-state-clause-found
returns-then-not-state-clause-found c = λ ps ss g. follows_ends (c.loop.invariant.follows ps ss g) (inr c.if-not-state.true)

pub returns-clause-found : goal.returns-clause-found
returns-clause-found c = λ ps ss g. follows_ends (c.loop.invariant.follows ps ss g) (inl (omega arith))
