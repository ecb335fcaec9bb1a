use Prim.Native.Nat.{ℕ, ◌-◌}
use mathlib.Core.List.{List}
use Rattle.engine.specs.Config.{max_passes_of}
use Rattle.fgo_spec.specs.Windows.{Scan, Prefix}
use Rattle.search.specs.Lent.{scene_in}
use Rattle.search.specs.Represents.{Represents}
use Rattle.search.specs.Stands.{progress_in, LeftIn}
use Rattle.search.proofs.PassFinds.{Follows}
use Rattle.search.proofs.pass.run_passes.Given as goal

abbrev pub invariant-loop : goal.invariant-loop
invariant-loop l =
    let e = scene_in l.scene in
    let o = l.initial.state in
    record {
      left : LeftIn l.scene l.list l.state;
      follows : (ps : List (ℕ × Prefix)) (ss : List Scan) → Represents e o.tally.next_id.0 o.tally.counters o.ids ps ss →
          Follows e ps ss o.tally.next_id.0 o.tally.counters (max_passes_of l.scene.prices.now.config - l.counter) (progress_in l.state);
    }
