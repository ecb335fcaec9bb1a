use Rattle.fgo_place.proofs.Compacting.{Compacts}
use Prim.Native.Nat.{ℕ}
use mathlib.Core.Bool.{Bool}
use Rattle.fgo_state.specs.declared.state.LiveTracks.{LiveTracks}
use Rattle.fgo_state.specs.Live.{live_among}
use Rattle.fgo_place.proofs.own.keep_owners.Given as goal

-- whether an entry has a live owner
abbrev pub lives : LiveTracks → ℕ × ℕ → Bool
lives live o = live_among live o.1

abbrev pub invariant-loop-k : goal.invariant-loop-k
invariant-loop-k l = Compacts (lives l.live) l.initial.owners l.owned l.w l.k l.owners
