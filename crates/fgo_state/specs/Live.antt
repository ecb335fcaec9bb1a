-- Which tracks are live, by what is lent of them. Definitions only.
use Rattle.std.specs.Prelude.{ℕ, Bool}
use Rattle.fgo_state.specs.declared.state.LiveTracks.{LiveTracks}
use Rattle.fgo_state.specs.Memory.{live_in}

-- a track has a frozen part or a window
abbrev pub live_among : LiveTracks → ℕ → Bool
live_among l x =
    live_in l.held.scans.now.bodies l.held.scans.now.columns l.held.first.0 l.held.count l.frozen.tracks.now l.frozen.count x
