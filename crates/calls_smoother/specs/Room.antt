-- How much of a window is lent. Definitions only.
use Rattle.std.specs.Prelude.{◌≤◌}
use Rattle.bounds.specs.Bounds.{WINDOW, VALUES}
use Rattle.smoother_window.specs.declared.size.WindowSize.{WindowSize}
use Rattle.calls_smoother.specs.declared.window.Room.{Room}
use Rattle.calls_smoother.specs.declared.window.Room.TheVariants.{Asked, Said}

-- so many words and numbers
abbrev pub size_of : Room → WindowSize
size_of (Asked size) = size
size_of (Said size) = size

-- so much of it can be lent
pub record Fits (room : Room) : Type 0 where
  pub words : (size_of room).words ≤ WINDOW
  pub numbers : (size_of room).numbers ≤ VALUES
