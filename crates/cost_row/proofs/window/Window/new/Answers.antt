use mathlib.Core.Path.{◌∙◌, ap}
use Rattle.std.specs.Prelude.{length}
use Rattle.cost_row.proofs.window.Window.new.Goals as goal

pub invariant_of-result : goal.invariant_of-result
invariant_of-result c = record { fit = record { idle = c.requires; long = ap length c.new.ensures.slots ∙ c.told-row } }
