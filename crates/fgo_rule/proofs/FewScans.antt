-- Legal settings have few scans held. Assumes nothing.
use Prim.Native.Nat.{◌≤◌}
use mathlib.Core.Path.{◌≡◌}
use mathlib.Core.Bool.{true}
use Rattle.bounds.specs.Bounds.{LAG}
use Rattle.engine.specs.declared.config.FgoConfig.{FgoConfig}
use Rattle.engine.specs.Config.{legal, lag}
use Rattle.engine.proofs.Settings.{legal_tells}

pub lag_few : (c : FgoConfig) → legal c ≡ true → lag c ≤ LAG
lag_few c h = (legal_tells c h).lag
