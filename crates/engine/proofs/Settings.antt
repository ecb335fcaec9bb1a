-- What legal settings tell. Assumes nothing.
use Prim.Native.Nat.{◌≤◌}
use mathlib.Core.Path.{◌≡◌}
use mathlib.Core.Bool.{true}
use borrow.Author.Tests.{leb-true}
use Rattle.bounds.specs.Bounds.{LAG, PASSES}
use Rattle.scalar.specs.Scalar.{finite}
use Rattle.engine.specs.declared.config.FgoConfig.{FgoConfig}
use Rattle.engine.specs.Config.{legal, lag, radius, birth, miss, clutter, density, sigma, variance, max_passes_of}
use Rattle.engine.proofs.Every.{both}

pub record Legal (c : FgoConfig) : Type 0 where
  pub lag : lag c ≤ LAG
  pub passes : max_passes_of c ≤ PASSES
  pub radius : finite (radius c) ≡ true
  pub birth : finite (birth c) ≡ true
  pub miss : finite (miss c) ≡ true
  pub clutter : finite (clutter c) ≡ true
  pub density : finite (density c) ≡ true
  pub sigma : finite (sigma c) ≡ true
  pub variance : finite (variance c) ≡ true

pub legal_tells : (c : FgoConfig) → legal c ≡ true → Legal c
unfolding legal
legal_tells c h =
    let h1 = both _ _ h in
    let h2 = both _ _ h1.1 in
    let h3 = both _ _ h2.1 in
    let h4 = both _ _ h3.1 in
    let h5 = both _ _ h4.1 in
    let h6 = both _ _ h5.1 in
    let h7 = both _ _ h6.1 in
    let h8 = both _ _ h7.1 in
    record {
      lag = leb-true _ _ h1.0;
      passes = leb-true _ _ h2.0;
      radius = h3.0;
      birth = h4.0;
      miss = h5.0;
      clutter = h6.0;
      density = h7.0;
      sigma = h8.0;
      variance = h8.1;
    }
