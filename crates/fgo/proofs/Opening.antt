-- An opening that gives a refiner was of legal settings, and gives the new one. Assumes nothing.
use Prim.Native.Nat.{ℕ}
use native.Mathlib.Omega.{arith}
use mathlib.Core.Path.{◌≡◌, refl}
use mathlib.Core.Bool.{Bool, true, false, cond}
use Rattle.buffers.specs.Answer.{opened, opened_by}
use Rattle.buffers.proofs.Checking.{open_passed}
use Rattle.engine.specs.declared.config.FgoConfig.{FgoConfig}
use Rattle.engine.specs.Config.{legal}
use Rattle.fgo_state.specs.declared.state.FixedLagRefiner.{FixedLagRefiner}
use Rattle.fgo.specs.Promise.{new_by, open_refusal}

pub opened_new : (c : FgoConfig) (r : FixedLagRefiner) → opened_by (open_refusal c) (new_by c) ≡ opened r → (legal c ≡ true) × (new_by c ≡ r)
opened_new c r e = let p = open_passed (open_refusal c) (new_by c) r e in (go (legal c) p.0, p.1)
  where
    go : (b : Bool) → ◌≡◌ {A = ℕ} (cond b 0 1) 0 → b ≡ true
    go true e = refl
    go false e = absurd (omega arith)
